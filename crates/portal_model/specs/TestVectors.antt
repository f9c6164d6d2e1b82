-- Test vectors: histories with the answers to commands and the captive state of devices. Each equation
-- holds by computing the definitions.
use Rattle.std.specs.Prelude.{◌≡◌, ℕ, true, false, List, [], ◌∷◌, ◌++◌, replicate, codes, Option, Some, None}
use Rattle.std.specs.Prelude.{option_map}
use Rattle.std.proofs.Common.{refl, lit≤}
use Rattle.portal_model.specs.declared.command.Command.{Command}
use Rattle.portal_model.specs.declared.command.Command.TheVariants.{Load, Issue, Sell, Redeem, Report, Refund}
use Rattle.portal_model.specs.declared.command.Command.TheVariants.{Close}
use Rattle.portal_model.specs.declared.change.Answer.{Answer}
use Rattle.portal_model.specs.declared.change.Answer.TheVariants.{LoadAnswer, IssueAnswer, SellAnswer}
use Rattle.portal_model.specs.declared.change.Answer.TheVariants.{RedeemAnswer, ReportAnswer}
use Rattle.portal_model.specs.declared.change.Answer.TheVariants.{RefundAnswer as PaidBack, CloseAnswer}
use Rattle.portal_model.specs.declared.plan.Plan.{Plan}
use Rattle.portal_model.specs.declared.refusal.Refusal.{Refusal}
use Rattle.portal_model.specs.declared.refusal.Refusal.TheVariants.{UnknownSession, NotSold, Refunded}
use Rattle.portal_model.specs.declared.refusal.Refusal.TheVariants.{Expired, UsedUp, NoExtend, ShapeDiffers}
use Rattle.portal_model.specs.declared.refusal.Refusal.TheVariants.{AllowanceFull, ClosedAlready}
use Rattle.portal_model.specs.declared.captive.Captive.{Captive}
use Rattle.portal_model.specs.History.{entry, History, effective_moment, voucher_of, session_of}
use Rattle.portal_model.specs.Verdict.{verdict}
use Rattle.portal_model.specs.Change.{changes_of, answer_of}
use Rattle.portal_model.specs.Captive.{captive_of}

-- the command at t is accepted with that answer
abbrev pub AnswersWith : History → ℕ → Command → Answer → Type 0
AnswersWith H t command answer =
    let t' = effective_moment H t in
    (verdict H command t' ≡ None) × (option_map answer_of (changes_of H command t') ≡ Some answer)

-- the command at t is refused with that error
abbrev pub RefusesWith : History → ℕ → Command → Refusal → Type 0
RefusesWith H t command refusal = verdict H command (effective_moment H t) ≡ Some refusal

-- the device has that captive state at t
abbrev pub ShowsCaptiveState : History → ℕ → List ℕ → Captive → Type 0
ShowsCaptiveState H t device state = captive_of H device t ≡ state

-- a plan of an hour, one use
abbrev pub hour : Plan
hour = record {
  id = codes "hour";
  price = 300;
  uses = 1;
  seconds = 3600;
  bytes = 0;
  shelf_days = 30;
  extend = true;
  id_text = record { least = lit≤ tt; most = lit≤ tt; characters = refl };
  price_limit = lit≤ tt;
  uses_least = lit≤ tt;
  uses_limit = lit≤ tt;
  seconds_limit = lit≤ tt;
  bytes_limit = lit≤ tt;
  shelf_least = lit≤ tt;
  shelf_limit = lit≤ tt;
  limits_something = lit≤ tt;
}

-- a plan of a gibibyte, three uses, which does not extend a session
abbrev pub gig : Plan
gig = record {
  id = codes "gig";
  price = 500;
  uses = 3;
  seconds = 0;
  bytes = 1073741824;
  shelf_days = 30;
  extend = false;
  id_text = record { least = lit≤ tt; most = lit≤ tt; characters = refl };
  price_limit = lit≤ tt;
  uses_least = lit≤ tt;
  uses_limit = lit≤ tt;
  seconds_limit = lit≤ tt;
  bytes_limit = lit≤ tt;
  shelf_least = lit≤ tt;
  shelf_limit = lit≤ tt;
  limits_something = lit≤ tt;
}

-- a plan of a petabyte, ten uses
abbrev pub peta : Plan
peta = record {
  id = codes "peta";
  price = 100;
  uses = 10;
  seconds = 0;
  bytes = 1000000000000000;
  shelf_days = 30;
  extend = true;
  id_text = record { least = lit≤ tt; most = lit≤ tt; characters = refl };
  price_limit = lit≤ tt;
  uses_least = lit≤ tt;
  uses_limit = lit≤ tt;
  seconds_limit = lit≤ tt;
  bytes_limit = lit≤ tt;
  shelf_least = lit≤ tt;
  shelf_limit = lit≤ tt;
  limits_something = lit≤ tt;
}

-- 02:00:00:00:00:01
abbrev pub device1 : List ℕ
device1 = 2 ∷ 0 ∷ 0 ∷ 0 ∷ 0 ∷ 1 ∷ []

-- 02:00:00:00:00:02
abbrev pub device2 : List ℕ
device2 = 2 ∷ 0 ∷ 0 ∷ 0 ∷ 0 ∷ 2 ∷ []

-- 2222-2222-2222
abbrev pub code1 : List ℕ
code1 = replicate 12 0

-- 2222-2222-223N
abbrev pub code2 : List ℕ
code2 = replicate 10 0 ++ 1 ∷ 19 ∷ []

-- 3N55-WA4S-KH53
abbrev pub code3 : List ℕ
code3 = 1 ∷ 19 ∷ 3 ∷ 3 ∷ 27 ∷ 8 ∷ 2 ∷ 23 ∷ 17 ∷ 15 ∷ 3 ∷ 1 ∷ []

-- captive, with no other value
abbrev pub is_captive : Captive
is_captive = record { captive = true; seconds = None; bytes = None; extend = None }

-- online for so many seconds, and may extend
abbrev pub has_seconds : ℕ → Captive
has_seconds seconds = record { captive = false; seconds = Some seconds; bytes = None; extend = Some true }

-- online for so many bytes, and may not extend
abbrev pub has_bytes : ℕ → Captive
has_bytes bytes = record { captive = false; seconds = None; bytes = Some bytes; extend = Some false }

-- the issue of a batch of one code
abbrev pub issue_of : List ℕ → Plan → List ℕ → Command
issue_of batch plan code = Issue batch plan.id (code ∷ [])

-- the history with one more voucher: issued as a batch of its own and sold at t
abbrev pub sold_at : ℕ → List ℕ → Plan → List ℕ → History → History
sold_at t batch plan code H = entry t (Sell code) ∷ entry t (issue_of batch plan code) ∷ H

-- the same, at 1000
abbrev pub sold_on : List ℕ → Plan → List ℕ → History → History
sold_on batch plan code H = sold_at 1000 batch plan code H

-- the two plans, loaded at 0
abbrev pub history_with_plans : History
history_with_plans = entry 0 (Load (hour ∷ gig ∷ [])) ∷ []

-- an hour, sold at 1000
abbrev pub hour_sold : History
hour_sold = sold_on (codes "b1") hour code3 history_with_plans

-- an hour from 1000 on
abbrev pub hour_redeemed : History
hour_redeemed = entry 1000 (Redeem device1 code3) ∷ hour_sold

-- an hour is issued, sold and redeemed at 1000: online until 4599, captive from 4600 on
abbrev pub IssueSellRedeem : Type 0
IssueSellRedeem =
    AnswersWith [] 0 (Load (hour ∷ gig ∷ [])) (LoadAnswer 2)
    × AnswersWith history_with_plans 1000 (issue_of (codes "b1") hour code3)
    (IssueAnswer (codes "b1") 1 2593000)
    × AnswersWith (entry 1000 (issue_of (codes "b1") hour code3) ∷ history_with_plans) 1000
    (Sell code3) (SellAnswer code3 300)
    × AnswersWith hour_sold 1000 (Redeem device1 code3) (RedeemAnswer false 1 0)
    × ShowsCaptiveState hour_redeemed 4599 device1 (has_seconds 1)
    × ShowsCaptiveState hour_redeemed 4600 device1 is_captive

-- a time before that of the last command counts as that of the last command
abbrev pub ClockSetBack : Type 0
ClockSetBack = ShowsCaptiveState hour_redeemed 900 device1 (has_seconds 3600)

-- a voucher with one use cannot be redeemed twice
abbrev pub UsedUpOnce : Type 0
UsedUpOnce = RefusesWith hour_redeemed 2000 (Redeem device1 code3) UsedUp

-- a second hour, sold at 1000
abbrev pub second_sold : History
second_sold = sold_on (codes "b2") hour code1 hour_redeemed

-- the end of the session of that number
abbrev pub ends_of : History → ℕ → Option (Option ℕ)
ends_of H number = option_map (λ s. s.ends) (session_of H number)

-- the second hour, redeemed in the last second of the first, extends the session
abbrev pub ExtendedBeforeEnd : Type 0
ExtendedBeforeEnd =
    let H = entry 4599 (Redeem device1 code1) ∷ second_sold in
    AnswersWith second_sold 4599 (Redeem device1 code1) (RedeemAnswer true 1 0)
    × (ends_of H 1 ≡ Some (Some 8200))
    × ShowsCaptiveState H 4600 device1 (has_seconds 3600)

-- the second hour, redeemed at the end of the first, opens a new session
abbrev pub NewSessionAtEnd : Type 0
NewSessionAtEnd =
    let H = entry 4600 (Redeem device1 code1) ∷ second_sold in
    AnswersWith second_sold 4600 (Redeem device1 code1) (RedeemAnswer false 2 0)
    × (ends_of H 2 ≡ Some (Some 8200))
    × ShowsCaptiveState H 4600 device1 (has_seconds 3600)

-- a gibibyte from 1000 on
abbrev pub gig_redeemed : History
gig_redeemed = entry 1000 (Redeem device2 code2) ∷ sold_on (codes "b1") gig code2 history_with_plans

-- the greatest report counts, and the last byte ends the session
abbrev pub BytesCounted : Type 0
BytesCounted =
    let H = entry 1000 (Report 1 1073741823) ∷ gig_redeemed in
    let K = entry 1000 (Report 1 1073741824) ∷ H in
    AnswersWith gig_redeemed 1000 (Report 1 1073741823) (ReportAnswer true 1 1073741823)
    × ShowsCaptiveState H 1000 device2 (has_bytes 1)
    × AnswersWith H 1000 (Report 1 1073741824) (ReportAnswer false 1 1073741824)
    × ShowsCaptiveState K 1000 device2 is_captive
    × AnswersWith K 1000 (Report 1 5) (ReportAnswer false 1 1073741824)

-- how often the code was redeemed
abbrev pub redeemed_of : History → List ℕ → Option ℕ
redeemed_of H code = option_map (λ v. v.redeemed) (voucher_of H code)

-- hours and bytes do not mix, a plan may exclude extending, and the error for a used-up voucher comes first
abbrev pub ShapeAndExtendRefused : Type 0
ShapeAndExtendRefused =
    let H = sold_on (codes "b2") gig code2 hour_redeemed in
    let K = entry 1000 (Redeem device2 code2) ∷ H in
    RefusesWith H 2000 (Redeem device1 code2) ShapeDiffers
    × (redeemed_of H code2 ≡ Some 0)
    × RefusesWith K 2000 (Redeem device2 code2) NoExtend
    × RefusesWith K 2000 (Redeem device2 code3) UsedUp

-- a refund of two of three uses: 333 of 500
abbrev pub RefundOfUnusedUses : Type 0
RefundOfUnusedUses =
    let H = entry 1000 (Refund code2) ∷ gig_redeemed in
    AnswersWith gig_redeemed 1000 (Refund code2) (PaidBack 333 code2)
    × RefusesWith H 2000 (Refund code2) Refunded
    × RefusesWith H 2000 (Redeem device2 code2) Refunded

-- no redemption before the sale, and none from the expiry on
abbrev pub NotSoldThenExpired : Type 0
NotSoldThenExpired =
    let H = entry 1000 (issue_of (codes "b1") hour code1) ∷ history_with_plans in
    let K = entry 1000 (Sell code1) ∷ H in
    RefusesWith H 1000 (Redeem device1 code1) NotSold
    × RefusesWith K 2593000 (Redeem device1 code1) Expired
    × AnswersWith K 2592999 (Redeem device1 code1) (RedeemAnswer false 1 0)
    × (ends_of (entry 2592999 (Redeem device1 code1) ∷ K) 1 ≡ Some (Some 2596599))

-- a closed session is not open, and its reports are still accepted
abbrev pub CloseSession : Type 0
CloseSession =
    let H = entry 2000 (Close 1) ∷ hour_redeemed in
    AnswersWith hour_redeemed 2000 (Close 1) (CloseAnswer 1)
    × ShowsCaptiveState H 2000 device1 is_captive
    × RefusesWith H 2000 (Close 1) ClosedAlready
    × RefusesWith H 2000 (Close 9) UnknownSession
    × AnswersWith H 2000 (Report 1 7) (ReportAnswer false 1 7)

-- the history in which one device redeems the petabyte that often
abbrev pub peta_redeemed : ℕ → History
peta_redeemed n = replicate n (entry 1000 (Redeem device1 code1))
    ++ sold_on (codes "b1") peta code1 (entry 0 (Load (peta ∷ [])) ∷ [])

-- nine petabytes fit in the allowance, and a tenth does not
abbrev pub AllowanceIsFull : Type 0
AllowanceIsFull =
    AnswersWith (peta_redeemed 8) 1000 (Redeem device1 code1) (RedeemAnswer true 1 1)
    × (option_map (λ s. s.allowance) (session_of (peta_redeemed 9) 1) ≡ Some (Some 9000000000000000))
    × RefusesWith (peta_redeemed 9) 1000 (Redeem device1 code1) AllowanceFull
    × (redeemed_of (peta_redeemed 9) code1 ≡ Some 9)
