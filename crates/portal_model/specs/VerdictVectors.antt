-- Test vectors of verdicts: for each command, tables of verdicts at each limit and where two neighbouring
-- errors both apply. Each line holds by computing the definitions.
use Rattle.std.specs.Prelude.{◌≡◌, ℕ, ◌-◌, true, false, List, [], ◌∷◌, ◌++◌, replicate, map, codes, Option}
use Rattle.std.specs.Prelude.{Some, None}
use Rattle.std.proofs.Common.{refl, lit≤}
use Rattle.portal_model.specs.declared.command.Command.{Command}
use Rattle.portal_model.specs.declared.command.Command.TheVariants.{Load, Issue, Sell, Redeem, Report, Refund}
use Rattle.portal_model.specs.declared.command.Command.TheVariants.{Close}
use Rattle.portal_model.specs.declared.plan.Plan.{Plan}
use Rattle.portal_model.specs.declared.record.Head.{Head}
use Rattle.portal_model.specs.declared.captive.Captive.{Captive}
use Rattle.portal_model.specs.declared.refusal.Refusal.{Refusal}
use Rattle.portal_model.specs.declared.refusal.Refusal.TheVariants.{UnknownPlan, UnknownCode, UnknownSession}
use Rattle.portal_model.specs.declared.refusal.Refusal.TheVariants.{PlanDiffers, BatchExists, CodeTaken}
use Rattle.portal_model.specs.declared.refusal.Refusal.TheVariants.{NotSold, SoldAlready, Refunded, Expired}
use Rattle.portal_model.specs.declared.refusal.Refusal.TheVariants.{UsedUp, NoExtend, ShapeDiffers}
use Rattle.portal_model.specs.declared.refusal.Refusal.TheVariants.{AllowanceFull, ClosedAlready, NothingLeft}
use Rattle.portal_model.specs.declared.refusal.Refusal.TheVariants.{MomentRange, NumbersFull}
use Rattle.portal_model.specs.History.{entry, History, last_moment, effective_moment, batch_of, voucher_of}
use Rattle.portal_model.specs.History.{last_session_of}
use Rattle.portal_model.specs.Verdict.{verdict, redeem_verdict}
use Rattle.portal_model.specs.TestVectors.{ShowsCaptiveState, hour, gig, peta, device1, device2, code1, code2}
use Rattle.portal_model.specs.TestVectors.{code3, issue_of, sold_at, sold_on, history_with_plans, hour_sold}
use Rattle.portal_model.specs.TestVectors.{hour_redeemed, gig_redeemed, is_captive, has_seconds}

-- after a history, a command at a time is accepted, or refused with that error
pub data Case : Type 0 where
  accepted : History → ℕ → Command → Case
  refused : History → ℕ → Command → Refusal → Case

-- the verdict that the case states
abbrev pub stated_verdict : Case → Option Refusal
stated_verdict (accepted H t command) = None
stated_verdict (refused H t command refusal) = Some refusal

-- the verdict by the definitions
abbrev pub defined_verdict : Case → Option Refusal
defined_verdict (accepted H t command) = verdict H command (effective_moment H t)
defined_verdict (refused H t command refusal) = verdict H command (effective_moment H t)

-- the verdict of each case is the one that it states
abbrev pub AreVerdicts : List Case → Type 0
AreVerdicts cases = map defined_verdict cases ≡ map stated_verdict cases

-- Plans

-- an hour that does not extend a session
abbrev pub single : Plan
single = record hour {
  id = codes "single";
  extend = false;
  id_text = record { least = lit≤ tt; most = lit≤ tt; characters = refl };
}

-- an hour and a gibibyte
abbrev pub both : Plan
both = record hour {
  id = codes "both";
  bytes = 1073741824;
  id_text = record { least = lit≤ tt; most = lit≤ tt; characters = refl };
  bytes_limit = lit≤ tt;
  limits_something = lit≤ tt;
}

-- the greatest plan: 366 days and a petabyte, a hundred thousand uses, 3,660 days of shelf life
abbrev pub greatest : Plan
greatest = record {
  id = codes "greatest";
  price = 100000000;
  uses = 100000;
  seconds = 31622400;
  bytes = 1000000000000000;
  shelf_days = 3660;
  extend = true;
  id_text = record { least = lit≤ tt; most = lit≤ tt; characters = refl };
  price_limit = lit≤ tt;
  uses_least = lit≤ tt;
  uses_limit = lit≤ tt;
  seconds_limit = lit≤ tt;
  bytes_limit = lit≤ tt;
  shelf_least = lit≤ tt;
  shelf_limit = lit≤ tt;
  limits_something = lit≤ tt;
}

-- a byte, ten uses
abbrev pub byte : Plan
byte = record peta {
  id = codes "byte";
  bytes = 1;
  id_text = record { least = lit≤ tt; most = lit≤ tt; characters = refl };
  bytes_limit = lit≤ tt;
  limits_something = lit≤ tt;
}

-- 2222-2222-2249
abbrev pub code4 : List ℕ
code4 = replicate 10 0 ++ 2 ∷ 7 ∷ []

-- all plans, loaded at 0
abbrev pub history_of_plans : History
history_of_plans = entry 0 (Load (hour ∷ gig ∷ peta ∷ single ∷ both ∷ greatest ∷ byte ∷ [])) ∷ []

-- the maximum time
abbrev pub last_second : ℕ
last_second = 253370764799

-- an hour and a second
abbrev pub longer : Plan
longer = record hour { seconds = 3601; seconds_limit = lit≤ tt; limits_something = lit≤ tt }

-- an hour, limited in bytes too
abbrev pub limited_in_bytes : Plan
limited_in_bytes = record hour { bytes = 1; bytes_limit = lit≤ tt; limits_something = lit≤ tt }

-- an hour, with a day more of shelf life
abbrev pub kept_longer : Plan
kept_longer = record hour { shelf_days = 31; shelf_least = lit≤ tt; shelf_limit = lit≤ tt }

-- Loading plans: each term may differ, in any plan of the list
abbrev pub LoadVerdicts : Type 0
LoadVerdicts = AreVerdicts (
    accepted history_with_plans 1000 (Load (hour ∷ gig ∷ []))
    ∷ accepted history_with_plans 1000 (Load (gig ∷ peta ∷ []))
    ∷ refused history_with_plans 1000
    (Load (record hour { price = 301; price_limit = lit≤ tt } ∷ [])) PlanDiffers
    ∷ refused history_with_plans 1000
    (Load (record hour { uses = 2; uses_least = lit≤ tt; uses_limit = lit≤ tt } ∷ [])) PlanDiffers
    ∷ refused history_with_plans 1000 (Load (longer ∷ [])) PlanDiffers
    ∷ refused history_with_plans 1000 (Load (limited_in_bytes ∷ [])) PlanDiffers
    ∷ refused history_with_plans 1000 (Load (kept_longer ∷ [])) PlanDiffers
    ∷ refused history_with_plans 1000 (Load (record hour { extend = false } ∷ [])) PlanDiffers
    ∷ refused history_with_plans 1000 (Load (peta ∷ hour ∷ record gig { extend = true } ∷ [])) PlanDiffers
    ∷ [])

-- Issuing: the batch b1 and the code 3N55-WA4S-KH53 exist; an hour has a shelf life of 2,592,000 seconds
abbrev pub IssueVerdicts : Type 0
IssueVerdicts = AreVerdicts (
    refused hour_redeemed 1000 (Issue (codes "b1") (codes "nil") (code1 ∷ [])) UnknownPlan
    ∷ refused hour_redeemed last_second (issue_of (codes "b1") hour code1) BatchExists
    ∷ refused hour_redeemed last_second (issue_of (codes "b2") hour code3) MomentRange
    ∷ refused hour_redeemed 1000 (Issue (codes "b2") hour.id (code1 ∷ code2 ∷ code3 ∷ [])) CodeTaken
    ∷ refused hour_redeemed 1000 (Issue (codes "b2") hour.id (code1 ∷ code2 ∷ code1 ∷ [])) CodeTaken
    ∷ accepted hour_redeemed 1000 (Issue (codes "b2") hour.id (code1 ∷ code2 ∷ code4 ∷ []))
    ∷ accepted history_with_plans (last_second - 2592000) (issue_of (codes "b1") hour code3)
    ∷ refused history_with_plans (last_second - 2591999) (issue_of (codes "b1") hour code3) MomentRange
    ∷ [])

-- Selling: a voucher that was issued at 1000 expires at 2593000, and a refunded one stays sold
abbrev pub SellVerdicts : Type 0
SellVerdicts =
    let issued = entry 1000 (issue_of (codes "b1") hour code1) ∷ history_with_plans in
    AreVerdicts (
    refused hour_redeemed 1000 (Sell code1) UnknownCode
    ∷ refused hour_redeemed 2593000 (Sell code3) SoldAlready
    ∷ refused (entry 1000 (Refund code2) ∷ gig_redeemed) 1000 (Sell code2) SoldAlready
    ∷ accepted issued 2592999 (Sell code1)
    ∷ refused issued 2593000 (Sell code1) Expired
    ∷ [])

-- Redeeming, the voucher. No legal history has a refund without a sale; the order is stated all the same.
abbrev pub VoucherVerdicts : Type 0
VoucherVerdicts =
    let issued = entry 1000 (issue_of (codes "b1") hour code1) ∷ history_with_plans in
    let gig_too = sold_on (codes "b2") gig code2 hour_redeemed in
    AreVerdicts (
    refused hour_redeemed 1000 (Redeem device1 code1) UnknownCode
    ∷ refused (entry 1000 (Refund code1) ∷ issued) 1000 (Redeem device1 code1) NotSold
    ∷ refused issued 2593000 (Redeem device1 code1) NotSold
    ∷ refused (entry 1000 (Refund code2) ∷ gig_redeemed) 2593000 (Redeem device2 code2) Refunded
    ∷ accepted hour_sold 2592999 (Redeem device1 code3)
    ∷ refused hour_sold 2593000 (Redeem device1 code3) Expired
    ∷ refused hour_redeemed 2593000 (Redeem device1 code3) Expired
    ∷ refused gig_too 2000 (Redeem device1 code3) UsedUp
    ∷ refused (entry 1000 (Redeem device2 code2) ∷ gig_too) 1000 (Redeem device2 code3) UsedUp
    ∷ [])

-- an hour that expires at the maximum time
abbrev pub late_sold : History
late_sold = sold_at (last_second - 2592000) (codes "b1") hour code3 history_of_plans

-- the same, redeemed at t
abbrev pub late_hour : ℕ → History
late_hour t = entry t (Redeem device1 code3) ∷ late_sold

-- and a second hour, not yet redeemed
abbrev pub late_second : ℕ → History
late_second t =
    entry t (Redeem device1 code3) ∷ sold_at (last_second - 2592000) (codes "b2") hour code1 late_sold

-- 9 times 366 days before the maximum time
abbrev pub nine_years_before : ℕ
nine_years_before = last_second - 284601600

-- a voucher of the greatest plan that expires at the maximum time, redeemed so often by one device
abbrev pub years : ℕ → History
years n =
    replicate n (entry nine_years_before (Redeem device1 code3))
    ++ sold_at (last_second - 316224000) (codes "b1") greatest code3 history_of_plans

-- a petabyte, redeemed so often by one device
abbrev pub petabytes : ℕ → History
petabytes n =
    replicate n (entry 1000 (Redeem device1 code1)) ++ sold_on (codes "b1") peta code1 history_of_plans

-- Redeeming, a new session: it may end at the maximum time, and the error for a used-up voucher comes first
abbrev pub OpeningVerdicts : Type 0
OpeningVerdicts = AreVerdicts (
    accepted late_sold (last_second - 3600) (Redeem device1 code3)
    ∷ refused late_sold (last_second - 3599) (Redeem device1 code3) MomentRange
    ∷ refused (late_hour (last_second - 7200)) (last_second - 3599) (Redeem device2 code3) UsedUp
    ∷ [])

-- an hour of the first device, and a voucher of that plan
abbrev pub hour_and : Plan → History
hour_and plan =
    sold_on (codes "b2") plan code4
    (entry 1000 (Redeem device1 code3) ∷ sold_on (codes "b1") hour code3 history_of_plans)

-- so many petabytes of the first device, and a voucher of that plan
abbrev pub petabytes_and : ℕ → Plan → History
petabytes_and n plan = sold_on (codes "b2") plan code4 (petabytes n)

-- nine years of the first device, and a petabyte
abbrev pub years_and_petabyte : History
years_and_petabyte = sold_at nine_years_before (codes "b2") peta code1 (years 9)

-- Redeeming, an open session: the error for extending comes before the one for the limited quantities, then
-- the allowance, then the end. Nine uses of the greatest plan reach both limits at once.
abbrev pub ExtensionVerdicts : Type 0
ExtensionVerdicts = AreVerdicts (
    refused (sold_on (codes "b2") hour code1 gig_redeemed) 1000 (Redeem device2 code1) NoExtend
    ∷ refused (hour_and both) 1000 (Redeem device1 code4) ShapeDiffers
    ∷ refused (petabytes_and 1 both) 1000 (Redeem device1 code4) ShapeDiffers
    ∷ refused years_and_petabyte nine_years_before (Redeem device1 code1) ShapeDiffers
    ∷ accepted (years 8) nine_years_before (Redeem device1 code3)
    ∷ refused (years 9) nine_years_before (Redeem device1 code3) AllowanceFull
    ∷ accepted (petabytes_and 8 byte) 1000 (Redeem device1 code4)
    ∷ refused (petabytes_and 9 byte) 1000 (Redeem device1 code4) AllowanceFull
    ∷ accepted (late_second (last_second - 7200)) (last_second - 7200) (Redeem device1 code1)
    ∷ refused (late_second (last_second - 7199)) (last_second - 7199) (Redeem device1 code1) MomentRange
    ∷ [])

-- the verdict on a redemption of the code by the first device, if there had been so many redemptions
abbrev pub after_redemptions : ℕ → History → List ℕ → ℕ → Option Refusal
after_redemptions n H code t =
    let head : Head = record { last = last_moment H; grants = n; sessions = 1 } in
    redeem_verdict head (voucher_of H code) (last_session_of H device1) t

-- the last possible redemption and one more, in a new session and in an open one; a time out of range comes
-- first
abbrev pub NumbersAreFull : Type 0
NumbersAreFull =
    let second = sold_on (codes "b2") hour code1 hour_redeemed in
    let late = late_second (last_second - 7199) in
    (after_redemptions 9007199254740990 hour_sold code3 1000 ≡ None)
    × (after_redemptions 9007199254740991 hour_sold code3 1000 ≡ Some NumbersFull)
    × (after_redemptions 9007199254740991 late_sold code3 (last_second - 3599) ≡ Some MomentRange)
    × (after_redemptions 9007199254740990 second code1 2000 ≡ None)
    × (after_redemptions 9007199254740991 second code1 2000 ≡ Some NumbersFull)
    × (after_redemptions 9007199254740991 late code1 (last_second - 7199) ≡ Some MomentRange)

-- Refunding: an expired voucher too. No legal history has a voucher that was refunded and has no use left, or
-- one that
-- was used or refunded and not sold; the order is stated all the same.
abbrev pub RefundVerdicts : Type 0
RefundVerdicts =
    let issued = entry 1000 (issue_of (codes "b1") hour code1) ∷ history_with_plans in
    AreVerdicts (
    refused hour_redeemed 1000 (Refund code1) UnknownCode
    ∷ refused issued 1000 (Refund code1) NotSold
    ∷ refused (entry 1000 (Refund code1) ∷ issued) 1000 (Refund code1) NotSold
    ∷ refused (entry 1000 (Redeem device1 code1) ∷ issued) 1000 (Refund code1) NotSold
    ∷ refused (entry 1000 (Refund code3) ∷ hour_redeemed) 1000 (Refund code3) Refunded
    ∷ refused hour_redeemed 1000 (Refund code3) NothingLeft
    ∷ accepted hour_sold 2593000 (Refund code3)
    ∷ [])

-- Reporting and closing: a session that has ended accepts reports, and may be closed once
abbrev pub SessionVerdicts : Type 0
SessionVerdicts =
    let closed = entry 9000 (Close 1) ∷ hour_redeemed in
    AreVerdicts (
    refused hour_redeemed 1000 (Report 2 7) UnknownSession
    ∷ accepted hour_redeemed 9000 (Report 1 7)
    ∷ accepted closed 9000 (Report 1 7)
    ∷ refused hour_redeemed 1000 (Close 2) UnknownSession
    ∷ accepted hour_redeemed 9000 (Close 1)
    ∷ refused closed 9000 (Close 1) ClosedAlready
    ∷ [])

-- after an hour was issued, sold and redeemed: what the counter is refused
abbrev pub DeskRefusals : Type 0
DeskRefusals = AreVerdicts (
    refused hour_redeemed 1000 (issue_of (codes "b1") hour code1) BatchExists
    ∷ refused hour_redeemed 1000 (issue_of (codes "b2") hour code3) CodeTaken
    ∷ refused hour_redeemed 1000 (Issue (codes "b2") (codes "nil") (code1 ∷ [])) UnknownPlan
    ∷ refused hour_redeemed 1000 (Sell code3) SoldAlready
    ∷ refused hour_redeemed 1000 (Refund code3) NothingLeft
    ∷ refused hour_redeemed 1000 (Sell code1) UnknownCode
    ∷ [])
    × (batch_of hour_redeemed (codes "b9") ≡ None)

-- online for so many seconds and bytes, and may extend
abbrev pub has_both : ℕ → ℕ → Captive
has_both seconds bytes =
    record { captive = false; seconds = Some seconds; bytes = Some bytes; extend = Some true }

-- a session that is limited in both ends with the first of them
abbrev pub LimitedInBoth : Type 0
LimitedInBoth =
    let H = entry 1000 (Redeem device1 code4) ∷ sold_on (codes "b1") both code4 history_of_plans in
    let K = entry 1000 (Report 1 1073741823) ∷ H in
    ShowsCaptiveState H 1000 device1 (has_both 3600 1073741824)
    × ShowsCaptiveState K 4599 device1 (has_both 1 1)
    × ShowsCaptiveState K 4600 device1 is_captive
    × ShowsCaptiveState (entry 1000 (Report 1 1073741824) ∷ H) 1000 device1 is_captive

-- Whether a session may be extended depends on the plan that opened it, and not on one that extended it
abbrev pub FirstPlanExtends : Type 0
FirstPlanExtends =
    let hours = entry 1000 (Redeem device1 code4) ∷ hour_and single in
    let singles = entry 1000 (Redeem device1 code4) ∷ sold_on (codes "b2") single code4 history_of_plans in
    ShowsCaptiveState hours 1000 device1 (has_seconds 7200)
    × AreVerdicts (
    accepted (sold_on (codes "b3") hour code1 hours) 1000 (Redeem device1 code1)
    ∷ refused (sold_on (codes "b3") hour code1 singles) 1000 (Redeem device1 code1) NoExtend
    ∷ [])
