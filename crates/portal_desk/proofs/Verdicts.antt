-- No verdict is the error that the desk has stopped, whatever records it depends on, and neither is the
-- result of a repetition.
use Rattle.std.proofs.Common.{◌≡◌, ℕ, List, [], ◌∷◌, Bool, true, false, cond, not, ◌||◌, nat_lt, nat_le, ◌+◌}
use Rattle.std.proofs.Common.{Option, Some, None, refl, sym, ap, subst, ◌∙◌}
use Rattle.std.specs.Prelude.{◌≢◌, Result, Ok, Err, is_some, is_none}
use Rattle.std.specs.List.{list_any}
use Rattle.portal_model.specs.declared.command.Command.{Command}
use Rattle.portal_model.specs.declared.command.Command.TheVariants.{Load, Issue, Sell, Redeem, Report, Refund}
use Rattle.portal_model.specs.declared.command.Command.TheVariants.{Close}
use Rattle.portal_model.specs.declared.change.Answer.{Answer}
use Rattle.portal_model.specs.declared.plan.Plan.{Plan}
use Rattle.portal_model.specs.declared.record.Batch.{Batch}
use Rattle.portal_model.specs.declared.record.Head.{Head}
use Rattle.portal_model.specs.declared.record.Session.{Session}
use Rattle.portal_model.specs.declared.record.Voucher.{Voucher}
use Rattle.portal_model.specs.declared.refusal.Refusal.{Refusal}
use Rattle.portal_model.specs.declared.refusal.Refusal.TheVariants.{UnknownPlan, UnknownCode, UnknownSession}
use Rattle.portal_model.specs.declared.refusal.Refusal.TheVariants.{PlanDiffers, BatchExists, CodeTaken}
use Rattle.portal_model.specs.declared.refusal.Refusal.TheVariants.{NotSold, SoldAlready, Refunded, Expired}
use Rattle.portal_model.specs.declared.refusal.Refusal.TheVariants.{UsedUp, NoExtend, ShapeDiffers}
use Rattle.portal_model.specs.declared.refusal.Refusal.TheVariants.{AllowanceFull, ClosedAlready, NothingLeft}
use Rattle.portal_model.specs.declared.refusal.Refusal.TheVariants.{MomentRange, NumbersFull, IdReused}
use Rattle.portal_model.specs.declared.refusal.Refusal.TheVariants.{Stopped}
use Rattle.portal_model.specs.History.{History, expiry, plan_of, batch_of, voucher_of, session_of}
use Rattle.portal_model.specs.History.{last_session_of, head_of, kept_if, is_open_at}
use Rattle.portal_model.specs.Verdict.{Check, first_refusal, differs, has_duplicate, same_limits, is_past}
use Rattle.portal_model.specs.Verdict.{greatest_moment, greatest_allowance, greatest_count, any_held}
use Rattle.portal_model.specs.Verdict.{load_verdict, issue_verdict, sell_verdict, place_verdict}
use Rattle.portal_model.specs.Verdict.{voucher_refusal, else_verdict, redeem_verdict, report_verdict}
use Rattle.portal_model.specs.Verdict.{refund_verdict, close_verdict, verdict}
use Rattle.portal_ledger.specs.declared.request.KeptRequest.{KeptRequest}
use Rattle.portal_ledger.specs.Fingerprint.{Fingerprint, same_request}
use Rattle.portal_ledger.specs.Ledger.{repeat_of}

-- an error other than `Stopped`
abbrev pub is_own : Refusal → Bool
is_own Stopped = false
is_own _ = true

own_is_no_stop : (r : Refusal) → is_own r ≡ true → r ≢ Stopped
own_is_no_stop r own same = apart (sym (ap is_own same) ∙ own)
  where
    apart : false ≡ true → ⊥
    apart e = cc

-- ---- verdicts

abbrev all_own : List Check → Bool
all_own [] = true
all_own (check ∷ rest) = cond (is_own check.1) (all_own rest) false

both : (b c : Bool) → cond b c false ≡ true → (b ≡ true) × (c ≡ true)
both true c is = (refl, is)
both false c is = absurd (cc)

first_own : (checks : List Check) → all_own checks ≡ true → (r : Refusal)
    → first_refusal checks ≡ Some r → is_own r ≡ true
first_own [] all r is = absurd (cc)
first_own (check ∷ rest) all r is = let parts = both (is_own check.1) (all_own rest) all in
    go check.0 parts.0 (first_own rest parts.1 r) is
  where
    go : (b : Bool) → is_own check.1 ≡ true → (first_refusal rest ≡ Some r → is_own r ≡ true)
        → cond b (Some check.1) (first_refusal rest) ≡ Some r → is_own r ≡ true
    go true own more same = let it : check.1 ≡ r = cc in subst (λ (x : Refusal). is_own x ≡ true) it own
    go false own more same = more same

one : (x r : Refusal) → is_own x ≡ true → Some x ≡ Some r → is_own r ≡ true
one x r own is = let it : x ≡ r = cc in subst (λ (y : Refusal). is_own y ≡ true) it own

load_own : (kept : List ℕ → Option Plan) (plans : List Plan) (r : Refusal)
    → load_verdict kept plans ≡ Some r → is_own r ≡ true
load_own kept plans r is =
    first_own ((list_any (λ p. differs (kept p.id) p) plans, PlanDiffers) ∷ []) refl r is

issue_own : (plan : Option Plan) (batch : Option Batch) (taken : Bool) (codes : List (List ℕ)) (t : ℕ)
    (r : Refusal) → issue_verdict plan batch taken codes t ≡ Some r → is_own r ≡ true
issue_own None batch taken codes t r is = one UnknownPlan r refl is
issue_own (Some plan) batch taken codes t r is =
    first_own ((is_some batch, BatchExists) ∷ (
      nat_lt greatest_moment (expiry t plan),
      MomentRange,
    ) ∷ (taken || has_duplicate codes, CodeTaken) ∷ []) refl r is

sell_own : (voucher : Option Voucher) (t : ℕ) (r : Refusal)
    → sell_verdict voucher t ≡ Some r → is_own r ≡ true
sell_own None t r is = one UnknownCode r refl is
sell_own (Some v) t r is =
    first_own ((is_some v.sold, SoldAlready) ∷ (nat_le v.expires t, Expired) ∷ []) refl r is

place_own : (head : Head) (plan : Plan) (t : ℕ) (s : Option Session) (r : Refusal)
    → place_verdict head plan t s ≡ Some r → is_own r ≡ true
place_own head plan t None r is =
    first_own ((nat_lt greatest_moment (t + plan.seconds), MomentRange) ∷ (
      nat_le greatest_count head.grants,
      NumbersFull,
    ) ∷ []) refl r is
place_own head plan t (Some s) r is =
    first_own ((not s.extend, NoExtend) ∷ (not (same_limits s plan), ShapeDiffers)
    ∷ (is_past greatest_allowance s.allowance plan.bytes, AllowanceFull)
    ∷ (is_past greatest_moment s.ends plan.seconds, MomentRange) ∷ (
      nat_le greatest_count head.grants,
      NumbersFull,
    ) ∷ []) refl r is

redeem_own : (head : Head) (voucher : Option Voucher) (last : Option Session) (t : ℕ) (r : Refusal)
    → redeem_verdict head voucher last t ≡ Some r → is_own r ≡ true
redeem_own head None last t r is = one UnknownCode r refl is
redeem_own head (Some v) last t r is =
    go (voucher_refusal v t) (first_own ((is_none v.sold, NotSold) ∷ (
      is_some v.refund,
      Refunded,
    ) ∷ (nat_le v.expires t, Expired) ∷ (nat_le v.plan.uses v.redeemed, UsedUp) ∷ []) refl) is
  where
    go : (first : Option Refusal) → ((x : Refusal) → first ≡ Some x → is_own x ≡ true)
        → else_verdict first (place_verdict head v.plan t (kept_if (is_open_at t) last)) ≡ Some r
        → is_own r ≡ true
    go None own same = place_own head v.plan t (kept_if (is_open_at t) last) r same
    go (Some x) own same = one x r (own x refl) same

report_own : (session : Option Session) (r : Refusal) → report_verdict session ≡ Some r → is_own r ≡ true
report_own None r is = one UnknownSession r refl is
report_own (Some s) r is = absurd (cc)

refund_own : (voucher : Option Voucher) (r : Refusal) → refund_verdict voucher ≡ Some r → is_own r ≡ true
refund_own None r is = one UnknownCode r refl is
refund_own (Some v) r is = first_own ((
  is_none v.sold,
  NotSold,
) ∷ (is_some v.refund, Refunded) ∷ (nat_le v.plan.uses v.redeemed, NothingLeft) ∷ []) refl r is

close_own : (session : Option Session) (r : Refusal) → close_verdict session ≡ Some r → is_own r ≡ true
close_own None r is = one UnknownSession r refl is
close_own (Some s) r is = first_own ((is_some s.closed, ClosedAlready) ∷ []) refl r is

verdict_own : (H : History) (command : Command) (t : ℕ) (r : Refusal)
    → verdict H command t ≡ Some r → is_own r ≡ true
verdict_own H (Load plans) t r is = load_own (plan_of H) plans r is
verdict_own H (Issue b p codes) t r is =
    issue_own (plan_of H p) (batch_of H b) (any_held H codes) codes t r is
verdict_own H (Sell c) t r is = sell_own (voucher_of H c) t r is
verdict_own H (Redeem d c) t r is = redeem_own (head_of H) (voucher_of H c) (last_session_of H d) t r is
verdict_own H (Report n bytes) t r is = report_own (session_of H n) r is
verdict_own H (Refund c) t r is = refund_own (voucher_of H c) r is
verdict_own H (Close n) t r is = close_own (session_of H n) r is

pub verdict_is_no_stop : (H : History) (command : Command) (t : ℕ) (r : Refusal)
    → verdict H command t ≡ Some r → r ≢ Stopped
verdict_is_no_stop H command t r is = own_is_no_stop r (verdict_own H command t r is)

-- a kept request gives no error but `IdReused`
pub repeat_is_no_stop : (kept : Option KeptRequest) (mark : Fingerprint) (r : Refusal)
    → repeat_of kept mark ≡ Err r → r ≢ Stopped
repeat_is_no_stop None mark r h = absurd (cc)
repeat_is_no_stop (Some k) mark r h = by (same_request k.mark mark) h
  where
    reused_is_no_stop : IdReused ≢ Stopped
    reused_is_no_stop e = cc

    by : (b : Bool) → ◌≡◌ {A = Result (Option Answer) Refusal}
        (cond b (Ok (Some k.answer)) (Err IdReused)) (Err r) → r ≢ Stopped
    by true h = absurd (cc)
    by false h = let same : IdReused ≡ r = cc in subst (λ (x : Refusal). x ≢ Stopped) same reused_is_no_stop
