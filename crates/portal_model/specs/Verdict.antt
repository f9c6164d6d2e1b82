-- Which commands the desk refuses, and with which error.
use Rattle.std.specs.Prelude.{◌≡◌, ℕ, ◌+◌, ◌≤◌, Bool, true, false, cond, not, ◌&&◌, ◌||◌, nat_eq, nat_lt}
use Rattle.std.specs.Prelude.{nat_le, List, [], ◌∷◌, length, map, All, Option, Some, None, is_some, is_none}
use Rattle.std.specs.Prelude.{bytes_eq}
use Rattle.std.specs.List.{list_any}
use Rattle.portal_codes.specs.Code.{IsCode}
use Rattle.portal_model.specs.IdText.{IsIdText}
use Rattle.portal_model.specs.Device.{IsDevice}
use Rattle.portal_model.specs.declared.command.Command.{Command}
use Rattle.portal_model.specs.declared.command.Command.TheVariants.{Load, Issue, Sell, Redeem, Report, Refund}
use Rattle.portal_model.specs.declared.command.Command.TheVariants.{Close}
use Rattle.portal_model.specs.declared.plan.Plan.{Plan}
use Rattle.portal_model.specs.declared.record.Batch.{Batch}
use Rattle.portal_model.specs.declared.record.Voucher.{Voucher}
use Rattle.portal_model.specs.declared.record.Session.{Session}
use Rattle.portal_model.specs.declared.record.Head.{Head}
use Rattle.portal_model.specs.declared.refusal.Refusal.{Refusal}
use Rattle.portal_model.specs.declared.refusal.Refusal.TheVariants.{UnknownPlan, UnknownCode, UnknownSession}
use Rattle.portal_model.specs.declared.refusal.Refusal.TheVariants.{PlanDiffers, BatchExists, CodeTaken}
use Rattle.portal_model.specs.declared.refusal.Refusal.TheVariants.{NotSold, SoldAlready, Refunded, Expired}
use Rattle.portal_model.specs.declared.refusal.Refusal.TheVariants.{UsedUp, NoExtend, ShapeDiffers}
use Rattle.portal_model.specs.declared.refusal.Refusal.TheVariants.{AllowanceFull, ClosedAlready, NothingLeft}
use Rattle.portal_model.specs.declared.refusal.Refusal.TheVariants.{MomentRange, NumbersFull}
use Rattle.portal_model.specs.History.{entry, History, last_moment, plan_of, expiry, batch_of, issued_of}
use Rattle.portal_model.specs.History.{voucher_of, is_open_at, session_of, last_session_of, head_of, kept_if}

-- the last second of the year 9998
abbrev pub greatest_moment : ℕ
greatest_moment = 253370764799

-- the most bytes that one session may be granted in all
abbrev pub greatest_allowance : ℕ
greatest_allowance = 9000000000000000

-- the most redemptions that there may be in all
abbrev pub greatest_count : ℕ
greatest_count = 9007199254740991

-- a condition, and the error for it
abbrev pub Check : Type 0
Check = Bool × Refusal

-- the first error whose condition holds
abbrev pub first_refusal : List Check → Option Refusal
first_refusal [] = None
first_refusal (check ∷ checks) = cond check.0 (Some check.1) (first_refusal checks)

-- Plans

-- the two booleans are equal
abbrev pub bool_eq : Bool → Bool → Bool
bool_eq true b = b
bool_eq false b = not b

-- the plans are equal but for their ids
abbrev pub same_terms : Plan → Plan → Bool
same_terms p q = nat_eq p.price q.price && (nat_eq p.uses q.uses && (nat_eq p.seconds q.seconds
    && (nat_eq p.bytes q.bytes && (nat_eq p.shelf_days q.shelf_days && bool_eq p.extend q.extend))))

-- a plan of that id is loaded, with other terms
abbrev pub differs : Option Plan → Plan → Bool
differs None p = false
differs (Some kept) p = not (same_terms kept p)

-- loading: a listed plan differs from the loaded one
abbrev pub load_verdict : (List ℕ → Option Plan) → List Plan → Option Refusal
load_verdict kept plans = first_refusal ((list_any (λ p. differs (kept p.id) p) plans, PlanDiffers) ∷ [])

-- Issue

-- a code, or an id, is twice in the list
abbrev pub has_duplicate : List (List ℕ) → Bool
has_duplicate [] = false
has_duplicate (code ∷ codes) = list_any (bytes_eq code) codes || has_duplicate codes

-- whether one of the codes was issued
abbrev pub any_held : History → List (List ℕ) → Bool
any_held H codes = list_any (λ code. is_some (issued_of H code)) codes

-- issuing: no such plan; the batch exists; it would expire too late; a code was issued before or is listed
-- twice
abbrev pub issue_verdict : Option Plan → Option Batch → Bool → List (List ℕ) → ℕ → Option Refusal
issue_verdict None batch taken codes t = Some UnknownPlan
issue_verdict (Some plan) batch taken codes t = first_refusal (
    (is_some batch, BatchExists) ∷
    (nat_lt greatest_moment (expiry t plan), MomentRange) ∷
    (taken || has_duplicate codes, CodeTaken) ∷ [])

-- Sell

-- selling: no such code; sold; expired
abbrev pub sell_verdict : Option Voucher → ℕ → Option Refusal
sell_verdict None t = Some UnknownCode
sell_verdict (Some v) t = first_refusal (
    (is_some v.sold, SoldAlready) ∷
    (nat_le v.expires t, Expired) ∷ [])

-- Redeem

-- the session and the plan limit the same quantities
abbrev pub same_limits : Session → Plan → Bool
same_limits s plan =
    bool_eq (is_some s.ends) (nat_lt 0 plan.seconds) && bool_eq (is_some s.allowance) (nat_lt 0 plan.bytes)

-- the limit, raised by that much, exceeds the greatest
abbrev pub is_past : ℕ → Option ℕ → ℕ → Bool
is_past greatest None more = false
is_past greatest (Some limit) more = nat_lt greatest (limit + more)

-- the errors of a redemption in the open session, or in a new one
abbrev pub place_verdict : Head → Plan → ℕ → Option Session → Option Refusal
place_verdict head plan t (Some s) = first_refusal (
    (not s.extend, NoExtend) ∷
    (not (same_limits s plan), ShapeDiffers) ∷
    (is_past greatest_allowance s.allowance plan.bytes, AllowanceFull) ∷
    (is_past greatest_moment s.ends plan.seconds, MomentRange) ∷
    (nat_le greatest_count head.grants, NumbersFull) ∷ [])
place_verdict head plan t None = first_refusal (
    (nat_lt greatest_moment (t + plan.seconds), MomentRange) ∷
    (nat_le greatest_count head.grants, NumbersFull) ∷ [])

-- the first error, or else the second
abbrev pub else_verdict : Option Refusal → Option Refusal → Option Refusal
else_verdict None next = next
else_verdict (Some r) next = Some r

-- the errors of a redemption that the voucher alone decides
abbrev pub voucher_refusal : Voucher → ℕ → Option Refusal
voucher_refusal v t = first_refusal (
    (is_none v.sold, NotSold) ∷
    (is_some v.refund, Refunded) ∷
    (nat_le v.expires t, Expired) ∷
    (nat_le v.plan.uses v.redeemed, UsedUp) ∷ [])

-- the same where the code may be unknown
abbrev pub voucher_verdict : Option Voucher → ℕ → Option Refusal
voucher_verdict None t = Some UnknownCode
voucher_verdict (Some v) t = voucher_refusal v t

-- redeeming: the errors of the voucher, then those of the session
abbrev pub redeem_verdict : Head → Option Voucher → Option Session → ℕ → Option Refusal
redeem_verdict head None last t = Some UnknownCode
redeem_verdict head (Some v) last t =
    else_verdict (voucher_refusal v t) (place_verdict head v.plan t (kept_if (is_open_at t) last))

-- Report, refund, close

-- reporting: no such session
abbrev pub report_verdict : Option Session → Option Refusal
report_verdict None = Some UnknownSession
report_verdict (Some s) = None

-- refunding: no such code; not sold; refunded; no use left
abbrev pub refund_verdict : Option Voucher → Option Refusal
refund_verdict None = Some UnknownCode
refund_verdict (Some v) = first_refusal (
    (is_none v.sold, NotSold) ∷
    (is_some v.refund, Refunded) ∷
    (nat_le v.plan.uses v.redeemed, NothingLeft) ∷ [])

-- closing: no such session; closed
abbrev pub close_verdict : Option Session → Option Refusal
close_verdict None = Some UnknownSession
close_verdict (Some s) = first_refusal ((is_some s.closed, ClosedAlready) ∷ [])

-- The error with which a command at t is refused after a history, or none. The records that decide are read
-- from the history.
abbrev pub verdict : History → Command → ℕ → Option Refusal
verdict H (Load plans) t = load_verdict (plan_of H) plans
verdict H (Issue b p codes) t = issue_verdict (plan_of H p) (batch_of H b) (any_held H codes) codes t
verdict H (Sell c) t = sell_verdict (voucher_of H c) t
verdict H (Redeem d c) t = redeem_verdict (head_of H) (voucher_of H c) (last_session_of H d) t
verdict H (Report n bytes) t = report_verdict (session_of H n)
verdict H (Refund c) t = refund_verdict (voucher_of H c)
verdict H (Close n) t = close_verdict (session_of H n)

-- Legal histories

-- an id is twice in the list of plans
abbrev pub has_duplicate_id : List Plan → Bool
has_duplicate_id plans = has_duplicate (map (λ p. p.id) plans)

-- a command within the limits of a request
abbrev pub IsWellFormed : Command → Type 0
IsWellFormed (Load plans) = (1 ≤ length plans) × (length plans ≤ 500) × (has_duplicate_id plans ≡ false)
IsWellFormed (Issue b p codes) = (1 ≤ length codes) × (length codes ≤ 500)
IsWellFormed (Report n bytes) = bytes ≤ 9223372036854775807
IsWellFormed _ = Unit {0}

-- its ids are id texts, its codes are codes, and its device is a device
abbrev pub IsTyped : Command → Type 0
IsTyped (Load plans) = All (λ p. IsIdText p.id) plans
IsTyped (Issue b p codes) = IsIdText b × IsIdText p × All IsCode codes
IsTyped (Sell c) = IsCode c
IsTyped (Redeem d c) = IsDevice d × IsCode c
IsTyped (Report n bytes) = Unit {0}
IsTyped (Refund c) = IsCode c
IsTyped (Close n) = Unit {0}

-- the command may be accepted at t after the history
pub record Follows (H : History) (t : ℕ) (action : Command) : Type 0 where
  pub in_order : last_moment H ≤ t
  pub in_range : t ≤ greatest_moment
  pub typed : IsTyped action
  pub well_formed : IsWellFormed action
  pub accepted : verdict H action t ≡ None

-- each entry may be accepted after those before it
abbrev pub IsLegal : History → Type 0
IsLegal [] = Unit {0}
IsLegal (entry t action ∷ H) = Follows H t action × IsLegal H
