-- The history of accepted commands, and the records that it determines. Every answer of the desk is a
-- function of the history.
use Rattle.std.specs.Prelude.{ℕ, ◌+◌, ◌-◌, ◌*◌, ◌/◌, max, Bool, true, cond, ◌&&◌, nat_eq, nat_lt, List, []}
use Rattle.std.specs.Prelude.{◌∷◌, length, filter, find, sum_by, Option, Some, None, is_none, option_map}
use Rattle.std.specs.Prelude.{option_and_then, unwrap_or, bytes_eq}
use Rattle.std.specs.Option.{option_or}
use Rattle.portal_model.specs.declared.plan.Plan.{Plan}
use Rattle.portal_model.specs.declared.record.Batch.{Batch}
use Rattle.portal_model.specs.declared.record.Voucher.{Voucher}
use Rattle.portal_model.specs.declared.record.Session.{Session}
use Rattle.portal_model.specs.declared.record.Head.{Head}
use Rattle.portal_model.specs.declared.command.Command.{Command}
use Rattle.portal_model.specs.declared.command.Command.TheVariants.{Load, Issue, Sell, Redeem, Report, Refund}
use Rattle.portal_model.specs.declared.command.Command.TheVariants.{Close}

-- a command with the time at which it was accepted
pub data Entry : Type 0 where
  entry : (at : ℕ) → Command → Entry

-- the accepted commands, the newest first
abbrev pub History : Type 0
History = List Entry

-- the time of the last entry, or 0
abbrev pub last_moment : History → ℕ
last_moment [] = 0
last_moment (entry t _ ∷ H) = t

-- the effective time of a request at t: t, or that of the last entry if the clock was set back behind it
abbrev pub effective_moment : History → ℕ → ℕ
effective_moment H t = max t (last_moment H)

-- Plans and batches

-- the plan of that id, from the first load that lists it
abbrev pub plan_of : History → List ℕ → Option Plan
plan_of [] id = None
plan_of (entry t (Load plans) ∷ H) id = option_or (plan_of H id) (find (λ p. bytes_eq p.id id) plans)
plan_of (_ ∷ H) id = plan_of H id

-- the time `shelf_days` after t
abbrev pub expiry : ℕ → Plan → ℕ
expiry t plan = t + plan.shelf_days * 86400

-- a batch of that plan, issued at t
abbrev pub batch_row : ℕ → List ℕ → ℕ → Plan → Batch
batch_row t id size plan =
    record { id = id; plan = plan.id; issued = t; expires = expiry t plan; size = size }

-- the batch of that id, from its issue
abbrev pub batch_of : History → List ℕ → Option Batch
batch_of [] id = None
batch_of (entry t (Issue b p codes) ∷ H) id =
    cond (bytes_eq b id) (option_map (batch_row t b (length codes)) (plan_of H p)) (batch_of H id)
batch_of (_ ∷ H) id = batch_of H id

-- the codes of the batch, in order
abbrev pub codes_of : History → List ℕ → List (List ℕ)
codes_of [] id = []
codes_of (entry t (Issue b p codes) ∷ H) id = cond (bytes_eq b id) codes (codes_of H id)
codes_of (_ ∷ H) id = codes_of H id

-- Vouchers

-- a code in its place in a batch
pub record Place : Type 0 where
  pub code : List ℕ
  pub batch : List ℕ
  pub place : ℕ

-- the codes of a batch, from place n on
abbrev pub places_from : List ℕ → ℕ → List (List ℕ) → List Place
places_from b n [] = []
places_from b n (code ∷ codes) = record { code = code; batch = b; place = n } ∷ places_from b (n + 1) codes

-- what the issue fixes of a voucher
pub record IssuedVoucher : Type 0 where
  pub batch : List ℕ
  pub place : ℕ
  pub plan : Plan
  pub expires : ℕ

-- the voucher at that place of a batch issued at t
abbrev pub issued_at : ℕ → List ℕ → ℕ → Plan → IssuedVoucher
issued_at t b place plan = record { batch = b; place = place; plan = plan; expires = expiry t plan }

-- the voucher of that code, from the issue that lists it
abbrev pub issued_of : History → List ℕ → Option IssuedVoucher
issued_of [] code = None
issued_of (entry t (Issue b p codes) ∷ H) code =
    option_or (issued_of H code) (option_and_then (λ k. option_map (issued_at t b k.place) (plan_of H p))
    (find (λ k. bytes_eq k.code code) (places_from b 0 codes)))
issued_of (_ ∷ H) code = issued_of H code

-- the time at which the code was sold
abbrev pub sold_of : History → List ℕ → Option ℕ
sold_of [] code = None
sold_of (entry t (Sell c) ∷ H) code = cond (bytes_eq c code) (Some t) (sold_of H code)
sold_of (_ ∷ H) code = sold_of H code

-- the number of redemptions of the code
abbrev pub uses_of : History → List ℕ → ℕ
uses_of [] code = 0
uses_of (entry t (Redeem d c) ∷ H) code = cond (bytes_eq c code) (uses_of H code + 1) (uses_of H code)
uses_of (_ ∷ H) code = uses_of H code

-- the price of the uses that are left, rounded down
abbrev pub amount_left : Plan → ℕ → ℕ
amount_left plan redeemed = plan.price * (plan.uses - redeemed) / plan.uses

-- a refund: its time and its amount
pub record RefundEntry : Type 0 where
  pub at : ℕ
  pub amount : ℕ

-- the refund at t of a voucher that was redeemed that often
abbrev pub refund_entry_at : ℕ → ℕ → IssuedVoucher → RefundEntry
refund_entry_at t redeemed v = record { at = t; amount = amount_left v.plan redeemed }

-- the refund of the code: its time, and the price of the uses that were left
abbrev pub refund_of : History → List ℕ → Option RefundEntry
refund_of [] code = None
refund_of (entry t (Refund c) ∷ H) code =
    cond (bytes_eq c code)
    (option_map (refund_entry_at t (uses_of H code)) (issued_of H code)) (refund_of H code)
refund_of (_ ∷ H) code = refund_of H code

-- the voucher record of that code: its issue with its sale, refund and redemptions so far
abbrev pub voucher_row : History → List ℕ → IssuedVoucher → Voucher
voucher_row H code v = record {
  code = code;
  batch = v.batch;
  plan = v.plan;
  expires = v.expires;
  sold = sold_of H code;
  refund = option_map (λ r. r.amount) (refund_of H code);
  redeemed = uses_of H code;
}

-- the voucher of that code
abbrev pub voucher_of : History → List ℕ → Option Voucher
voucher_of H code = option_map (voucher_row H code) (issued_of H code)

-- Sessions

-- a redemption: its session, device, code and plan, and its time
pub record Grant : Type 0 where
  pub session : ℕ
  pub device : List ℕ
  pub code : List ℕ
  pub plan : Plan
  pub at : ℕ

-- the greatest session number of those redemptions, or 0
abbrev pub greatest_session : List Grant → ℕ
greatest_session [] = 0
greatest_session (g ∷ gs) = max g.session (greatest_session gs)

-- the redemptions of session n, the one that opened it last
abbrev pub members : List Grant → ℕ → List Grant
members gs n = filter (λ g. nat_eq g.session n) gs

-- the oldest of those redemptions
abbrev pub oldest : List Grant → Option Grant
oldest [] = None
oldest (g ∷ gs) = option_or (oldest gs) (Some g)

-- the number of a device's last session, or 0
abbrev pub last_number : List Grant → List ℕ → ℕ
last_number gs device = greatest_session (filter (λ g. bytes_eq g.device device) gs)

-- the greatest report for session n, or 0
abbrev pub used_of : History → ℕ → ℕ
used_of [] n = 0
used_of (entry t (Report m bytes) ∷ H) n = cond (nat_eq m n) (max bytes (used_of H n)) (used_of H n)
used_of (_ ∷ H) n = used_of H n

-- the time at which session n was closed
abbrev pub closed_of : History → ℕ → Option ℕ
closed_of [] n = None
closed_of (entry t (Close m) ∷ H) n = cond (nat_eq m n) (Some t) (closed_of H n)
closed_of (_ ∷ H) n = closed_of H n

-- a limit that the plan sets, and none if the plan gives 0 of the quantity
abbrev pub limit_or_none : ℕ → ℕ → Option ℕ
limit_or_none given total = cond (nat_eq given 0) None (Some total)

-- session n from its redemptions, of which the first opened it: it ends at the opening time plus the
-- seconds of all of them, and its allowance is the bytes of all of them
abbrev pub session_row : History → ℕ → List Grant → Grant → Session
session_row H n gs first = record {
  number = n;
  device = first.device;
  plan = first.plan.id;
  extend = first.plan.extend;
  opened = first.at;
  ends = limit_or_none first.plan.seconds (first.at + sum_by (λ g. g.plan.seconds) gs);
  allowance = limit_or_none first.plan.bytes (sum_by (λ g. g.plan.bytes) gs);
  used = used_of H n;
  closed = closed_of H n;
}

-- session n, for the redemptions gs of the history
abbrev pub session_in : List Grant → History → ℕ → Option Session
session_in gs H n = option_map (session_row H n (members gs n)) (oldest (members gs n))

-- there is no limit, or t is below it
abbrev pub is_below : ℕ → Option ℕ → Bool
is_below t None = true
is_below t (Some limit) = nat_lt t limit

-- the session is open at t: not closed, before its end, and below its allowance
abbrev pub is_open_at : ℕ → Session → Bool
is_open_at t s = is_none s.closed && (is_below t s.ends && is_below s.used s.allowance)

-- the value, if it passes the test
abbrev pub kept_if : {A : Type 0} → (A → Bool) → Option A → Option A
kept_if test None = None
kept_if test (Some x) = cond (test x) (Some x) None

-- the session number of a redemption: that of the open session, or else the next number
abbrev pub place_of : List Grant → Option Session → ℕ
place_of gs (Some s) = s.number
place_of gs None = greatest_session gs + 1

-- the redemptions with one more, of the voucher by the device
abbrev pub grant_at : ℕ → List ℕ → List ℕ → List Grant → Option Session → IssuedVoucher → List Grant
grant_at t d c gs running v =
    record { session = place_of gs running; device = d; code = c; plan = v.plan; at = t } ∷ gs

-- all redemptions, the newest first: each is in the device's last session if that is open, and else in a
-- new one
abbrev pub grants_of : History → List Grant
grants_of [] = []
grants_of (entry t (Redeem d c) ∷ H) =
    let gs = grants_of H in
    unwrap_or (option_map (grant_at t d c gs (kept_if (is_open_at t) (session_in gs H (last_number gs d))))
    (issued_of H c)) gs
grants_of (_ ∷ H) = grants_of H

-- the session of that number
abbrev pub session_of : History → ℕ → Option Session
session_of H n = session_in (grants_of H) H n

-- the last session of the device
abbrev pub last_session_of : History → List ℕ → Option Session
last_session_of H device = session_of H (last_number (grants_of H) device)

-- the head row: the time of the last command, and the numbers of redemptions and of sessions
abbrev pub head_of : History → Head
head_of H =
    record { last = last_moment H; grants = length (grants_of H); sessions = greatest_session (grants_of H) }
