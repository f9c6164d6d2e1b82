-- Laws of every legal history.
use Rattle.std.specs.Prelude.{◌≡◌, ℕ, ◌+◌, ◌-◌, ◌≤◌, List, [], ◌∷◌, map, filter, length, All, count_by, true}
use Rattle.std.specs.Prelude.{false, Option, Some, None, cond, nat_eq, bytes_eq}
use Rattle.std.specs.List.Sorted.{IsPermutation, IsStrictlyIncreasing}
use Rattle.std.specs.List.{range_with_len}
use Rattle.portal_model.specs.declared.command.Command.{Command}
use Rattle.portal_model.specs.declared.command.Command.TheVariants.{Load, Sell, Redeem, Refund, Close}
use Rattle.portal_model.specs.declared.plan.Plan.{Plan}
use Rattle.portal_model.specs.Captive.{all_sessions, captive_of, open_sessions_of}
use Rattle.portal_model.specs.declared.record.Batch.{Batch}
use Rattle.portal_model.specs.declared.record.Voucher.{Voucher}
use Rattle.portal_model.specs.declared.record.Session.{Session}
use Rattle.portal_codes.specs.Code.{IsCode}
use Rattle.portal_model.specs.IdText.{IsIdText}
use Rattle.portal_model.specs.Device.{IsDevice}
use Rattle.portal_model.specs.Change.{head_after, session_after, changes_of, answer_of, load_change}
use Rattle.portal_model.specs.Change.{plan_among}
use Rattle.portal_model.specs.Rows.{Rows, rows_of, sessions_of, rows_after_changes, plans_of, batches_of}
use Rattle.portal_model.specs.Rows.{vouchers_of, batch_among, voucher_from, session_from, last_session_from}
use Rattle.portal_model.specs.Rows.{grant_rows, counts_of, counts_from, totals_of, totals_from}
use Rattle.portal_model.specs.declared.change.Changes.{Changes}
use Rattle.portal_model.specs.History.{History, entry, voucher_of, head_of, session_of, last_session_of}
use Rattle.portal_model.specs.History.{kept_if, is_open_at, plan_of, batch_of, codes_of, effective_moment}
use Rattle.portal_model.specs.History.{uses_of, grants_of}
use Rattle.portal_model.specs.Payments.{sales_of, sales_from, refunds_of, refunds_from}
use Rattle.portal_model_laws.specs.Answering.{last_answer}
use Rattle.portal_model_laws.specs.Limits.{AreWithin}
use Rattle.portal_model_laws.specs.Records.{HasChanged}
use Rattle.portal_model_laws.specs.FromRows.{sessions_from, codes_from, any_taken, held_among, verdict_from}
use Rattle.portal_model_laws.specs.FromRows.{changes_from}
use Rattle.portal_model.specs.Verdict.{IsLegal, Follows, verdict, load_verdict, any_held, has_duplicate}

-- Accepted commands

-- the rows after an accepted command are those before it with its changes
abbrev pub ChangesGiveRows : Type 0
ChangesGiveRows = (H : History) → IsLegal H → (command : Command) (t : ℕ) → Follows H t command
    → (changes : Changes) → changes_of H command t ≡ Some changes
    → rows_of (entry t command ∷ H) ≡ rows_after_changes changes (rows_of H)

-- the records after an accepted command are those before it with its changes
abbrev pub ChangesGiveRecords : Type 0
ChangesGiveRecords = (H : History) → IsLegal H → (command : Command) (t : ℕ) → Follows H t command
    → (changes : Changes) → changes_of H command t ≡ Some changes
    → HasChanged H (entry t command ∷ H) changes

-- the answer to an accepted command agrees with the history that contains the command
abbrev pub AnswersFollow : Type 0
AnswersFollow = (H : History) → IsLegal H → (command : Command) (t : ℕ) → Follows H t command
    → (changes : Changes) → changes_of H command t ≡ Some changes
    → last_answer (entry t command ∷ H) ≡ Some (answer_of changes)

-- the verdict on a command, and its changes, are the same from the rows as from the history
pub record JudgesAlike (H : History) (command : Command) (t : ℕ) : Type 0 where
  pub verdict : verdict H command t ≡ verdict_from (rows_of H) command t
  pub changes : changes_of H command t ≡ changes_from (rows_of H) command t

-- this holds of every command
abbrev pub RowsJudgeAlike : Type 0
RowsJudgeAlike = (H : History) → IsLegal H → (command : Command) (t : ℕ) → JudgesAlike H command t

-- the records after an accepted redemption: one more redemption of its voucher, and its session
pub record RedeemLeaves (H : History) (device code : List ℕ) (t : ℕ) (v : Voucher) (s : Session)
    (running : Option Session) : Type 0 where
  pub head : head_of (entry t (Redeem device code) ∷ H) ≡ head_after (head_of H) running t
  pub session : (n : ℕ)
      → session_of (entry t (Redeem device code) ∷ H) n ≡ cond (nat_eq s.number n) (Some s) (session_of H n)
  pub voucher : (c : List ℕ) → voucher_of (entry t (Redeem device code) ∷ H) c
      ≡ cond (bytes_eq code c) (Some (record v { redeemed = v.redeemed + 1 })) (voucher_of H c)

-- these are the records after a redemption of an issued voucher, in the open session of the device or in a
-- new one
abbrev pub RedeemGivesRecords : Type 0
RedeemGivesRecords =
    (H : History) → IsLegal H → (device code : List ℕ) (t : ℕ) (v : Voucher) → voucher_of H code ≡ Some v
    → let running : Option Session = kept_if (is_open_at t) (last_session_of H device) in
    RedeemLeaves H device code t v (session_after (head_of H) v.plan running device t) running

-- Records by key

-- the plan of an id is its row
abbrev pub PlanIsRow : Type 0
PlanIsRow = (H : History) (id : List ℕ) → plan_of H id ≡ plan_among (plans_of H) id

-- the batch of an id is its row
abbrev pub BatchIsRow : Type 0
BatchIsRow = (H : History) → IsLegal H → (id : List ℕ) → batch_of H id ≡ batch_among (batches_of H) id

-- the voucher of a code is its row, joined with its count, its batch and the plan of the batch
abbrev pub VoucherIsRow : Type 0
VoucherIsRow = (H : History) → IsLegal H → (code : List ℕ) → voucher_of H code ≡ voucher_from (rows_of H) code

-- the session of a number is its row, joined with its totals and its plan
abbrev pub SessionIsRow : Type 0
SessionIsRow = (H : History) → IsLegal H → (n : ℕ) → session_of H n ≡ session_from (rows_of H) n

-- the last session of a device is the last of its rows
abbrev pub LastSessionIsRow : Type 0
LastSessionIsRow = (H : History) → IsLegal H → (device : List ℕ)
    → last_session_of H device ≡ last_session_from (rows_of H) device

-- one of the codes was issued exactly if one of them is in the rows
abbrev pub IssuedCodesAreRows : Type 0
IssuedCodesAreRows =
    (H : History) → IsLegal H → (codes : List (List ℕ)) → any_held H codes ≡ any_taken (vouchers_of H) codes

-- The loaded plans that a load reads

-- the first list gives the same plans for the listed ids as the rows
abbrev pub AgreesOnIds : List Plan → List Plan → List Plan → Type 0
AgreesOnIds held rows listed = All (λ p. plan_among held p.id ≡ plan_among rows p.id) listed

-- the rows with the listed ids agree with all rows on these ids
abbrev pub HeldPlansSuffice : Type 0
HeldPlansSuffice = (rows listed : List Plan) → AgreesOnIds (held_among rows listed) rows listed

-- with those plans, a load has the verdict and the changes of the history
pub record LoadsAlike (H : History) (held listed : List Plan) (t : ℕ) : Type 0 where
  pub verdict : load_verdict (plan_among held) listed ≡ verdict H (Load listed) t
  pub changes : Some (load_change (plan_among held) listed t) ≡ changes_of H (Load listed) t

-- plans that agree with the rows on the listed ids decide a load like the history
abbrev pub HeldPlansDecideLoad : Type 0
HeldPlansDecideLoad = (H : History) (held listed : List Plan) → AgreesOnIds held (plans_of H) listed → (t : ℕ)
    → LoadsAlike H held listed t

-- Lists

-- the sessions of the history are those of the rows, in their order
abbrev pub SessionsAreRows : Type 0
SessionsAreRows = (H : History) → IsLegal H → all_sessions H ≡ sessions_from (rows_of H)

-- the rows of a batch are its codes in order, their places run from 0, and the batch has their number
pub record AreCodesOf (H : History) (id : List ℕ) : Type 0 where
  pub codes : codes_of H id ≡ codes_from (rows_of H) id
  pub places : map (λ v. v.place) (filter (λ v. bytes_eq v.batch id) (vouchers_of H))
      ≡ range_with_len 0 (length (codes_of H id))
  pub size : (b : Batch) → batch_of H id ≡ Some b → b.size ≡ length (codes_of H id)

-- the codes of each batch are its rows
abbrev pub CodesAreRows : Type 0
CodesAreRows = (H : History) → IsLegal H → (id : List ℕ) → AreCodesOf H id

-- the sales are those of the rows of the vouchers, in another order
abbrev pub SalesAreRows : Type 0
SalesAreRows = (H : History) → IsLegal H → IsPermutation (sales_of H) (sales_from (rows_of H))

-- the refunds are those of the rows of the vouchers, in another order
abbrev pub RefundsAreRows : Type 0
RefundsAreRows = (H : History) → IsLegal H → IsPermutation (refunds_of H) (refunds_from (rows_of H))

-- Counters

-- the redemptions of a code are the rows of portal_grants with the code
abbrev pub UsesAreRows : Type 0
UsesAreRows = (H : History) → IsLegal H → (code : List ℕ)
    → uses_of H code ≡ count_by (λ g. bytes_eq g.code code) (grant_rows (grants_of H))

-- the counts of the vouchers are the numbers of their rows of portal_grants
abbrev pub CountsAreSums : Type 0
CountsAreSums = (H : History) → IsLegal H → counts_of H ≡ counts_from (rows_of H)

-- the totals of the sessions follow from the sums over their rows of portal_grants and the used bytes
abbrev pub TotalsAreSums : Type 0
TotalsAreSums = (H : History) → IsLegal H → totals_of H ≡ totals_from (rows_of H)

-- Keys

-- no table has two rows with the same key: ids and codes differ, and numbers increase
pub record HasUniqueKeys (H : History) : Type 0 where
  pub plans : has_duplicate (map (λ p. p.id) (plans_of H)) ≡ false
  pub batches : has_duplicate (map (λ b. b.id) (batches_of H)) ≡ false
  pub codes : has_duplicate (map (λ v. v.code) (vouchers_of H)) ≡ false
  pub sessions : IsStrictlyIncreasing (map (λ s. s.number) (sessions_of H))
  pub grants : IsStrictlyIncreasing (map (λ g. g.number) (grant_rows (grants_of H)))
  pub counts : has_duplicate (map (λ k. k.code) (counts_of H)) ≡ false
  pub totals : IsStrictlyIncreasing (map (λ s. s.number) (totals_of H))

-- the keys of every table are unique
abbrev pub KeysAreUnique : Type 0
KeysAreUnique = (H : History) → IsLegal H → HasUniqueKeys H

-- sessions and redemptions are numbered from 1 without a gap, in the order of their rows, and the head row
-- has the numbers of rows
pub record AreNumbered (H : History) : Type 0 where
  pub sessions : map (λ s. s.number) (sessions_of H) ≡ range_with_len 1 (head_of H).sessions
  pub totals : map (λ s. s.number) (totals_of H) ≡ range_with_len 1 (head_of H).sessions
  pub grants : map (λ g. g.number) (grant_rows (grants_of H)) ≡ range_with_len 1 (head_of H).grants
  pub of_sessions : length (sessions_of H) ≡ (head_of H).sessions
  pub of_grants : length (grant_rows (grants_of H)) ≡ (head_of H).grants

-- the rows of every legal history are numbered so
abbrev pub RowsAreNumbered : Type 0
RowsAreNumbered = (H : History) → IsLegal H → AreNumbered H

-- Vouchers

-- no voucher is redeemed more often than its plan allows
abbrev pub UsesAreBounded : Type 0
UsesAreBounded = (H : History) → IsLegal H → (code : List ℕ) (v : Voucher) → voucher_of H code ≡ Some v
    → v.redeemed ≤ v.plan.uses

-- the number of rows of portal_grants with the code
abbrev pub grants_with : Rows → List ℕ → ℕ
grants_with r code = count_by (λ g. bytes_eq g.code code) r.grants

-- a voucher has at most as many rows of portal_grants as its plan has uses, and a code with no voucher has
-- none
pub record HasGrantsWithin (r : Rows) (code : List ℕ) : Type 0 where
  pub voucher : (v : Voucher) → voucher_from r code ≡ Some v → grants_with r code ≤ v.plan.uses
  pub none : voucher_from r code ≡ None → grants_with r code ≡ 0

-- this holds of every code in the rows of a history
abbrev pub GrantsAreBounded : Type 0
GrantsAreBounded = (H : History) → IsLegal H → (code : List ℕ) → HasGrantsWithin (rows_of H) code

-- a refund is at most the price
abbrev pub RefundsAreBounded : Type 0
RefundsAreBounded = (H : History) → IsLegal H → (code : List ℕ) (v : Voucher) (amount : ℕ)
    → voucher_of H code ≡ Some v → v.refund ≡ Some amount → amount ≤ v.plan.price

-- the number of entries that sell the code
abbrev pub times_sold : History → List ℕ → ℕ
times_sold [] code = 0
times_sold (entry t (Sell c) ∷ H) code = cond (bytes_eq c code) (times_sold H code + 1) (times_sold H code)
times_sold (_ ∷ H) code = times_sold H code

-- the number of entries that refund the code
abbrev pub times_refunded : History → List ℕ → ℕ
times_refunded [] code = 0
times_refunded (entry t (Refund c) ∷ H) code =
    cond (bytes_eq c code) (times_refunded H code + 1) (times_refunded H code)
times_refunded (_ ∷ H) code = times_refunded H code

-- a voucher is sold at most once
abbrev pub VoucherIsSoldOnce : Type 0
VoucherIsSoldOnce = (H : History) → IsLegal H → (code : List ℕ) → times_sold H code ≤ 1

-- a voucher is refunded at most once
abbrev pub VoucherIsRefundedOnce : Type 0
VoucherIsRefundedOnce = (H : History) → IsLegal H → (code : List ℕ) → times_refunded H code ≤ 1

-- Sessions

-- there are at most as many sessions as redemptions
abbrev pub SessionsAreFewer : Type 0
SessionsAreFewer = (H : History) → (head_of H).sessions ≤ (head_of H).grants

-- what remains of an open session is at least 1, and at most what was granted
pub record RemainsOf (t : ℕ) (s : Session) : Type 0 where
  pub seconds : (ends : ℕ) → s.ends ≡ Some ends → (1 ≤ ends - t) × (ends - t ≤ ends - s.opened)
  pub bytes : (allowance : ℕ) → s.allowance ≡ Some allowance
      → (1 ≤ allowance - s.used) × (allowance - s.used ≤ allowance)

-- this holds of every session that is open at the effective time
abbrev pub RemainsIsBounded : Type 0
RemainsIsBounded = (H : History) → IsLegal H → (n t : ℕ) (s : Session) → session_of H n ≡ Some s
    → is_open_at (effective_moment H t) s ≡ true → RemainsOf (effective_moment H t) s

-- each of the two values is at least 1
pub record AtLeastOne (seconds bytes : Option ℕ) : Type 0 where
  pub seconds_left : (n : ℕ) → seconds ≡ Some n → 1 ≤ n
  pub bytes_left : (n : ℕ) → bytes ≡ Some n → 1 ≤ n

-- what remains of a device's session is at least 1
abbrev pub GuestsSeeRemainder : Type 0
GuestsSeeRemainder = (H : History) (device : List ℕ) (t : ℕ)
    → AtLeastOne (captive_of H device t).seconds (captive_of H device t).bytes

-- so is what remains of each open session that the gateway lists
abbrev pub GatewaySeesRemainder : Type 0
GatewaySeesRemainder = (H : History) (t : ℕ) → All (λ s. AtLeastOne s.seconds s.bytes) (open_sessions_of H t)

-- a session that is open at the effective time is the last one of its device
abbrev pub OpenIsLast : Type 0
OpenIsLast = (H : History) → IsLegal H → (n t : ℕ) (s : Session) → session_of H n ≡ Some s
    → is_open_at (effective_moment H t) s ≡ true → last_session_of H s.device ≡ Some s

-- at the effective time at most one session of a device is open
abbrev pub OneSessionIsOpen : Type 0
OneSessionIsOpen = (H : History) → IsLegal H → (t n m : ℕ) (s r : Session) → session_of H n ≡ Some s
    → session_of H m ≡ Some r → s.device ≡ r.device
    → is_open_at (effective_moment H t) s ≡ true → is_open_at (effective_moment H t) r ≡ true → n ≡ m

-- the number of entries that close the session
abbrev pub times_closed : History → ℕ → ℕ
times_closed [] n = 0
times_closed (entry t (Close m) ∷ H) n = cond (nat_eq m n) (times_closed H n + 1) (times_closed H n)
times_closed (_ ∷ H) n = times_closed H n

-- a session is closed at most once
abbrev pub SessionIsClosedOnce : Type 0
SessionIsClosedOnce = (H : History) → IsLegal H → (n : ℕ) → times_closed H n ≤ 1

-- Values in the rows

-- ids are id texts, codes are codes and devices are devices, in every row
pub record AreTyped (r : Rows) : Type 0 where
  pub plans : All (λ p. IsIdText p.id) r.plans
  pub batches : All (λ b. IsIdText b.id) r.batches
  pub batch_plans : All (λ b. IsIdText b.plan) r.batches
  pub vouchers : All (λ v. IsCode v.code) r.vouchers
  pub voucher_batches : All (λ v. IsIdText v.batch) r.vouchers
  pub sessions : All (λ s. IsDevice s.device) r.sessions
  pub session_plans : All (λ s. IsIdText s.plan) r.sessions
  pub grants : All (λ g. IsCode g.code) r.grants
  pub counts : All (λ k. IsCode k.code) r.counts

-- the rows of every legal history are typed so
abbrev pub RowsAreTyped : Type 0
RowsAreTyped = (H : History) → IsLegal H → AreTyped (rows_of H)

-- times and numbers are within their limits, in every row
abbrev pub RowsAreWithinLimits : Type 0
RowsAreWithinLimits = (H : History) → IsLegal H → AreWithin (rows_of H)
