-- The records after an accepted command.
use Rattle.std.specs.Prelude.{◌≡◌, ℕ, ◌+◌, List, cond, nat_eq, bytes_eq, Option, Some, None, option_map}
use Rattle.std.specs.Option.{option_or}
use Rattle.std.specs.List.{list_any}
use Rattle.portal_model.specs.declared.plan.Plan.{Plan}
use Rattle.portal_model.specs.declared.record.Batch.{Batch}
use Rattle.portal_model.specs.declared.record.Voucher.{Voucher}
use Rattle.portal_model.specs.declared.record.Session.{Session}
use Rattle.portal_model.specs.declared.change.Changes.{Changes}
use Rattle.portal_model.specs.declared.change.Changes.TheVariants.{LoadChange, IssueChange, SellChange}
use Rattle.portal_model.specs.declared.change.Changes.TheVariants.{RedeemChange, ReportChange, RefundChange}
use Rattle.portal_model.specs.declared.change.Changes.TheVariants.{CloseChange}
use Rattle.portal_model.specs.Change.{plan_among, with_report}
use Rattle.portal_model.specs.History.{History, plan_of, batch_of, voucher_of, session_of}

-- the plans, with those that a load adds
abbrev pub plans_with : Changes → (List ℕ → Option Plan) → List ℕ → Option Plan
plans_with (LoadChange c) plans id = option_or (plans id) (plan_among c.added id)
plans_with _ plans id = plans id

-- the batches, with the new one of an issue
abbrev pub batches_with : Changes → (List ℕ → Option Batch) → List ℕ → Option Batch
batches_with (IssueChange c) batches id = cond (bytes_eq c.batch.id id) (Some c.batch) (batches id)
batches_with _ batches id = batches id

-- a voucher of a new batch: not sold, not refunded, not redeemed
abbrev pub new_voucher : Batch → List ℕ → Plan → Voucher
new_voucher batch code plan = record {
  code = code;
  batch = batch.id;
  plan = plan;
  expires = batch.expires;
  sold = None;
  refund = None;
  redeemed = 0;
}

-- the vouchers, with those of a new batch, or with one of them sold, redeemed once more, or refunded
abbrev pub vouchers_with : Changes → (List ℕ → Option Plan) → (List ℕ → Option Voucher)
    → List ℕ → Option Voucher
vouchers_with (IssueChange c) plans vouchers code = option_or (vouchers code) (cond
    (list_any (bytes_eq code) c.codes) (option_map (new_voucher c.batch code) (plans c.batch.plan)) None)
vouchers_with (SellChange c) plans vouchers code =
    cond (bytes_eq c.voucher.code code) (Some (record c.voucher { sold = Some c.at })) (vouchers code)
vouchers_with (RedeemChange c) plans vouchers code = cond (bytes_eq c.voucher.code code)
    (Some (record c.voucher { redeemed = c.voucher.redeemed + 1 })) (vouchers code)
vouchers_with (RefundChange c) plans vouchers code =
    cond (bytes_eq c.voucher.code code) (Some (record c.voucher { refund = Some c.amount })) (vouchers code)
vouchers_with _ plans vouchers code = vouchers code

-- the sessions, with the one that a redemption extends or opens, or with one of them reported or closed
abbrev pub sessions_with : Changes → (ℕ → Option Session) → ℕ → Option Session
sessions_with (RedeemChange c) sessions n = cond (nat_eq c.session.number n) (Some c.session) (sessions n)
sessions_with (ReportChange c) sessions n =
    cond (nat_eq c.session.number n) (Some (with_report c.bytes c.session)) (sessions n)
sessions_with (CloseChange c) sessions n =
    cond (nat_eq c.session.number n) (Some (record c.session { closed = Some c.at })) (sessions n)
sessions_with _ sessions n = sessions n

-- the records of the second history are those of the first with the changes
pub record HasChanged (H now : History) (changes : Changes) : Type 0 where
  pub plans : (id : List ℕ) → plan_of now id ≡ plans_with changes (plan_of H) id
  pub batches : (id : List ℕ) → batch_of now id ≡ batches_with changes (batch_of H) id
  pub vouchers : (code : List ℕ) → voucher_of now code ≡ vouchers_with changes (plan_of H) (voucher_of H) code
  pub sessions : (n : ℕ) → session_of now n ≡ sessions_with changes (session_of H) n
