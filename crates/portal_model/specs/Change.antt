-- What an accepted command changes in the records, and the answer to it.
use Rattle.std.specs.Prelude.{ℕ, ◌+◌, ◌-◌, max, List, length, filter, find, Option, Some, None, option_map}
use Rattle.std.specs.Prelude.{is_some, is_none, bytes_eq}
use Rattle.portal_model.specs.declared.command.Command.{Command}
use Rattle.portal_model.specs.declared.command.Command.TheVariants.{Load, Issue, Sell, Redeem, Report, Refund}
use Rattle.portal_model.specs.declared.command.Command.TheVariants.{Close}
use Rattle.portal_model.specs.declared.plan.Plan.{Plan}
use Rattle.portal_model.specs.declared.record.Voucher.{Voucher}
use Rattle.portal_model.specs.declared.record.Session.{Session}
use Rattle.portal_model.specs.declared.record.Head.{Head}
use Rattle.portal_model.specs.declared.change.Changes.{Changes}
use Rattle.portal_model.specs.declared.change.Changes.TheVariants.{LoadChange, IssueChange, SellChange}
use Rattle.portal_model.specs.declared.change.Changes.TheVariants.{RedeemChange, ReportChange, RefundChange}
use Rattle.portal_model.specs.declared.change.Changes.TheVariants.{CloseChange}
use Rattle.portal_model.specs.declared.change.Answer.{Answer}
use Rattle.portal_model.specs.declared.change.Answer.TheVariants.{LoadAnswer, IssueAnswer, SellAnswer}
use Rattle.portal_model.specs.declared.change.Answer.TheVariants.{RedeemAnswer, ReportAnswer, RefundAnswer}
use Rattle.portal_model.specs.declared.change.Answer.TheVariants.{CloseAnswer}
use Rattle.portal_model.specs.History.{History, limit_or_none, batch_row, plan_of, voucher_of, session_of}
use Rattle.portal_model.specs.History.{last_session_of, head_of, kept_if, is_open_at, amount_left}

-- the limit, raised by that much
abbrev pub raised_by : Option ℕ → ℕ → Option ℕ
raised_by None more = None
raised_by (Some limit) more = Some (limit + more)

-- the session after a redemption of that plan: the open one extended, or a new one
abbrev pub session_after : Head → Plan → Option Session → List ℕ → ℕ → Session
session_after head plan (Some s) device t =
    record s { ends = raised_by s.ends plan.seconds; allowance = raised_by s.allowance plan.bytes }
session_after head plan None device t = record {
  number = head.sessions + 1;
  device = device;
  plan = plan.id;
  extend = plan.extend;
  opened = t;
  ends = limit_or_none plan.seconds (t + plan.seconds);
  allowance = limit_or_none plan.bytes plan.bytes;
  used = 0;
  closed = None;
}

-- the number of sessions after a redemption: one more if it opens one
abbrev pub sessions_after : ℕ → Option Session → ℕ
sessions_after sessions (Some s) = sessions
sessions_after sessions None = sessions + 1

-- the head row after a redemption at t
abbrev pub head_after : Head → Option Session → ℕ → Head
head_after head running t =
    record { last = t; grants = head.grants + 1; sessions = sessions_after head.sessions running }

-- the session after a report of that many bytes
abbrev pub with_report : ℕ → Session → Session
with_report bytes s = record s { used = max bytes s.used }

-- the first of the plans with that id
abbrev pub plan_among : List Plan → List ℕ → Option Plan
plan_among plans id = find (λ p. bytes_eq p.id id) plans

-- the listed plans that are not loaded yet
abbrev pub plans_to_add : (List ℕ → Option Plan) → List Plan → List Plan
plans_to_add held plans = filter (λ p. is_none (held p.id)) plans

-- The changes of each command, by the records that its decision read

-- loading plans: those of the list that are new
abbrev pub load_change : (List ℕ → Option Plan) → List Plan → ℕ → Changes
load_change held plans t =
    LoadChange (record { at = t; listed = length plans; added = plans_to_add held plans })

-- issuing: the batch and its codes
abbrev pub issue_change : Option Plan → List ℕ → List (List ℕ) → ℕ → Option Changes
issue_change plan id codes t = option_map
    (λ p. IssueChange (record { at = t; batch = batch_row t id (length codes) p; codes = codes })) plan

-- selling: the voucher, sold at t
abbrev pub sell_change : Option Voucher → ℕ → Option Changes
sell_change voucher t = option_map (λ v. SellChange (record { at = t; voucher = v })) voucher

-- redeeming a voucher, in the open session of the device or in a new one
abbrev pub redemption : Head → Option Session → List ℕ → ℕ → Voucher → Changes
redemption head running device t v = RedeemChange (record {
  at = t;
  head = head;
  voucher = v;
  running = running;
  session = session_after head v.plan running device t;
})

-- the same, from the last session of the device
abbrev pub redeem_change : Head → Option Voucher → Option Session → List ℕ → ℕ → Option Changes
redeem_change head voucher last device t =
    option_map (redemption head (kept_if (is_open_at t) last) device t) voucher

-- reporting: the session, and the bytes
abbrev pub report_change : Option Session → ℕ → ℕ → Option Changes
report_change session bytes t =
    option_map (λ s. ReportChange (record { at = t; session = s; bytes = bytes })) session

-- refunding: the voucher, and the price of the uses that are left
abbrev pub refund_change : Option Voucher → ℕ → Option Changes
refund_change voucher t = option_map
    (λ v. RefundChange (record { at = t; voucher = v; amount = amount_left v.plan v.redeemed })) voucher

-- closing: the session, closed at t
abbrev pub close_change : Option Session → ℕ → Option Changes
close_change session t = option_map (λ s. CloseChange (record { at = t; session = s })) session

-- the changes of a command after a history
abbrev pub changes_of : History → Command → ℕ → Option Changes
changes_of H (Load plans) t = Some (load_change (plan_of H) plans t)
changes_of H (Issue b p codes) t = issue_change (plan_of H p) b codes t
changes_of H (Sell c) t = sell_change (voucher_of H c) t
changes_of H (Redeem d c) t = redeem_change (head_of H) (voucher_of H c) (last_session_of H d) d t
changes_of H (Report n bytes) t = report_change (session_of H n) bytes t
changes_of H (Refund c) t = refund_change (voucher_of H c) t
changes_of H (Close n) t = close_change (session_of H n) t

-- the answer to an accepted command
abbrev pub answer_of : Changes → Answer
answer_of (LoadChange c) = LoadAnswer c.listed
answer_of (IssueChange c) = IssueAnswer c.batch.id c.batch.size c.batch.expires
answer_of (SellChange c) = SellAnswer c.voucher.code c.voucher.plan.price
answer_of (RedeemChange c) =
    RedeemAnswer (is_some c.running) c.session.number (c.voucher.plan.uses - c.voucher.redeemed - 1)
answer_of (ReportChange c) = let after = with_report c.bytes c.session in
    ReportAnswer (is_open_at c.at after) after.number after.used
answer_of (RefundChange c) = RefundAnswer c.amount c.voucher.code
answer_of (CloseChange c) = CloseAnswer c.session.number
