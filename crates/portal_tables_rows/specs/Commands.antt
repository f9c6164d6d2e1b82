-- The rows after each command.
use Rattle.std.specs.Prelude.{ℕ, ◌+◌, max, map, Option, Some, None}
use Rattle.portal_codes.specs.Code.{text_of}
use Rattle.portal_model.specs.declared.plan.Plan.{Plan}
use Rattle.portal_model.specs.declared.record.Session.{Session}
use Rattle.portal_model.specs.declared.change.Changes.{Changes}
use Rattle.portal_model.specs.declared.change.Changes.TheVariants as to
use Rattle.portal_model.specs.declared.change.LoadChange.{LoadChange}
use Rattle.portal_model.specs.declared.change.IssueChange.{IssueChange}
use Rattle.portal_model.specs.declared.change.SellChange.{SellChange}
use Rattle.portal_model.specs.declared.change.RedeemChange.{RedeemChange}
use Rattle.portal_model.specs.declared.change.ReportChange.{ReportChange}
use Rattle.portal_model.specs.declared.change.RefundChange.{RefundChange}
use Rattle.portal_model.specs.declared.change.CloseChange.{CloseChange}
use Rattle.portal_model.specs.declared.change.Answer.{Answer}
use Rattle.portal_model.specs.Change.{sessions_after, with_report, answer_of}
use Rattle.portal_model.specs.Rows.{TotalRow, total_row, new_vouchers, new_counts}
use Rattle.portal_ledger.specs.Fingerprint.{Fingerprint}
use Rattle.portal_ledger.specs.Ledger.{kept_with}
use Rattle.portal_ledger.specs.RequestRow.{row_of_request}
use Rattle.portal_ledger.specs.declared.marked.MarkedChanges.{MarkedChanges}
use Rattle.portal_tables_rows.specs.Contents.{Contents}
use Rattle.portal_tables_rows.specs.Steps.{with_plans, with_batch, with_vouchers, with_counts, with_session}
use Rattle.portal_tables_rows.specs.Steps.{with_grant, with_total, with_sale, with_refund, with_moment}
use Rattle.portal_tables_rows.specs.Steps.{with_numbers, with_use, with_close, with_redeemed, with_ends}
use Rattle.portal_tables_rows.specs.Steps.{with_request, opened_row, granted_row}

-- the rows after a load
abbrev pub after_load : LoadChange → Contents → Contents
after_load c t = with_moment c.at (with_plans c.added t)

-- the rows after an issue
abbrev pub after_issue : IssueChange → Contents → Contents
after_issue c t = let texts = map text_of c.codes in
    with_moment c.at
    (with_counts (new_counts texts) (with_vouchers (new_vouchers c.batch.id 0 texts) (with_batch c.batch t)))

-- the rows after a sale
abbrev pub after_sell : SellChange → Contents → Contents
after_sell c t = with_moment c.at (with_sale (text_of c.voucher.code) c.at t)

-- the rows after the running session was extended, or a new session was inserted
abbrev pub after_placing : Option Session → Session → Plan → Contents → Contents
after_placing (Some running) s plan t = with_ends (total_row s) t
after_placing None s plan t = with_total (total_row s) (with_session (opened_row s plan.id) t)

-- the rows after the session and the row of a redemption were written
abbrev pub after_grant : RedeemChange → Contents → Contents
after_grant c t = with_grant (granted_row (c.head.grants + 1) (text_of c.voucher.code) c.session.number c.at
    c.voucher.plan) (after_placing c.running c.session c.voucher.plan t)

-- the rows after a redemption
abbrev pub after_redeem : RedeemChange → Contents → Contents
after_redeem c t = with_numbers c.at (c.head.grants + 1) (sessions_after c.head.sessions c.running)
    (with_redeemed (text_of c.voucher.code) (c.voucher.redeemed + 1) (after_grant c t))

-- the rows after a session's remaining allowance was set; a session without an allowance keeps its row
abbrev pub after_remainder : Option ℕ → TotalRow → Contents → Contents
after_remainder None total t = t
after_remainder (Some allowance) total t = with_ends total t

-- the rows after a usage report
abbrev pub after_report : ReportChange → Contents → Contents
after_report c t = with_moment c.at (after_remainder c.session.allowance
    (total_row (with_report c.bytes c.session)) (with_use c.session.number (max c.bytes c.session.used) t))

-- the rows after a refund
abbrev pub after_refund : RefundChange → Contents → Contents
after_refund c t = with_moment c.at (with_refund (text_of c.voucher.code) c.at c.amount t)

-- the rows after a close
abbrev pub after_close : CloseChange → Contents → Contents
after_close c t = with_moment c.at (with_close c.session.number c.at t)

-- the rows after the changes of a command
abbrev pub after_changes : Changes → Contents → Contents
after_changes (to.LoadChange c) t = after_load c t
after_changes (to.IssueChange c) t = after_issue c t
after_changes (to.SellChange c) t = after_sell c t
after_changes (to.RedeemChange c) t = after_redeem c t
after_changes (to.ReportChange c) t = after_report c t
after_changes (to.RefundChange c) t = after_refund c t
after_changes (to.CloseChange c) t = after_close c t

-- the rows with the request and its answer, if it has an idempotency key
abbrev pub with_kept_request : Option Fingerprint → Answer → Contents → Contents
with_kept_request None answer t = t
with_kept_request (Some mark) answer t = with_request (row_of_request (kept_with mark answer)) t

-- the rows after a command whose request is stored with this answer
abbrev pub after_command_with : MarkedChanges → Answer → Contents → Contents
after_command_with m answer t = with_kept_request m.mark answer (after_changes m.changes t)

-- the rows after a command whose request is stored with the answer that its caller gets
abbrev pub after_command : MarkedChanges → Contents → Contents
after_command m = after_command_with m (answer_of m.changes)
