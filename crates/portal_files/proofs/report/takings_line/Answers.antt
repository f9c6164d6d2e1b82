use Rattle.portal_files.proofs.Common.{◌∙◌, decimal, IfOk-weaker}
use Rattle.portal_files.proofs.Columns.{right-column}
use Rattle.portal_files.proofs.ReportLines.{number-line}
use Rattle.portal_files.proofs.report.takings_line.Goals as goal

pub returns : goal.returns
returns c =
    IfOk-weaker c.format.result _ _ (λ s e. rw (c.laid_out.ensures, c.laid_out-2.ensures) at e
    ∙ number-line c.args.label.now _ _ _ _ c.args.sold c.args.sales c.args.refunded c.args.refunds c.requires
    (right-column 8 (decimal c.args.sold)) c.in_ok-sales.ensures (right-column 8 (decimal c.args.refunded))
    c.in_ok-refunds.ensures) c.format.ensures.ok
