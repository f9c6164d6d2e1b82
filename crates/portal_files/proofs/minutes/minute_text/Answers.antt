use Rattle.portal_files.proofs.Common.{◌∙◌, IfOk-weaker}
use Rattle.portal_files.proofs.ShownTimes.{minute-parts}
use Rattle.portal_files.proofs.minutes.minute_text.Goals as goal

pub returns : goal.returns
returns c =
    let date = c.date-date.ensures in
    let time = c.to_plain-time.ensures ∙ c.time.ensures in
    IfOk-weaker c.format.result _ _ (λ s e. rw (
      c.laid_out.ensures,
      c.laid_out-2.ensures,
    ) at e ∙ minute-parts c.args.at c.date-date.result c.to_plain-time.result date time) c.format.ensures.ok
