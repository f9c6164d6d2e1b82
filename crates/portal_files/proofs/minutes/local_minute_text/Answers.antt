use Rattle.std.proofs.lemmas.Result.{IfOk-weaker}
use Rattle.portal_files.proofs.minutes.local_minute_text.Goals as goal

pub returns : goal.returns
returns c =
    IfOk-weaker c.minute_text.result _ _
    (λ s e. record { at = c.local_time.result; shown = c.local_time.ensures.time; text_is = e })
    c.minute_text.ensures
