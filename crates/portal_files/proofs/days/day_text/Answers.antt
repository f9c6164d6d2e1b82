use Rattle.portal_files.proofs.Common.{◌≡◌, ◌∙◌, w64, to_z, of_z, ap, subst, arith, ints, IfOk-weaker}
use Rattle.portal_files.proofs.Common.{epoch_day, IsDay}
use Rattle.portal_files.proofs.DateTexts.{day-text}
use Rattle.portal_files.proofs.days.day_text.Goals as goal

pub returns : goal.returns
returns c =
    let range : IsDay c.args.day = subst IsDay c.get.ensures.value c.get.ensures.range in
    let made = rw c.unwrap-plain.ensures at c.from_unix_epoch_day.ensures.value in
    let got = c.get.ensures.value in
    let moved = c.from.ensures in
    let number : to_z w64 (of_z w64 c.from.result) ≡ c.args.day = omega (arith, ints) in
    let is : epoch_day c.from_plain.result ≡ c.args.day = ap epoch_day c.from_plain.ensures ∙ made ∙ number in
    IfOk-weaker c.to_string.result _ _
    (λ s e. day-text _ c.from_plain.result c.args.day e is range) c.to_string.ensures.ok
