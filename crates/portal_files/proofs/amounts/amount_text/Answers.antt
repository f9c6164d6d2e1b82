use Rattle.portal_files.proofs.Common.{◌∙◌, ◌<◌, ◌/◌, ◌%◌, ◌++◌, ◌∷◌, arith, decimal, IfOk-weaker}
use Rattle.portal_files.proofs.Columns.{two-places}
use Rattle.portal_files.proofs.amounts.amount_text.Goals as goal

pub returns : goal.returns
returns c =
    let n = c.args.amount in
    let below : n % 100 < 100 = omega arith in
    let cents = two-places (n % 100) below in
    IfOk-weaker c.format.result _ _
    (λ s e. rw c.laid_out.ensures at e ∙ (λ i. decimal (n / 100) ++ 46 ∷ cents i)) c.format.ensures.ok
