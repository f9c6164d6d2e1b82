use Rattle.portal_files.proofs.Common.{◌∙◌, ◌<◌, ◌/◌, ◌%◌, ◌++◌, ◌∷◌, arith, decimal, IfOk-weaker}
use Rattle.portal_files.proofs.Columns.{right-column, two-places, amount-column}
use Rattle.portal_files.proofs.amounts.amount_column.Goals as goal

pub returns : goal.returns
returns c =
    let n = c.args.amount in
    let below : n % 100 < 100 = omega arith in
    let whole = right-column 14 (decimal (n / 100)) in
    let cents = two-places (n % 100) below in
    IfOk-weaker c.format.result _ _ (λ s e. rw (
      c.laid_out.ensures,
      c.laid_out-2.ensures,
    ) at e ∙ (λ i. whole i ++ 46 ∷ cents i) ∙ amount-column n) c.format.ensures.ok
