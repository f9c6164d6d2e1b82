use Rattle.portal_tables.proofs.Common.{◌∙◌, ◌++◌, ◌+◌, ◌∷◌, [], ap, sym}
use Rattle.portal_tables.specs.BatchLists.{text_above}
use Rattle.portal_tables.proofs.LikeLemmas.{above_is}
use Rattle.portal_tables.proofs.batches.text_above.Goals as goal

pub returns : goal.returns
returns c =
    let front = c.in-Some.front.now in
    let last = c.in-Some.last.now in
    c.in_ok-push.ensures.items
    ∙ ap (λ xs. xs ++ (last + 1) ∷ [])
    (c.in_ok-extend_from_slice.ensures.items ∙ ap (λ xs. xs ++ front) c.new-above.ensures.items)
    ∙ sym (ap text_above c.in-Some.ensures.cases.0 ∙ above_is front last)
