use Rattle.portal_json.proofs.Common.{List, ℕ, ◌++◌, ◌∙◌, ap, refl}
use Rattle.std.specs.Prelude.{codes}
use Rattle.portal_json.specs.Bodies.{batches_body}
use Rattle.portal_json.proofs.ListedLemmas.{with_part}
use Rattle.portal_json.proofs.BatchesLemmas.{batches_text_is}
use Rattle.portal_json.proofs.batches.batches_text.Goals as goal

pub returns-clause-ok : goal.returns-clause-ok
unfolding batches_body
returns-clause-ok c =
    with_part c.in_ok-put_text.ensures (with_part c.in_ok-put_list.ensures c.new-text.ensures.bytes refl)
    (ap (λ (word : List ℕ). codes ",\"more\":" ++ (word ++ codes "}")) c.word_of_flag.ensures)
    ∙ batches_text_is c.args.states.now c.args.more
