use Rattle.portal_json.proofs.Common.{List, ℕ, ◌++◌, ◌∙◌, ap, refl}
use Rattle.std.specs.Prelude.{codes}
use Rattle.portal_json.specs.Bodies.{vouchers_body}
use Rattle.portal_json.proofs.ListedLemmas.{with_part}
use Rattle.portal_json.proofs.BatchesLemmas.{vouchers_text_is}
use Rattle.portal_json.proofs.batches.vouchers_text.Goals as goal

pub returns-clause-ok : goal.returns-clause-ok
unfolding vouchers_body
returns-clause-ok c =
    with_part c.in_ok-put_list.ensures (with_part c.in_ok-put_text.ensures c.new-text.ensures.bytes
    (ap (λ (word : List ℕ). codes "{\"more\":" ++ (word ++ codes ",")) c.word_of_flag.ensures)) refl
    ∙ vouchers_text_is c.args.vouchers.now c.args.more
