use Rattle.portal_json.proofs.Common.{List, ℕ, ◌++◌, ◌∙◌, ap, refl}
use Rattle.std.specs.Prelude.{codes}
use Rattle.portal_json.specs.Bodies.{redemptions_body}
use Rattle.portal_json.proofs.ListedLemmas.{with_part}
use Rattle.portal_json.proofs.RedemptionLemmas.{redemptions_text_is}
use Rattle.portal_json.proofs.redemptions.redemptions_text.Goals as goal

pub returns-clause-ok : goal.returns-clause-ok
unfolding redemptions_body
returns-clause-ok c =
    with_part c.in_ok-put_list.ensures (with_part c.in_ok-put_text.ensures c.new-text.ensures.bytes
    (ap (λ (word : List ℕ). codes "{\"more\":" ++ (word ++ codes ",")) c.word_of_flag.ensures)) refl
    ∙ redemptions_text_is c.args.redemptions.now c.args.more
