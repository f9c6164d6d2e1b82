use Rattle.portal_json.proofs.Common.{◌∙◌, refl}
use Rattle.portal_json.specs.Bodies.{batch_body}
use Rattle.portal_json.proofs.ListedLemmas.{with_part}
use Rattle.portal_json.proofs.BatchesLemmas.{whole_text_is}
use Rattle.portal_json.proofs.batches.batch_text.Goals as goal

pub returns-clause-ok : goal.returns-clause-ok
unfolding batch_body
returns-clause-ok c =
    let started = with_part c.in_ok-put_batch.ensures c.new-text.ensures.bytes refl in
    with_part c.in_ok-put_list.ensures started refl ∙ whole_text_is c.args.state.now c.args.vouchers.now
