use Rattle.portal_tables_rows.proofs.Common.{IfOk-weaker, sym, ◌∙◌, bytes_eq}
use Rattle.portal_tables_rows.proofs.Common.{bytes_eq-Decides}
use Rattle.portal_tables_rows.proofs.KeyLemmas.{among, texts_among}
use Rattle.portal_tables_rows.proofs.keys.are_codes_among.Goals as goal

pub returns-clause-among : goal.returns-clause-among
returns-clause-among c codes known =
    let it = among bytes_eq bytes_eq-Decides c.args.codes.now c.args.known.now in
    let texts = texts_among c.args.codes.now c.args.known.now codes known in
    IfOk-weaker c.are_among.result _ _
    (λ among is. (λ on. texts.0 (it.0 (sym is ∙ on)), λ all. is ∙ it.1 (texts.1 all)))
    c.are_among.ensures.among
