use Rattle.portal_tables.proofs.Common.{refl, ap, sym, ◌∙◌, batch_of}
use Rattle.portal_tables.proofs.Joining.{voucher_joined}
use Rattle.portal_tables.proofs.batches.voucher_of_row.Goals as goal

pub returns-clause-voucher : goal.returns-clause-voucher
returns-clause-voucher c h legal among terms =
    let row = c.args.row.now in
    voucher_joined h legal row.code c.text.ensures.spells.is_code row c.args.terms.now.batch
    c.args.terms.now.plan (among.0, refl) among.1 (ap (batch_of h) (sym c.requires) ∙ terms.0) terms.1
