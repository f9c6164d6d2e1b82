use Rattle.portal_tables_rows.proofs.Common.{err_from_is_err_and}
use Rattle.portal_model.proofs.Padding.{id-utf8}
use Rattle.portal_tables_rows.proofs.rows.id_in.Goals as goal

pub returns-in_err-text-clause-own : goal.returns-in_err-text-clause-own
returns-in_err-text-clause-own c p own e =
    let told = err_from_is_err_and c.from_residual.result c.from_residual.ensures.1 in
    rw (told.1, told.2) (c.in_err-text.ensures.own p (id-utf8 p own) e)
