use Rattle.portal_tables_rows.proofs.Common.{◌≡◌, err_from_is_err_and, subst}
use Rattle.portal_tables_rows.specs.Foreign.{IsPrintedCode}
use Rattle.portal_tables_rows.proofs.Readable.{code_utf8}
use Rattle.portal_tables_rows.proofs.rows.code_in.Goals as goal

pub returns-clause-own : goal.returns-clause-own
returns-clause-own c p own e =
    let exists = c.in_ok-text.ensures.column in
    let shown = c.deref.ensures in
    let same : p ≡ c.deref.result.now = cc in
    c.parse_printed_code.ensures.own (subst IsPrintedCode same own)

pub returns-in_err-text-clause-own : goal.returns-in_err-text-clause-own
returns-in_err-text-clause-own c p own e =
    let told = err_from_is_err_and c.from_residual.result c.from_residual.ensures.1 in
    rw (told.1, told.2) (c.in_err-text.ensures.own p (code_utf8 p own) e)
