use Rattle.portal_tables_rows.proofs.Common.{◌≡◌, true, false}
use Rattle.portal_ledger.specs.RequestRow.{boolean}
use Rattle.portal_tables_rows.proofs.rows.flag_in.Goals as goal

pub returns-clause-own : goal.returns-clause-own
returns-clause-own c true own e =
    let exists = c.in_ok-number_in.ensures.column in
    let same : boolean true ≡ c.in_ok-number_in.field-0 = cc in
    c.parse_boolean.ensures.own true own same
returns-clause-own c false own e =
    let exists = c.in_ok-number_in.ensures.column in
    let same : boolean false ≡ c.in_ok-number_in.field-0 = cc in
    c.parse_boolean.ensures.own false own same
