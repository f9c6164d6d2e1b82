use Rattle.portal_files.proofs.Common.{◌∙◌, table_get}
use Rattle.portal_files.proofs.fields.integer_at.Goals as goal

pub returns : goal.returns
returns c =
    let found = table_get c.get.result c.args.key.now c.args.table.now.entries c.get.ensures.value in
    c.as_integer.ensures ∙ rw (← rw c.in_ok-get.was at found)

pub returns-in_err-get : goal.returns-in_err-get
returns-in_err-get c =
    let found = table_get c.get.result c.args.key.now c.args.table.now.entries c.get.ensures.value in
    let gone = rw c.in_err-get.was at found in
    rw (c.from_residual.ensures, ← gone)
