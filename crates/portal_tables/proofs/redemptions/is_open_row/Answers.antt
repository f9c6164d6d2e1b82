use Rattle.portal_tables.proofs.Common.{◌≡◌, rules, remaining_of}
use Rattle.portal_tables.proofs.SessionRows.{session_told}
use Rattle.portal_tables.proofs.redemptions.is_open_row.Goals as goal

pub returns-then-is_none_or : goal.returns-then-is_none_or
returns-then-is_none_or c h s is found =
    let row = c.args.row.now in
    let told = session_told h row s is found in
    let closed : row.closed ≡ s.closed = told.closed in
    let ends : row.ends ≡ s.ends = told.ends in
    let remaining : row.remaining ≡ remaining_of s.used s.allowance = told.remaining in
    search rules

pub returns-else-is_none_or : goal.returns-else-is_none_or
returns-else-is_none_or c h s is found =
    let row = c.args.row.now in
    let told = session_told h row s is found in
    let closed : row.closed ≡ s.closed = told.closed in
    let ends : row.ends ≡ s.ends = told.ends in
    search rules
