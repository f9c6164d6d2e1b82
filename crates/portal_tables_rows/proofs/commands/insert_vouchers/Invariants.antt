use Rattle.portal_tables_rows.proofs.Common.{map, take, Ok, text_of, Writes}
use Rattle.portal_tables_rows.proofs.Compose.{with_issued}
use Rattle.portal_tables_rows.proofs.commands.insert_vouchers.Given as goal

abbrev pub invariant-loop-place : goal.invariant-loop-place
invariant-loop-place g l =
    Writes g.S.Store (with_issued l.batch (map text_of (take l.place l.codes))) l.fn.tx l.tx (Ok tt)
