use Rattle.portal_tables_rows.proofs.Common.{map, take, AreUses, grant_read}
use Rattle.portal_tables_rows.proofs.sums.count_uses_by_code.Given as goal

abbrev pub invariant-loop-grant : goal.invariant-loop-grant
invariant-loop-grant l = AreUses l.uses (map grant_read (take l.grant-index l.grants))
