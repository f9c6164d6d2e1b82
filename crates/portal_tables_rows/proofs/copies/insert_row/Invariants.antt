use Rattle.portal_tables_rows.proofs.Common.{◌≡◌, map, take}
use Rattle.sqlite.specs.Values.{bound, bound_value}
use Rattle.portal_tables_rows.proofs.copies.insert_row.Given as goal

abbrev pub invariant-loop-at : goal.invariant-loop-at
invariant-loop-at g l = record {
  tx : l.tx ≡ l.initial.tx;
  bound : bound l.params.items ≡ map bound_value (take l.at l.row);
}
