use Rattle.portal_tables.proofs.Common.{◌≡◌, All, map, take, filter_map, state, ReadsOnly, HasTables, IsCode}
use Rattle.portal_tables.proofs.Common.{OfHistory, voucher_of}
use Rattle.portal_tables.specs.BatchLists.{AreTerms, AreVouchersOf}
use Rattle.portal_tables.proofs.BatchLemmas.{code_of_row}
use Rattle.portal_tables.proofs.batches.vouchers_of_rows.Given as goal

abbrev pub invariant-loop-row : goal.invariant-loop-row
invariant-loop-row g l = record {
  codes : All (λ row. IsCode (code_of_row row)) (take l.row-index l.fn.rows);
  found : OfHistory (state g.S.Store l.fn.conn) (state g.S.Store l.conn)
      (λ h. AreVouchersOf h l.fn.rows → (l.vouchers.items
      ≡ filter_map (voucher_of h) (map code_of_row (take l.row-index l.fn.rows))) × AreTerms h l.before);
  looks : ReadsOnly HasTables (state g.S.Store l.fn.conn) (state g.S.Store l.conn);
}
