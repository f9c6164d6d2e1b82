use Rattle.portal_tables.proofs.Common.{◌≡◌, map, take, filter_map, state, ReadsOnly, HasTables, OfHistory}
use Rattle.portal_tables.specs.RedemptionLists.{AreGrantsOf, redemption_numbered}
use Rattle.portal_tables.proofs.RedemptionRows.{row_number}
use Rattle.portal_tables.proofs.redemptions.redemptions_of_rows.Given as goal

abbrev pub invariant-loop-row : goal.invariant-loop-row
invariant-loop-row g l = record {
  found : OfHistory (state g.S.Store l.fn.conn) (state g.S.Store l.conn)
      (λ h. AreGrantsOf h l.fn.rows → l.redemptions.items
      ≡ filter_map (redemption_numbered h l.t) (map row_number (take l.row-index l.fn.rows)));
  looks : ReadsOnly HasTables (state g.S.Store l.fn.conn) (state g.S.Store l.conn);
}
