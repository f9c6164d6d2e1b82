use Rattle.portal_tables_rows.proofs.Common.{refl, map, map-map, total_cells, IsOwnTotal, ends_row}
use Rattle.portal_tables_rows.proofs.Cells.{exact_total}
use Rattle.portal_tables_rows.proofs.ManyValues.{reads_apart, tells_whole}
use Rattle.portal_tables_rows.proofs.WholeAsks.{old_totals_asked}
use Rattle.portal_tables_rows.proofs.WholeReading.{old_totals_are, old_totals_simple}
use Rattle.portal_tables_rows.proofs.whole.read_old_totals.Goals as goal

pub returns : goal.returns
returns g c =
    reads_apart g.S.Store _ _ 2 old_totals_asked old_totals_simple
    (λ rows shown t h. tells_whole total_cells 3 (λ x. refl) exact_total IsOwnTotal
    (λ v. map ends_row v.items) (λ v. map-map total_cells ends_row v.items) t.totals rows
    (old_totals_are _ _ rows shown t h)) c.read_table.ensures
