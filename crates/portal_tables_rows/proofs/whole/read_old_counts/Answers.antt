use Rattle.portal_tables_rows.proofs.Common.{refl, map, map-map, count_cells, IsOwnCount, count_read}
use Rattle.portal_tables_rows.proofs.Cells.{exact_count}
use Rattle.portal_tables_rows.proofs.ManyValues.{reads_apart, tells_whole}
use Rattle.portal_tables_rows.proofs.WholeAsks.{old_counts_asked}
use Rattle.portal_tables_rows.proofs.WholeReading.{old_counts_are, old_counts_simple}
use Rattle.portal_tables_rows.proofs.whole.read_old_counts.Goals as goal

pub returns : goal.returns
returns g c =
    reads_apart g.S.Store _ _ 2 old_counts_asked old_counts_simple
    (λ rows shown t h. tells_whole count_cells 2 (λ x. refl) exact_count IsOwnCount
    (λ v. map count_read v.items) (λ v. map-map count_cells count_read v.items) t.counts rows
    (old_counts_are _ _ rows shown t h)) c.read_table.ensures
