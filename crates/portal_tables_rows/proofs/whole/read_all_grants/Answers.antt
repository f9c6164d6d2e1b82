use Rattle.portal_tables_rows.proofs.Common.{refl, map, map-map, grant_cells, IsOwnGrant, grant_read}
use Rattle.portal_tables_rows.proofs.Cells.{exact_grant}
use Rattle.portal_tables_rows.proofs.ManyValues.{reads_first, tells_whole}
use Rattle.portal_tables_rows.proofs.WholeAsks.{grants_asked}
use Rattle.portal_tables_rows.proofs.WholeReading.{all_grants_are, all_grants_simple}
use Rattle.portal_tables_rows.proofs.whole.read_all_grants.Goals as goal

pub returns : goal.returns
returns g c =
    reads_first g.S.Store _ _ grants_asked all_grants_simple
    (λ rows shown t h. tells_whole grant_cells 6 (λ x. refl) exact_grant IsOwnGrant (λ v. map grant_read
    v.items) (λ v. map-map grant_cells grant_read v.items) t.grants rows (all_grants_are _ _ rows shown t h))
    c.read_table.ensures
