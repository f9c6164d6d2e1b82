use Rattle.portal_tables_rows.proofs.Common.{refl, map, map-map, session_cells, IsOwnSession}
use Rattle.portal_tables_rows.proofs.Common.{old_session_read}
use Rattle.portal_tables_rows.proofs.Cells.{exact_session}
use Rattle.portal_tables_rows.proofs.ManyValues.{reads_apart, tells_whole}
use Rattle.portal_tables_rows.proofs.WholeAsks.{old_sessions_asked}
use Rattle.portal_tables_rows.proofs.WholeReading.{old_sessions_are, old_sessions_simple}
use Rattle.portal_tables_rows.proofs.whole.read_old_sessions.Goals as goal

pub returns : goal.returns
returns g c =
    reads_apart g.S.Store _ _ 1 old_sessions_asked old_sessions_simple
    (λ rows shown t h. tells_whole session_cells 6 (λ x. refl) exact_session IsOwnSession
    (λ v. map old_session_read v.items) (λ v. map-map session_cells old_session_read v.items) t.sessions rows
    (old_sessions_are _ _ rows shown t h)) c.read_table.ensures
