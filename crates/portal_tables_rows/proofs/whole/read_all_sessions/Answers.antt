use Rattle.portal_tables_rows.proofs.Common.{refl, map, sym, ap, ◌∙◌, map-map, WholeSession, total_of}
use Rattle.portal_tables_rows.proofs.Common.{whole_session_cells, whole_session_read, IsOwnWholeSession}
use Rattle.portal_tables_rows.proofs.Cells.{exact_whole_session}
use Rattle.portal_tables_rows.proofs.ManyValues.{own_sessions, reads_bare, tells_whole}
use Rattle.portal_tables_rows.proofs.WholeAsks.{sessions_asked}
use Rattle.portal_tables_rows.proofs.WholeReading.{all_sessions_are, all_sessions_simple}
use Rattle.portal_tables_sql.proofs.TableLemmas.{always}
use Rattle.portal_tables_sql.specs.declared.our_tables.OurTable.TheVariants as our
use Rattle.portal_tables_rows.proofs.whole.read_all_sessions.Goals as goal

pub returns : goal.returns
returns g c =
    reads_bare g.S.Store _ _ sessions_asked all_sessions_simple
    (λ rows shown t h.
    let was = h.store our.Sessions (always _, tt) in
    let it = tells_whole whole_session_cells 8 (λ x. refl) exact_whole_session IsOwnWholeSession
    (λ v. map whole_session_read v.items) (λ v. map-map whole_session_cells whole_session_read v.items)
    was.whole rows (all_sessions_are _ _ rows shown t h) in
    record {
      is = λ vs cut. let are = it.is vs cut in (
        sym (map-map (λ (w : WholeSession). w.row) whole_session_read vs.items)
            ∙ ap (map (λ (w : WholeSession). w.row)) are ∙ was.their_rows,
        sym (map-map total_of whole_session_read vs.items) ∙ ap (map total_of) are ∙ was.their_totals,
      );
      owns = λ own. it.owns
          (own_sessions was.whole t.sessions t.totals was.their_rows was.their_totals own.0 own.1);
    }) c.read_table.ensures
