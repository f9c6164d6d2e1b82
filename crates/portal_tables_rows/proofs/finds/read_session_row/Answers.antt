use Rattle.portal_tables_rows.proofs.Common.{refl, SessionRow, number, same_number, number_itself, w64}
use Rattle.portal_tables_rows.proofs.Common.{to_z_pos, WholeSession, whole_session_cells, whole_session_read}
use Rattle.portal_tables_rows.proofs.Common.{IsOwnWholeSession, total_of}
use Rattle.portal_tables_rows.proofs.Cells.{exact_whole_session}
use Rattle.portal_tables_rows.proofs.ManyValues.{own_sessions}
use Rattle.portal_tables_rows.proofs.Parts.{part_found, part_has, part_missing}
use Rattle.portal_tables_rows.proofs.Reading.{session_rows_are, session_taken}
use Rattle.portal_tables_rows.proofs.Finding.{reads_one, by_key, tells_of}
use Rattle.portal_tables_sql.proofs.TableLemmas.{always}
use Rattle.portal_tables_sql.specs.declared.our_tables.OurTable.TheVariants as our
use Rattle.portal_tables_rows.proofs.finds.read_session_row.Goals as goal

pub returns-clause-reads : goal.returns-clause-reads
returns-clause-reads g c =
    let row = λ (w : WholeSession). w.row in
    let number_of = λ (x : SessionRow). x.number in
    let n = c.args.number in
    reads_one g.S.Store _ _ (session_taken _)
    (λ rows shown t h. let was = h.store our.Sessions (always _, tt) in
    tells_of
    (λ own. own_sessions was.whole t.sessions t.totals was.their_rows was.their_totals own.0 own.1)
    (by_key whole_session_cells 8 (λ x. refl) exact_whole_session whole_session_read IsOwnWholeSession 0
    (λ (w : WholeSession). w.row.number) n number (λ x. refl) same_number number_itself was.whole _ _
    (session_rows_are _ _ n rows shown t h)
    (λ x is. (
      part_found row number_of n was.whole t.sessions was.their_rows (whole_session_read x) is,
      part_has total_of was.whole t.totals was.their_totals (whole_session_read x) is.0,
    ))
    (λ is. (part_missing row number_of n was.whole t.sessions was.their_rows is, tt))))
    (rw (c.params-to_sql.ensures, to_z_pos w64 c.args.number c.requires) at c.read_one.ensures)
