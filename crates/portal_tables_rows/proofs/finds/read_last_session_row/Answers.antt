use Rattle.portal_tables_rows.proofs.Common.{refl, Text, SessionRow, same_text, text_itself, text_of_device}
use Rattle.portal_tables_rows.proofs.Common.{WholeSession, whole_session_cells, whole_session_read, total_of}
use Rattle.portal_tables_rows.proofs.Common.{IsOwnWholeSession}
use Rattle.portal_tables_rows.proofs.Cells.{exact_whole_session}
use Rattle.portal_tables_rows.proofs.ManyValues.{own_sessions}
use Rattle.portal_tables_rows.proofs.Parts.{part_has, part_last, part_no_last}
use Rattle.portal_tables_rows.proofs.Reading.{last_session_rows_are, last_session_taken}
use Rattle.portal_tables_rows.proofs.Finding.{reads_one, by_last, tells_of}
use Rattle.portal_tables_sql.proofs.TableLemmas.{always}
use Rattle.portal_tables_sql.specs.declared.our_tables.OurTable.TheVariants as our
use Rattle.portal_tables_rows.proofs.finds.read_last_session_row.Goals as goal

pub returns-clause-reads : goal.returns-clause-reads
returns-clause-reads g c =
    let row = λ (w : WholeSession). w.row in
    let device_of = λ (x : SessionRow). x.device in
    let number_of = λ (x : SessionRow). x.number in
    let text = text_of_device c.args.device.now in
    reads_one g.S.Store _ _ (last_session_taken _)
    (λ rows shown t h. let was = h.store our.Sessions (always _, tt) in
    let it = last_session_rows_are _ _ text rows shown t h in
    tells_of
    (λ own. own_sessions was.whole t.sessions t.totals was.their_rows was.their_totals own.0 own.1)
    (by_last whole_session_cells 8 (λ x. refl) exact_whole_session whole_session_read IsOwnWholeSession 1
    (λ (w : WholeSession). w.row.device) text Text (λ x. refl) same_text text_itself
    was.whole _ 0 (λ (w : WholeSession). w.row.number) (λ x. refl) it.0 _ it.1 it.2
    (λ x is. (
      part_last row device_of text number_of was.whole t.sessions was.their_rows (whole_session_read x) is,
      part_has total_of was.whole t.totals was.their_totals (whole_session_read x) is.0,
    ))
    (λ is. (part_no_last row device_of text number_of was.whole t.sessions was.their_rows is, tt))))
    (rw (c.params-to_sql.ensures, c.text-text.ensures.value) at c.read_one.ensures)

pub returns-clause-device : goal.returns-clause-device
returns-clause-device g c = c.text-text.ensures.device
