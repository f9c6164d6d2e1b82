use Rattle.portal_tables_rows.proofs.Common.{refl, Text, same_text, text_itself, batch_cells, IsOwnBatch}
use Rattle.portal_model.specs.declared.record.Batch.{Batch}
use Rattle.portal_tables_rows.proofs.Cells.{exact_batch}
use Rattle.portal_tables_rows.proofs.Reading.{batch_rows_are, batch_taken}
use Rattle.portal_tables_rows.proofs.Finding.{reads_one, by_key}
use Rattle.portal_tables_rows.proofs.finds.read_batch_row.Goals as goal

pub returns : goal.returns
returns g c =
    reads_one g.S.Store _ _ (batch_taken _)
    (λ rows shown t h. by_key batch_cells 5 (λ x. refl) exact_batch (λ (x : Batch). x) IsOwnBatch
    0 (λ (x : Batch). x.id) c.args.id.now Text (λ x. refl) same_text text_itself t.batches _ _
    (batch_rows_are _ _ c.args.id.now rows shown t h) (λ x is. is) (λ is. is))
    (rw (c.params-to_sql.ensures, c.text.ensures.value) at c.read_one.ensures)
