use Rattle.portal_tables_rows.proofs.Common.{refl, batch_cells, IsOwnBatch}
use Rattle.portal_tables_rows.proofs.Cells.{exact_batch}
use Rattle.portal_tables_rows.proofs.ManyValues.{reads_many, tells_whole}
use Rattle.portal_tables_rows.proofs.WholeReading.{all_batches_are, all_batches_taken}
use Rattle.portal_tables_rows.proofs.whole.read_all_batches.Goals as goal

pub returns : goal.returns
returns g c =
    reads_many g.S.Store _ _ all_batches_taken
    (λ rows shown t h. tells_whole batch_cells 5 (λ x. refl) exact_batch IsOwnBatch (λ v. v.items) (λ v. refl)
    t.batches rows (all_batches_are _ _ rows shown t h)) c.read_table.ensures
