use Rattle.std.proofs.Common.{map-id}
use Rattle.portal_tables_rows.proofs.Common.{refl, subst, batch_cells, IsOwnBatch, w64, to_z_pos}
use Rattle.portal_model.specs.Batches.{by_issue}
use Rattle.portal_model.specs.declared.record.Batch.{Batch}
use Rattle.portal_tables_rows.specs.Lists.{is_behind, ListsFirst}
use Rattle.portal_tables_rows.proofs.Cells.{exact_batch}
use Rattle.portal_tables_rows.proofs.PageReading.{behind_rows_are, behind_taken}
use Rattle.portal_tables_rows.proofs.ManyValues.{reads_many, tells_first}
use Rattle.portal_tables_rows.proofs.pages.list_batches_behind.Goals as goal

pub returns : goal.returns
returns g c =
    let at = c.args.issued in
    let id = c.args.id.now in
    reads_many g.S.Store _ _ (behind_taken _ _)
    (λ rows shown t h. let it = behind_rows_are _ _ at id rows shown t h in
    let tells = tells_first batch_cells 5 (λ b. refl) exact_batch IsOwnBatch (λ (b : Batch). b)
    (is_behind at id) by_issue 21 t.batches it.0 rows it.1 it.2 in record {
      is = λ vs cut. subst (ListsFirst 21 (is_behind at id) by_issue t.batches) (map-id vs.items)
          (tells.is vs cut);
      owns = tells.owns;
    })
    (rw (
      c.params-to_sql.ensures,
      c.params-to_sql-2.ensures,
      to_z_pos w64 c.args.issued c.requires,
    ) at c.read_many.ensures.reads)
