use Rattle.portal_tables_rows.proofs.Common.{refl, bytes_eq, text_of}
use Rattle.portal_model.specs.Rows.{GrantRow}
use Rattle.portal_tables_rows.specs.Contents.{grant_cells}
use Rattle.portal_tables_rows.specs.Foreign.{IsOwnGrant}
use Rattle.portal_tables_rows.specs.Lists.{by_newest}
use Rattle.portal_tables_rows.specs.Sums.{grant_read}
use Rattle.portal_tables_rows.proofs.Cells.{exact_grant}
use Rattle.portal_tables_rows.proofs.PageReading.{last_grants_rows_are, last_grants_taken}
use Rattle.portal_tables_rows.proofs.ManyValues.{reads_many, tells_first}
use Rattle.portal_tables_rows.proofs.pages.list_last_grants.Goals as goal

pub returns-clause-reads : goal.returns-clause-reads
returns-clause-reads g c =
    let text = text_of c.args.code.now in
    reads_many g.S.Store _ _ (last_grants_taken _)
    (λ rows shown t h. let it = last_grants_rows_are _ _ text rows shown t h in
    tells_first grant_cells 6 (λ x. refl) exact_grant IsOwnGrant grant_read
    (λ (x : GrantRow). bytes_eq text x.code) by_newest 101 t.grants it.0 rows it.1 it.2)
    (rw (c.params-to_sql.ensures, c.as_bytes.ensures, c.text-text.ensures.value) at c.read_many.ensures.reads)

pub returns-clause-code : goal.returns-clause-code
returns-clause-code g c = c.text-text.ensures.spells.is_code
