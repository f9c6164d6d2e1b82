use Rattle.portal_tables_rows.proofs.Common.{refl, number, same_number, number_itself, w64, to_z_pos}
use Rattle.portal_model.specs.Rows.{GrantRow}
use Rattle.portal_tables_rows.specs.Contents.{grant_cells}
use Rattle.portal_tables_rows.specs.Foreign.{IsOwnGrant}
use Rattle.portal_tables_rows.specs.Sums.{grant_read}
use Rattle.portal_tables_rows.proofs.Cells.{exact_grant}
use Rattle.portal_tables_rows.proofs.PageReading.{grant_rows_are, grant_taken}
use Rattle.portal_tables_rows.proofs.Finding.{reads_one, by_key}
use Rattle.portal_tables_rows.proofs.pages.read_grant_row.Goals as goal

pub returns : goal.returns
returns g c =
    reads_one g.S.Store _ _ (grant_taken _)
    (λ rows shown t h. by_key grant_cells 6 (λ x. refl) exact_grant grant_read IsOwnGrant 0
    (λ (x : GrantRow). x.number) c.args.number number (λ x. refl) same_number number_itself t.grants _ _
    (grant_rows_are _ _ c.args.number rows shown t h) (λ x is. is) (λ is. is))
    (rw (c.params-to_sql.ensures, to_z_pos w64 c.args.number c.requires) at c.read_one.ensures)
