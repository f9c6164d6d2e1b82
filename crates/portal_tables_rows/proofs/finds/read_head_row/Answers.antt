use Rattle.portal_tables_rows.proofs.Common.{refl, number, same_number, number_itself, HeadRow, head_cells}
use Rattle.portal_tables_rows.proofs.Common.{IsOwnHead, head_read}
use Rattle.portal_tables_rows.proofs.Cells.{exact_head}
use Rattle.portal_tables_rows.proofs.Reading.{head_rows_are, head_taken}
use Rattle.portal_tables_rows.proofs.Finding.{reads_one, by_key}
use Rattle.portal_tables_rows.proofs.finds.read_head_row.Goals as goal

pub returns : goal.returns
returns g c =
    reads_one g.S.Store _ _ head_taken
    (λ rows shown t h. by_key head_cells 5 (λ x. refl) exact_head head_read IsOwnHead 0
    (λ (x : HeadRow). x.id) 1 number (λ x. refl) same_number number_itself t.heads _ _
    (head_rows_are _ _ rows shown t h) (λ x is. is) (λ is. is))
    c.read_one.ensures
