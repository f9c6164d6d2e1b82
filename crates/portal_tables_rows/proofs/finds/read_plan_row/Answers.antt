use Rattle.portal_tables_rows.proofs.Common.{refl, Text, Plan, same_text, text_itself, plan_cells, IsOwnPlan}
use Rattle.portal_tables_rows.proofs.Cells.{exact_plan}
use Rattle.portal_tables_rows.proofs.Reading.{plan_rows_are, plan_taken}
use Rattle.portal_tables_rows.proofs.Finding.{reads_one, by_key}
use Rattle.portal_tables_rows.proofs.finds.read_plan_row.Goals as goal

pub returns : goal.returns
returns g c =
    reads_one g.S.Store _ _ (plan_taken _)
    (λ rows shown t h. by_key plan_cells 7 (λ x. refl) exact_plan (λ (x : Plan). x) IsOwnPlan
    0 (λ (x : Plan). x.id) c.args.id.now Text (λ x. refl) same_text text_itself t.plans _ _
    (plan_rows_are _ _ c.args.id.now rows shown t h) (λ x is. is) (λ is. is))
    (rw (c.params-to_sql.ensures, c.text.ensures.value) at c.read_one.ensures)
