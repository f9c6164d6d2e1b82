use Rattle.portal_tables_rows.proofs.Common.{refl, plan_cells, IsOwnPlan}
use Rattle.portal_tables_rows.proofs.Cells.{exact_plan}
use Rattle.portal_tables_rows.proofs.ManyValues.{reads_first, tells_whole}
use Rattle.portal_tables_rows.proofs.WholeAsks.{plans_asked}
use Rattle.portal_tables_rows.proofs.WholeReading.{all_plans_are, all_plans_simple}
use Rattle.portal_tables_rows.proofs.whole.read_all_plans.Goals as goal

pub returns : goal.returns
returns g c =
    reads_first g.S.Store _ _ plans_asked all_plans_simple
    (λ rows shown t h. tells_whole plan_cells 7 (λ x. refl) exact_plan IsOwnPlan (λ v. v.items) (λ v. refl)
    t.plans rows (all_plans_are _ _ rows shown t h)) c.read_table.ensures
