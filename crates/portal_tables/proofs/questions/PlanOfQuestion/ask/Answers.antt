use Rattle.portal_tables.proofs.Joining.{plan_found}
use Rattle.portal_tables_sql.proofs.FindLemmas.{ok_then}
use Rattle.portal_tables.proofs.ShownLemmas.{history_shown}
use Rattle.portal_tables.proofs.questions.PlanOfQuestion.ask.Goals as goal

pub returns-clause-found : goal.returns-clause-found
returns-clause-found g c clean live L shown =
    let held = history_shown L _ shown in
    ok_then c.read_plan_row.result (plan_found _ held.0 c.args.self.id.now)
    (c.read_plan_row.ensures.found clean _ held.1.1)
