use Rattle.portal_tables_sql.proofs.FindLemmas.{ok_both}
use Rattle.portal_tables.proofs.KeptLemmas.{found_is_held}
use Rattle.portal_tables.proofs.questions.RequestOfQuestion.ask.Goals as goal

pub returns-clause-found : goal.returns-clause-found
returns-clause-found g c clean live L shown =
    let asked = c.read_request_row.ensures in
    ok_both c.read_request_row.result (λ found typed finds. λ mark from under. found_is_held L shown.0
    c.args.self.caller.now c.args.self.number.now asked.caller mark from under found typed finds)
    asked.typed (asked.reads.found clean _ shown.1)
