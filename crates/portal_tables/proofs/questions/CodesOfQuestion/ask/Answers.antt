use Rattle.portal_tables_sql.proofs.FindLemmas.{ok_both}
use Rattle.portal_tables.proofs.ListLaws.{codes_listed}
use Rattle.portal_tables.proofs.ShownLemmas.{history_shown}
use Rattle.portal_tables.proofs.questions.CodesOfQuestion.ask.Goals as goal

pub returns-clause-found : goal.returns-clause-found
returns-clause-found g c clean live L shown =
    let held = history_shown L _ shown in
    ok_both c.list_batch_codes.result (λ codes. codes_listed _ held.0 c.args.self.batch.now codes.items)
    c.list_batch_codes.ensures.codes (c.list_batch_codes.ensures.reads.found clean _ held.1.1)
