use Rattle.portal_tables_sql.proofs.FindLemmas.{ok_then}
use Rattle.portal_tables.proofs.PaymentLists.{refunds_listed}
use Rattle.portal_tables.proofs.ShownLemmas.{history_shown}
use Rattle.portal_tables.proofs.questions.RefundsQuestion.ask.Goals as goal

pub returns-clause-found : goal.returns-clause-found
returns-clause-found g c clean live L shown =
    let held = history_shown L _ shown in
    ok_then c.list_refunds.result
    (λ refunds. refunds_listed _ held.0 c.args.self.from c.args.self.to refunds.items)
    (c.list_refunds.ensures.found clean _ held.1.1)
