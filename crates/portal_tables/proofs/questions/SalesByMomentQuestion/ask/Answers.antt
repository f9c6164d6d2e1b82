use Rattle.portal_tables.proofs.ShownLemmas.{history_shown}
use Rattle.portal_tables.proofs.questions.SalesByMomentQuestion.ask.Goals as goal

pub returns-clause-found : goal.returns-clause-found
returns-clause-found g c clean live L shown =
    c.read_sales_by_moment.ensures.found clean live _ (history_shown L _ shown)
