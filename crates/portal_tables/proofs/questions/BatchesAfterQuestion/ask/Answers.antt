use Rattle.portal_tables.proofs.ShownLemmas.{history_shown}
use Rattle.portal_tables.proofs.questions.BatchesAfterQuestion.ask.Goals as goal

pub returns-clause-found : goal.returns-clause-found
returns-clause-found g c clean live L shown =
    c.read_batches_after.ensures.found clean live _ (history_shown L _ shown)
