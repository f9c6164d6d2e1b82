use Rattle.portal_tables.proofs.ShownLemmas.{history_shown}
use Rattle.portal_tables.proofs.questions.LastRedemptionsQuestion.ask.Goals as goal

pub returns-clause-found : goal.returns-clause-found
returns-clause-found g c clean live L shown =
    c.read_last_redemptions.ensures.found clean live _ (history_shown L _ shown)
