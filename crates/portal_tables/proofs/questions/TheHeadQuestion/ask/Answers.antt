use Rattle.portal_ledger.specs.Ledger.{history_of}
use Rattle.portal_tables.proofs.Joining.{head_found}
use Rattle.portal_tables.proofs.questions.TheHeadQuestion.ask.Goals as goal

pub returns-in-Some-clause-found : goal.returns-in-Some-clause-found
returns-in-Some-clause-found g c clean live L shown =
    head_found (history_of L) c.in_ok-kept.field-0 (c.in_ok-kept.ensures.found clean _ shown.1)
    c.in-Some.kept c.in-Some.is
