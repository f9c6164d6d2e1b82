use Rattle.std.proofs.lemmas.Result.{IfOk-weaker}
use Rattle.portal_tables.proofs.OpeningLemmas.{empty_stands}
use Rattle.portal_tables.proofs.opening.open_in_memory.Goals as goal

pub returns : goal.returns
returns c = IfOk-weaker c.open_in_memory.result _ _ empty_stands c.open_in_memory.ensures.empty
