use Rattle.portal_tables.proofs.Common.{sym}
use Rattle.portal_model_laws.proofs.Basics.{bytes_same}
use Rattle.portal_tables.proofs.batches.read_terms.Goals as goal

pub returns-in-Some-clause-id : goal.returns-in-Some-clause-id
returns-in-Some-clause-id g c = bytes_same _ _ (sym c.if-is.ensures)
