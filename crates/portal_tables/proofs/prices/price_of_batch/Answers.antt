use Rattle.std.proofs.Common.{sym}
use Rattle.portal_tables.proofs.prices.price_of_batch.Goals as goal

pub returns-in-Some : goal.returns-in-Some
returns-in-Some c = (c.in-Some.plan.now, sym c.in-Some.ensures, c.from.ensures)
