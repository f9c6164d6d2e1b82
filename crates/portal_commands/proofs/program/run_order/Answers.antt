use Rattle.std.proofs.KnownBytes.{Keeps-refl}
use Rattle.portal_commands.proofs.program.run_order.Goals as goal

pub returns-in-Serve : goal.returns-in-Serve
returns-in-Serve g c = rw c.in-Serve.is (Keeps-refl _, c.run_serve.ensures)

pub returns-in-Print : goal.returns-in-Print
returns-in-Print g c = rw c.in-Print.is (Keeps-refl _, c.print.ensures)

pub returns-in-Takings : goal.returns-in-Takings
returns-in-Takings g c = rw c.in-Takings.is (Keeps-refl _, c.takings.ensures)

pub returns-in-Check : goal.returns-in-Check
returns-in-Check g c = rw c.in-Check.is (Keeps-refl _, c.check.ensures.over, c.check.ensures.exact)

pub returns-in-Answer : goal.returns-in-Answer
returns-in-Answer g c = rw c.in-Answer.is c.answer.ensures
