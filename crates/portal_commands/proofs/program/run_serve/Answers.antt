use Rattle.std.proofs.Common.{inr, arith}
use Rattle.portal_commands.proofs.program.run_serve.Goals as goal

pub returns : goal.returns
returns g c = inr (omega (arith, c.if-port-gt65535.false), c.serve.ensures)
