use Rattle.portal_commands.specs.Troubles.{second_line}
use Rattle.portal_commands.proofs.trouble.second_line.Goals as goal

pub returns : goal.returns
unfolding second_line
returns c = c.format.ensures.ok
