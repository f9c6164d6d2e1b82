use Rattle.portal_server.specs.Command.{listening_line}
use Rattle.portal_server.proofs.command.listening_line.Goals as goal

pub returns : goal.returns
unfolding listening_line
returns c = c.format.ensures.ok
