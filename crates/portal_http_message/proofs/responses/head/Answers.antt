use Rattle.portal_http_message.specs.Bytes.{head_bytes}
use Rattle.portal_http_message.proofs.responses.head.Goals as goal

pub returns : goal.returns
unfolding head_bytes
returns c = c.format.ensures.ok
