use Rattle.portal_http_message.proofs.DecidedLemmas.{heads_once}
use Rattle.portal_http_message.proofs.laws.one_head_at_most.Goals as goal

pub returns : goal.returns
returns c = heads_once
