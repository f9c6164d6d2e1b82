use Rattle.portal_json.specs.Bodies.{sessions_body}
use Rattle.portal_json.proofs.sessions.sessions_text.Goals as goal

pub returns-clause-ok : goal.returns-clause-ok
unfolding sessions_body
returns-clause-ok c = c.sessions_list.ensures.ok
