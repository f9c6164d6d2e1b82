use Rattle.portal_json.specs.Bodies.{open_details_body}
use Rattle.portal_json.proofs.details.open_details_text.Goals as goal

pub returns-clause-ok : goal.returns-clause-ok
unfolding open_details_body
returns-clause-ok c = c.sessions_list.ensures.ok
