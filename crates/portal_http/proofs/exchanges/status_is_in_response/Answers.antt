use Rattle.portal_http.proofs.ResponseLemmas.{accepted_shown, refused_shown}
use Rattle.portal_http.proofs.exchanges.status_is_in_response.Goals as goal

pub returns : goal.returns
returns c = record { accepted = accepted_shown; refused = refused_shown }
