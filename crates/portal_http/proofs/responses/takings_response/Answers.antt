use Rattle.portal_http.proofs.Common.{string_bytes, PlainText}
use Rattle.portal_files.specs.Report.{IsReport}
use Rattle.portal_http.specs.Replies.{IsTakings}
use Rattle.portal_http.proofs.ResponseLemmas.{with_text}
use Rattle.portal_http.proofs.responses.takings_response.Goals as goal

pub returns : goal.returns
unfolding IsTakings
returns c =
    with_text (IsReport c.args.days.now) PlainText c.args.moment c.as_bytes.result.now
    (string_bytes c.in-Ok.body) c.ok_response.result
    c.in-Ok.ensures.ok c.as_bytes.ensures.value c.ok_response.ensures
