use Rattle.portal_files.specs.PrintFile.{IsPrintFile}
use Rattle.portal_http_message.specs.declared.responses.ContentType.TheVariants.{Csv}
use Rattle.portal_http.specs.Replies.{IsSheet}
use Rattle.portal_http.proofs.ResponseLemmas.{with_text}
use Rattle.portal_http.proofs.responses.sheet_response.Goals as goal

pub returns : goal.returns
unfolding IsSheet
returns c =
    with_text (IsPrintFile c.args.settings.now.zone c.args.sheet.now) Csv c.args.moment c.as_slice.result.now
    c.in-Ok.body.items c.ok_response.result
    c.in-Ok.ensures.ok c.as_slice.ensures.value c.ok_response.ensures
