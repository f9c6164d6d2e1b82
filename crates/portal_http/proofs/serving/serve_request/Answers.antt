use Rattle.portal_http.proofs.Common.{◌≡◌, ℕ, ◌∙◌, subst, GivesRefusal, IsRefusal, NoMemory}
use Rattle.std.proofs.lemmas.Result.{MatchResult-at_ok}
use Rattle.portal_http.specs.declared.reply.Response.{Response}
use Rattle.portal_http.specs.declared.spares.Spare.{Spare}
use Rattle.portal_http.proofs.serving.serve_request.Goals as goal

pub returns-in-Err-check_and_respond-clause-desk : goal.returns-in-Err-check_and_respond-clause-desk
returns-in-Err-check_and_respond-clause-desk g c =
    let served = c.in-Err-check_and_respond.ensures in
    let refusal = c.in-Err-check_and_respond.refusal in
    let bytes = c.into_response.result.bytes.items in
    let at_moment = MatchResult-at_ok (λ (s : Spare). s.moment ≡ c.moment.result)
    (λ (r : Response). IsRefusal NoMemory c.moment.result r.bytes.items) c.in-Ok.spare c.in-Ok.is
    c.in_ok-spare.ensures ∙ c.moment.ensures in
    record {
      same_settings = served.same_settings;
      fault_free = served.fault_free;
      stays = served.stays;
      step = λ is old at.
          let it = served.step is old at in (
            it.0,
            it.1,
            it.2 bytes (subst (λ (m : ℕ). GivesRefusal refusal m bytes) at_moment c.into_response.ensures),
          );
    }
