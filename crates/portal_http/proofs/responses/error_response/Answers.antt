use Rattle.std.specs.Prelude.{option_map}
use Rattle.portal_http.proofs.Common.{◌∙◌, ℕ, List, subst, sym, Json, IsResponse}
use Rattle.portal_json.specs.Bodies.{error_body}
use Rattle.portal_http.specs.Replies.{IsError}
use Rattle.portal_http.proofs.ResponseLemmas.{refused_shown}
use Rattle.portal_http.proofs.responses.error_response.Goals as goal

pub invariant_of-result : goal.invariant_of-result
invariant_of-result c =
    let bytes = c.in_ok-bytes.bytes.items in
    let allow = option_map (λ methods. methods.now) c.args.allow in
    let made = subst (λ n. IsResponse n c.get.result Json allow c.as_bytes.result.now bytes)
    c.status_of.ensures c.in_ok-bytes.ensures in
    record {
      shown = c.status.ensures ∙ sym
          (refused_shown c.args.refusal c.get.result Json allow c.as_bytes.result.now bytes made);
    }

pub returns : goal.returns
unfolding IsError
returns c =
    let bytes = c.in_ok-bytes.bytes.items in
    let allow = option_map (λ methods. methods.now) c.args.allow in
    let made =
    subst (λ (body : List ℕ). IsResponse c.status_of.result c.get.result Json allow body bytes)
    (c.as_bytes.ensures.value ∙ c.in_ok-body.ensures.ok) c.in_ok-bytes.ensures in
    let dated =
    subst (λ n. IsResponse c.status_of.result n Json allow (error_body c.args.refusal) bytes)
    c.get.ensures.value made in
    record {
      ok = subst (λ n. IsResponse n c.args.moment Json allow (error_body c.args.refusal) bytes)
          c.status_of.ensures dated;
      err = tt;
    }
