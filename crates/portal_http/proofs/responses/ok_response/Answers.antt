use Rattle.portal_http.proofs.Common.{None, subst, sym, IsResponse}
use Rattle.portal_http.proofs.ResponseLemmas.{accepted_shown}
use Rattle.portal_http.proofs.responses.ok_response.Goals as goal

pub invariant_of-result : goal.invariant_of-result
invariant_of-result c = record {
  shown = sym (accepted_shown _ c.args.content_type None c.args.body.now
      c.in_ok-bytes.bytes.items c.in_ok-bytes.ensures);
}

pub returns : goal.returns
returns c = record {
  ok = subst (λ n. IsResponse 200 n c.args.content_type None c.args.body.now c.in_ok-bytes.bytes.items)
      c.get.ensures.value c.in_ok-bytes.ensures;
  err = tt;
}
