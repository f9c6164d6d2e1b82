use Rattle.portal_http.proofs.Common.{◌∙◌, subst, Answer, answer_of, running}
use Rattle.portal_http.specs.Replies.{IsAnswer}
use Rattle.portal_http.proofs.ServeLemmas.{kept, stays_at_error, unkept}
use Rattle.portal_http.proofs.serving.commit_prepared.Goals as goal

pub returns-in-Ok : goal.returns-in-Ok
returns-in-Ok g c = record {
  same_settings = c.in-Ok.ensures.same_settings;
  fault_free = c.in-Ok.ensures.fault_free;
  stays = λ over. c.in-Ok.ensures.stops ∙ over;
  finishes = λ honest L at a fits.
      let bytes = c.in_ok-response.response.bytes.items in
      let answered : IsAnswer (answer_of c.args.prepared.changes) c.args.moment bytes =
      subst (λ (x : Answer). IsAnswer x c.args.moment bytes) c.answer.ensures c.in_ok-response.ensures.ok in
      let done = c.in-Ok.ensures.finish honest (running L) at a fits in (
        done.0,
        done.1,
        kept L a (answer_of c.args.prepared.changes) c.args.moment bytes done.0 done.2 answered,
      );
}

pub returns-in-Err : goal.returns-in-Err
returns-in-Err g c = record {
  same_settings = c.in-Err.ensures.same_settings;
  fault_free = c.in-Err.ensures.fault_free;
  stays = stays_at_error _ _ _ c.in-Err.ensures.stops;
  finishes = λ honest L at a fits.
      let done = c.in-Err.ensures.finish honest (running L) at a fits in (
        done.0,
        done.1,
        λ bytes gives.
            unkept L a (answer_of c.args.prepared.changes) c.args.moment bytes c.in-Err.refusal done.0 done.2
            gives,
      );
}
