use Rattle.portal_http.proofs.Common.{Some, ◌∙◌, subst, PreparesMarked}
use Rattle.portal_desk.specs.declared.prepared.Marked.{Marked}
use Rattle.portal_http_request.specs.declared.operation.Operation.TheVariants as operation
use Rattle.portal_http.proofs.ServeLemmas.{prepared, refused, refused_by_desk}
use Rattle.portal_http.proofs.serving.serve_idempotent.Goals as goal

pub returns-in_err-marked : goal.returns-in_err-marked
returns-in_err-marked g c =
    let call = c.in_err-marked.ensures in
    let refusal = c.in_err-marked.field-0.0 in
    let mark = Some c.args.mark.now in
    refused_by_desk g.D.Desk _ _ refusal (operation.Act c.args.command mark) c.args.moment
    c.from_residual.result _ call.same_settings call.fault_free call.stops call.step c.from_residual.ensures.1
    (λ old new fails bytes gives. refused (g.D.Desk.settings c.args.desk.now) c.args.command mark
    c.args.moment old refusal bytes new fails gives)

pub returns-in-Fresh : goal.returns-in-Fresh
returns-in-Fresh g c = record {
  same_settings = c.commit_prepared.ensures.same_settings ∙ c.in_ok-marked.ensures.same_settings;
  fault_free = λ honest. c.in_ok-marked.ensures.fault_free (c.commit_prepared.ensures.fault_free honest);
  stays = λ over. c.commit_prepared.ensures.stays (c.in_ok-marked.ensures.stops ∙ over);
  step = λ honest old at.
      let judged = c.in_ok-marked.ensures.step (c.commit_prepared.ensures.fault_free honest) old at in
      let ready =
      subst (λ (m : Marked). PreparesMarked old c.args.command c.args.moment c.args.mark.now m judged.0)
      c.in-Fresh.is judged.2 in
      prepared (g.D.Desk.settings c.args.desk.now) c.args.command (Some c.args.mark.now) c.args.moment
      (λ s. g.D.Desk.represents c.prepare_marked.new.self s)
      (λ s. g.D.Desk.represents c.commit_prepared.new.desk s) c.in-Fresh.prepared
      c.commit_prepared.result
      (λ L mid a fits. c.commit_prepared.ensures.finishes honest L mid a fits) old
      (judged.0, judged.1, ready);
}
