use Rattle.std.proofs.Common.{None, ◌∙◌}
use Rattle.portal_http.proofs.ServeLemmas.{prepared, refused, refused_by_desk}
use Rattle.portal_http_request.specs.declared.operation.Operation.TheVariants as operation
use Rattle.portal_http.proofs.serving.serve_plain.Goals as goal

pub returns-in_err-prepared : goal.returns-in_err-prepared
returns-in_err-prepared g c =
    let call = c.in_err-prepared.ensures in
    let refusal = c.in_err-prepared.field-0.0 in
    refused_by_desk g.D.Desk _ _ refusal (operation.Act c.args.command None) c.args.moment
    c.from_residual.result _ call.same_settings call.fault_free call.stops call.step c.from_residual.ensures.1
    (λ old new fails bytes gives. refused (g.D.Desk.settings c.args.desk.now) c.args.command None
    c.args.moment old refusal bytes new fails gives)

pub returns : goal.returns
returns g c = record {
  same_settings = c.commit_prepared.ensures.same_settings ∙ c.in_ok-prepared.ensures.same_settings;
  fault_free = λ honest. c.in_ok-prepared.ensures.fault_free (c.commit_prepared.ensures.fault_free honest);
  stays = λ over. c.commit_prepared.ensures.stays (c.in_ok-prepared.ensures.stops ∙ over);
  step = λ honest old at.
      prepared (g.D.Desk.settings c.args.desk.now) c.args.command None c.args.moment
      (λ s. g.D.Desk.represents c.prepare.new.self s)
      (λ s. g.D.Desk.represents c.commit_prepared.new.desk s) c.in_ok-prepared.prepared
      c.commit_prepared.result
      (λ L mid a fits. c.commit_prepared.ensures.finishes honest L mid a fits) old
      (c.in_ok-prepared.ensures.step (c.commit_prepared.ensures.fault_free honest) old at);
}
