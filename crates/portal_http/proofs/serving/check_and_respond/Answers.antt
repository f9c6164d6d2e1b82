use Rattle.portal_http.proofs.Common.{ℕ, List, subst, GivesRefusal, Step}
use Rattle.portal_http.specs.Serving.{HoldsOfResponse}
use Rattle.portal_http.proofs.ServeLemmas.{passed_on}
use Rattle.portal_http.proofs.serving.check_and_respond.Goals as goal

pub returns-in-Err : goal.returns-in-Err
returns-in-Err g c =
    let served = c.in-Err.ensures in
    let settings = g.D.Desk.settings c.args.desk.now in
    let a = c.args.arrival.now in
    let refusal = c.in-Err.refusal in
    let made = subst (λ (m : ℕ). HoldsOfResponse c.respond_to_refusal.result m
    (λ bytes. GivesRefusal refusal m bytes)) c.moment.ensures c.respond_to_refusal.ensures in
    record {
      same_settings = served.same_settings;
      fault_free = served.fault_free;
      stays = served.stays;
      step = λ is old at.
          let it = served.step is old at in (
            it.0,
            it.1,
            passed_on (λ (bytes : List ℕ). GivesRefusal refusal a.moment bytes)
                (λ (bytes : List ℕ). Step settings old a bytes it.0) a.moment c.respond_to_refusal.result
                made it.2,
          );
    }
