use Rattle.portal_http.proofs.Common.{ℕ, List, refl, subst, Ok, Err, SettingsValue, IsChecked, OrMemory}
use Rattle.portal_http.proofs.Common.{ServesOperation, Step}
use Rattle.portal_http.specs.Replies.{IsRejection}
use Rattle.portal_http.specs.Responses.{Responds}
use Rattle.portal_http.specs.Serving.{HoldsOfResponse}
use Rattle.portal_http.proofs.ServeLemmas.{passed_on, rejects, stepped}
use Rattle.portal_http.proofs.serving.check_and_serve.Goals as goal

pub returns-in-Err : goal.returns-in-Err
returns-in-Err g c =
    let a = c.args.arrival.now in
    let why = c.in-Err.rejected in
    let checked =
    subst (λ (s : SettingsValue). OrMemory (IsChecked s a.seed a.bytes) (Err why)) c.settings.ensures
    (subst (λ (seed : List ℕ). OrMemory (IsChecked c.settings.result.now seed a.bytes) (Err why))
    c.seed.ensures
    (subst (λ (b : List ℕ). OrMemory (IsChecked c.settings.result.now c.seed.result b) (Err why))
    c.received.ensures c.in-Err.ensures.checked)) in
    let made = subst (λ (m : ℕ). Responds (IsRejection why m) c.rejection_response.result)
    c.moment-moment.ensures c.rejection_response.ensures in
    record {
      same_settings = refl;
      fault_free = λ honest. honest;
      stays = λ over. over;
      step = λ is old at. (
        old,
        at,
        rejects (g.D.Desk.settings c.args.desk.now) a why old c.rejection_response.result checked
            c.in-Err.ensures.own made,
      );
    }

pub returns-in-Ok : goal.returns-in-Ok
returns-in-Ok g c =
    let settings = g.D.Desk.settings c.args.desk.now in
    let a = c.args.arrival.now in
    let asked = c.in-Ok.operation in
    let served = c.serve_operation.ensures in
    let checked =
    subst (λ (s : SettingsValue). OrMemory (IsChecked s a.seed a.bytes) (Ok asked)) c.settings.ensures
    (subst (λ (seed : List ℕ). OrMemory (IsChecked c.settings.result.now seed a.bytes) (Ok asked))
    c.seed.ensures
    (subst (λ (b : List ℕ). OrMemory (IsChecked c.settings.result.now c.seed.result b) (Ok asked))
    c.received.ensures c.in-Ok.ensures.checked)) in
    record {
      same_settings = served.same_settings;
      fault_free = served.fault_free;
      stays = served.stays;
      step = λ is old at.
          let it = served.step is old at in
          let done = subst (λ (m : ℕ). HoldsOfResponse c.serve_operation.result m
          (λ bytes. ServesOperation settings asked old m bytes it.0)) c.moment-moment.ensures it.2 in (
            it.0,
            it.1,
            passed_on (λ (bytes : List ℕ). ServesOperation settings asked old a.moment bytes it.0)
                (λ (bytes : List ℕ). Step settings old a bytes it.0) a.moment c.serve_operation.result done
                (λ bytes served. stepped settings a asked bytes old it.0 checked served),
          );
    }
