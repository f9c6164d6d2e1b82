use Rattle.portal_http.proofs.Common.{ℕ, ◌+◌, List, [], ◌∷◌, ◌++◌, ap, ◌∙◌, append_assoc, subst, Vec, Global}
use Rattle.portal_http.proofs.Common.{SettingsValue, Step}
use Rattle.std.proofs.lemmas.List.{length_push}
use Rattle.portal_http.proofs.RunLemmas.{Run-more}
use Rattle.portal_http.proofs.runs.serve_each.Goals as goal

pub loop-arrival-preserved : goal.loop-arrival-preserved
loop-arrival-preserved g c = record {
  same_settings = c.in_ok-response.ensures.desk.same_settings ∙ c.loop-arrival.invariant.same_settings;
  fault_free =
      λ honest. c.loop-arrival.invariant.fault_free (c.in_ok-response.ensures.desk.fault_free honest);
  stays = λ over. c.in_ok-response.ensures.desk.stays (c.loop-arrival.invariant.stays over);
  serves = λ honest old represents.
      let before =
      c.loop-arrival.invariant.serves (c.in_ok-response.ensures.desk.fault_free honest) old represents in
      let response = c.in_ok-response.response.bytes in
      let served = c.in_ok-response.ensures.desk.step honest before.0 before.2 in
      let step = subst (λ (s : SettingsValue). Step s before.0 c.arrival-item.result response.items served.0)
      c.loop-arrival.invariant.same_settings served.2 in
      let grown = c.in-Ok.ensures.items
      ∙ ap (λ (xs : List (Vec ℕ Global)). xs ++ response ∷ []) (c.in_ok-reserve.ensures.items ∙ before.3) in (
        served.0,
        before.1 ++ response ∷ [],
        served.1,
        grown ∙ append_assoc c.args.out.now.items before.1 (response ∷ []),
        length_push before.1 response ∙ ap (λ (n : ℕ). n + 1) before.4,
        Run-more (g.D.Desk.settings c.args.desk.now) old before.0 served.0 c.args.arrivals.now
            c.loop-arrival.arrival-index c.arrival-item.result before.1 response
            c.loop-arrival-test.true c.arrival-item.is before.5 step,
      );
}
