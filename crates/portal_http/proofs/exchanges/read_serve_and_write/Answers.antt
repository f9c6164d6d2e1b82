use Rattle.portal_http.proofs.Common.{◌≡◌, ℕ, List, length, take, ap, subst, inr, arith, ⊤, Appends, Arrived}
use Rattle.portal_http.proofs.Common.{ServesInOrder}
use Rattle.std.proofs.KnownBytes.{Keeps-refl}
use Rattle.portal_http.proofs.ExchangeLemmas.{whole_goes_out, one_served, no_room}
use Rattle.portal_http.proofs.exchanges.read_serve_and_write.Goals as goal

pub returns-in_default-clause-wire : goal.returns-in_default-clause-wire
returns-in_default-clause-wire g c =
    no_room (λ (xs : List Arrived). λ (rs : List (List ℕ)). ⊤) _ c.args.moment c.args.seed
    c.cut_without_response-in_default.result c.cut_without_response-in_default.ensures
    (inr (c.in-Ok.received, c.in-Ok.ensures)) (Keeps-refl _) tt

pub returns-in_default-clause-desk : goal.returns-in_default-clause-desk
returns-in_default-clause-desk g c = record {
  same_settings = c.in_default.ensures.desk.same_settings;
  fault_free = c.in_default.ensures.desk.fault_free;
  stays = c.in_default.ensures.desk.stays;
  step = λ honest old represents.
      let it = c.in_default.ensures.desk.step honest old represents in (
        it.0,
        it.1,
        no_room (λ (xs : List Arrived). λ (rs : List (List ℕ)).
            ServesInOrder (g.D.Desk.settings c.args.desk.now) old xs rs it.0) _ c.args.moment c.args.seed
            c.cut_without_response-in_default.result c.cut_without_response-in_default.ensures
            (inr (c.in-Ok.received, c.in-Ok.ensures)) (Keeps-refl _) it.2,
      );
}

pub returns-in-Ok-write_response-clause-desk : goal.returns-in-Ok-write_response-clause-desk
returns-in-Ok-write_response-clause-desk g c = record {
  same_settings = c.in-Ok-serve_request.ensures.desk.same_settings;
  fault_free = c.in-Ok-serve_request.ensures.desk.fault_free;
  stays = c.in-Ok-serve_request.ensures.desk.stays;
  step = λ honest old represents.
      let step = c.in-Ok-serve_request.ensures.desk.step honest old represents in
      let response = c.in-Ok-serve_request.response in
      let shown = c.as_slice.ensures.value in
      let whole : c.len-whole.result ≡ length response.bytes.items =
      omega (arith, c.len-whole.ensures, c.as_slice.ensures.len, ap length shown) in
      let out =
      Appends (g.W.Write.contents c.args.writer.now) (g.W.Write.contents c.write_response.new.writer) in (
        step.0,
        step.1,
        (
          response.bytes.items,
          response.shown,
          whole,
          (
            c.in-Ok.received,
            c.in-Ok.ensures,
            one_served (g.D.Desk.settings c.args.desk.now) old step.0 _ _ response.bytes.items
                c.at-arrival.ensures step.2,
            whole_goes_out _ _ _ (subst out shown c.in-Ok-write_response.ensures),
          ),
        ),
      );
}

pub returns-clause-desk : goal.returns-clause-desk
returns-clause-desk g c = record {
  same_settings = c.in-Ok-serve_request.ensures.desk.same_settings;
  fault_free = c.in-Ok-serve_request.ensures.desk.fault_free;
  stays = c.in-Ok-serve_request.ensures.desk.stays;
  step = λ honest old represents.
      let step = c.in-Ok-serve_request.ensures.desk.step honest old represents in
      let response = c.in-Ok-serve_request.response in
      let shown = c.as_slice.ensures.value in
      let whole : c.len-whole.result ≡ length response.bytes.items =
      omega (arith, c.len-whole.ensures, c.as_slice.ensures.len, ap length shown) in
      let out =
      Appends (g.W.Write.contents c.args.writer.now) (g.W.Write.contents c.write_response.new.writer) in (
        step.0,
        step.1,
        (
          response.bytes.items,
          whole,
          omega (arith, whole, c.in-Err.ensures.0, ap length shown),
          (
            c.in-Ok.received,
            c.in-Ok.ensures,
            one_served (g.D.Desk.settings c.args.desk.now) old step.0 _ _ response.bytes.items
                c.at-arrival.ensures step.2,
            subst (λ (r : List ℕ). out (take c.in-Err.error.written r)) shown c.in-Err.ensures.1,
          ),
        ),
      );
}
