use Rattle.portal_desk_store.proofs.Common.{◌≡◌, ◌∙◌, ap, sym, subst, map, take, length, nat_lt, option_map}
use Rattle.portal_desk_store.proofs.Common.{State, history_of}
use Rattle.std.specs.Prelude.{ℕ}
use Rattle.portal_ledger.specs.Calls.{ReadsThat}
use Rattle.portal_model.specs.Batches.{AreStatesAfter}
use Rattle.portal_tables.specs.TablesRepresent.{TablesRepresent}
use Rattle.portal_tables.proofs.BatchLemmas.{first_rows}
use Rattle.portal_desk_store.proofs.BatchLemmas.{from_running, state_of, states_after}
use Rattle.portal_desk_store.proofs.desks.StoreDesk.list_after.Goals as goal

pub returns : goal.returns
returns g c =
    let limit = c.args.limit in
    let listed = c.in_ok-listed.listed.items in
    let all : c.as_slice-batches.result.now ≡ listed = c.as_slice-batches.ensures.value in
    let shown : take c.min-shown.result c.as_slice-batches.result.now ≡ take limit listed =
    ap (λ n. take n c.as_slice-batches.result.now) c.min-shown.ensures
    ∙ first_rows limit c.as_slice-batches.result.now ∙ ap (take limit) all in
    record {
      rest = c.in_ok-states.ensures.rest;
      fault_free = λ honest. c.read.ensures.fault_free (c.in_ok-states.ensures.fault_free honest);
      stops = c.in_ok-states.ensures.stops ∙ c.in_ok-listed.ensures.stops;
      step = λ honest before at.
          let one = c.in_ok-listed.ensures.found (c.in_ok-states.ensures.fault_free honest) before at in
          let place = option_map (λ batch. batch.now) c.args.place in
          let states = c.in_ok-states.states.items in
          from_running before one.0
          (λ s. (after : State) × TablesRepresent g.S.Store c.states_of.new.self.tables after
          × ReadsThat s (λ H. AreStatesAfter H place limit states
          (nat_lt limit (length c.as_slice-batches.result.now))) after) one.3
          (λ L is still.
          let there = subst (λ (s : State). TablesRepresent g.S.Store c.read.new.self s) still one.1 in
          let two = c.in_ok-states.ensures.step honest L there in (
            two.0,
            two.1,
            (
              subst (λ (n : ℕ). AreStatesAfter (history_of L) place limit states (nat_lt limit n))
                  (sym (ap length all))
                  (states_after (history_of L) place limit listed states c.requires is
                  (two.2.0 ∙ ap (map (state_of (history_of L))) shown)),
              two.2.1,
            ),
          ));
    }
