use Rattle.portal_desk_store.proofs.Common.{List, ◌++◌, ap, arith, subst, sym, take, ◌∙◌, append_assoc}
use Rattle.portal_desk_store.proofs.Common.{option_to_list, Plan, plans_of, held_among, history_of, State}
use Rattle.portal_desk_store.proofs.Common.{running}
use Rattle.portal_tables.specs.TablesRepresent.{TablesRepresent}
use Rattle.portal_desk_store.proofs.JudgeLemmas.{held_more}
use Rattle.portal_desk_store.proofs.desks.StoreDesk.add_held_plans.Goals as goal

pub loop-plan-preserved : goal.loop-plan-preserved
loop-plan-preserved g c = record {
  rest = c.loop-plan.invariant.rest;
  fault_free = λ honest. c.loop-plan.invariant.fault_free (c.read.ensures.fault_free honest);
  stops = c.in_ok-found.ensures.stops ∙ c.loop-plan.invariant.stops;
  some = λ honest L at.
      let before = c.loop-plan.invariant.some (c.read.ensures.fault_free honest) L at in
      let found = c.in_ok-found.found in
      let one = c.in_ok-found.ensures.found honest (running L) before.0 in
      let front = c.args.held.now.items in
      let i = c.loop-plan.plan-index in
      let rows = plans_of (history_of L) in (
        subst (λ (s : State). TablesRepresent g.S.Store c.read.new.self s) one.3.1 one.1,
        c.in_ok-add_plan_if_found.ensures.ok ∙ ap (λ (ps : List Plan). ps ++ option_to_list found) before.1
            ∙ append_assoc front (held_among rows (take i c.args.listed.now)) (option_to_list found)
            ∙ ap (λ (ps : List Plan). front ++ ps) (sym (held_more (history_of L) c.args.listed.now i
            c.plan-item.result found (omega arith) one.3.0 c.plan-item.is)),
      );
}
