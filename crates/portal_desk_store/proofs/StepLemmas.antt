-- Calls over the tables of a desk, one after another.
use Rattle.portal_desk_store.proofs.Common.{◌≡◌, inr, Bool, refl, subst, ◌∙◌, ◌≢◌, Result, Ok, Err, IfErr}
use Rattle.portal_desk_store.proofs.Common.{Ghosts, Refusal, IsLegal, Ledger, history_of, State, running}
use Rattle.portal_desk_store.proofs.Common.{stopped, ReadsOf, KeepsStop, IsFaultFree, StoreDesk, stop_flag}
use Rattle.portal_desk_store.proofs.Common.{KeepsRest, MovesTables, MovesFromLedger}
use Rattle.portal_model.specs.declared.refusal.Refusal.TheVariants as refusal
use Rattle.portal_tables.specs.declared.tables.Tables.{Tables}
use Rattle.portal_tables.specs.TablesRepresent.{ReadsTables, TablesRepresent}
use Rattle.portal_desk_store.proofs.ReadLemmas.{legal_at}

-- a decision, which is no call of the tables
pub decided_stop : {T : Type 0} (is_stopped : Bool) (result : Result T Refusal)
    → IfErr result (λ r. r ≢ refusal.Stopped)
    → KeepsStop is_stopped is_stopped result
decided_stop is_stopped (Ok x) own = refl
decided_stop is_stopped (Err r) own = inr (own, refl)

module _ {S : Type 0} where
  pub rest_on : (old mid new : StoreDesk S) → KeepsRest old mid → KeepsRest mid new → KeepsRest old new
  rest_on old mid new first second = (second.0 ∙ first.0, second.1 ∙ first.1, second.2 ∙ first.2)

  pub stops_on : {T : Type 0} (old mid new : StoreDesk S) (result : Result T Refusal)
      → stop_flag mid ≡ stop_flag old
      → KeepsStop (stop_flag mid) (stop_flag new) result → KeepsStop (stop_flag old) (stop_flag new) result
  stops_on old mid new result same stops = subst (λ (b : Bool). KeepsStop b (stop_flag new) result) same stops

module _ {S : Type 0} {g : Ghosts S} where
  -- a call that reads, from a ledger
  pub from_ledger : {A : Type 0} {old new : StoreDesk S} {result : Result A Refusal}
      {Step : State → State → Type 0}
      → MovesTables g old new result Step
      → MovesFromLedger g old new result (λ L after. Step (running L) after)
  from_ledger call = record {
    rest = call.rest;
    fault_free = call.fault_free;
    stops = call.stops;
    step = λ honest L at. call.step honest (running L) at;
  }

  -- a question that the tables answered
  pub answered : {A : Type 0} {old : StoreDesk S} {tables : Tables S} {found : A} {Is : Ledger → A → Type 0}
      → ReadsTables g old.tables tables (Ok found) Is
      → MovesTables g old (record old { tables = tables }) (Ok found)
      (λ before after. ReadsOf before (λ L. Is L found) after)
  answered read = record {
    rest = (refl, refl, refl);
    fault_free = read.fault_free;
    stops = read.stops;
    step = λ honest before at. let it = read.found honest before at in (it.0, it.1, it.3);
  }

  -- a call that read something, and another one after it
  pub and_then : {A B : Type 0} {old mid new : StoreDesk S} {found : A}
      {result : Result B Refusal} {Is : Ledger → Type 0}
      {Step Whole : Ledger → State → Type 0}
      → MovesFromLedger g old mid (Ok found) (λ L after. Is L × (after ≡ running L))
      → MovesFromLedger g mid new result Step
      → ((L : Ledger) → Is L → (after : State) → Step L after → Whole L after)
      → MovesFromLedger g old new result Whole
  and_then {old = old} {mid = mid} {new = new} {result = result} first second whole = record {
    rest = rest_on old mid new first.rest second.rest;
    fault_free = λ honest. first.fault_free (second.fault_free honest);
    stops = stops_on old mid new result first.stops second.stops;
    step = λ honest L at.
        let one = first.step (second.fault_free honest) L at in
        let two =
        second.step honest L (subst (λ (s : State). TablesRepresent g mid.tables s) one.2.1 one.1) in
        (two.0, two.1, whole L one.2.0 two.0 two.2);
  }

  -- the same from each state
  pub go_on : {A B : Type 0} {old mid new : StoreDesk S} {found : A}
      {result : Result B Refusal} {Is : Ledger → Type 0}
      {Step : Ledger → State → Type 0} {Whole : State → State → Type 0}
      → MovesTables g old mid (Ok found) (λ before after. ReadsOf before Is after)
      → MovesFromLedger g mid new result Step
      → ((L : Ledger) → IsLegal (history_of L) → Is L → (after : State) → Step L after
      → Whole (running L) after)
      → MovesTables g old new result Whole
  go_on {old = old} {mid = mid} {new = new} {result = result} {Is = Is} {Whole = Whole} first second whole =
      record {
        rest = rest_on old mid new first.rest second.rest;
        fault_free = λ honest. first.fault_free (second.fault_free honest);
        stops = stops_on old mid new result first.stops second.stops;
        step = λ honest before at. go honest before (first.step (second.fault_free honest) before at);
      }
    where
      go : IsFaultFree g new.tables → (before : State)
          → ((x : State) × TablesRepresent g mid.tables x × ReadsOf before Is x)
          → (y : State) × TablesRepresent g new.tables y × Whole before y
      go honest (running L) one =
          let at : TablesRepresent g mid.tables (running L) =
          subst (λ (s : State). TablesRepresent g mid.tables s) one.2.1 one.1 in
          let two = second.step honest L at in
          (two.0, two.1, whole L (legal_at g L mid.tables at) one.2.0 two.0 two.2)
      go honest (stopped L doubt) one = absurd one.2
