-- The list of batches, from what the tables list.
use Rattle.portal_desk_store.proofs.Common.{◌≡◌, ◌+◌, ◌<◌, ◌≤◌, ◌∙◌, ◌∷◌, ◌++◌, [], List, Option, map, take}
use Rattle.portal_desk_store.proofs.Common.{length}
use Rattle.portal_desk_store.proofs.Common.{ap, arith, get_or, nat_lt, nat_tests, Ledger, State, running}
use Rattle.portal_desk_store.proofs.Common.{stopped, ReadsOf}
use Rattle.std.specs.Prelude.{ℕ, min}
use Rattle.std.proofs.lemmas.List.{length-take, take-take, take_more, map-append}
use Rattle.portal_model.specs.Batches.{batch_state, vouchers_in, AreStatesAfter}
use Rattle.portal_model.specs.History.{History}
use Rattle.portal_model.specs.declared.batches.BatchState.{BatchState}
use Rattle.portal_model.specs.declared.record.Batch.{Batch}
use Rattle.portal_tables.specs.BatchLists.{AreFirstAfter}

abbrev pub state_of : History → Batch → BatchState
state_of H b = batch_state b (vouchers_in H b.id)

-- one state more
pub states_more : (H : History) (batches : List Batch) (i : ℕ) (d : Batch) → i < length batches
    → map (state_of H) (take (i + 1) batches)
    ≡ map (state_of H) (take i batches) ++ state_of H (get_or batches i d) ∷ []
states_more H batches i d within = ap (map (state_of H)) (take_more batches i d within)
    ∙ map-append (state_of H) (take i batches) (get_or batches i d ∷ [])

-- the list that is shown, of the first 21
pub states_after : (H : History) (place : Option Batch) (limit : ℕ) (listed : List Batch)
    (states : List BatchState) → limit ≤ 20 → AreFirstAfter H place listed
    → states ≡ map (state_of H) (take limit listed)
    → AreStatesAfter H place limit states (nat_lt limit (length listed))
states_after H place limit listed states most l shown = record {
  batches = l.all;
  after = record { same = l.lists.same; sorted = l.lists.sorted };
  shown = shown ∙ ap (map (state_of H)) (ap (take limit) l.first ∙ take-take limit 21 l.all (omega arith));
  rest = ap (nat_lt limit) (ap length l.first ∙ length-take 21 l.all) ∙ beyond (length l.all);
}
  where
    beyond : (n : ℕ) → nat_lt limit (min 21 n) ≡ nat_lt limit n
    beyond n = grind (arith, nat_tests)

-- a call that was answered was answered from a ledger
pub from_running : {Is : Ledger → Type 0} (before mid : State) (P : State → Type 0) → ReadsOf before Is mid
    → ((L : Ledger) → Is L → mid ≡ running L → P (running L)) → P before
from_running (running L) mid P read goes = goes L read.0 read.1
from_running (stopped L doubt) mid P read goes = absurd read
