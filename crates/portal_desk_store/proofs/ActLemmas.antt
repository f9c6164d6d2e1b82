-- A command that is prepared and then committed.
use Rattle.portal_desk_store.proofs.Common.{◌≡◌, inl, inr, ℕ, Bool, Option, Some, ap, sym, subst, ◌∙◌}
use Rattle.portal_desk_store.proofs.Common.{option_map, None, Err, Ok, MatchResult, Result, Ghosts, Command}
use Rattle.portal_desk_store.proofs.Common.{Answer, Refusal, answer_of, MarkedChanges, Fingerprint, Accepted}
use Rattle.portal_desk_store.proofs.Common.{Ledger, repeat_in, accepted_at, State, running, stopped, Fits}
use Rattle.portal_desk_store.proofs.Common.{Keeps, CannotKeep, KeepsStop, Prepares, PreparesMarked, StoreDesk}
use Rattle.portal_desk_store.proofs.Common.{DeskRepresents, DeskIsFaultFree, MovesDesk, settings_of}
use Rattle.portal_desk_store.proofs.Common.{stop_flag}
use Rattle.portal_desk.specs.declared.prepared.Marked.{Marked}
use Rattle.portal_desk.specs.declared.prepared.Marked.TheVariants.{Fresh}
use Rattle.portal_desk_store.specs.Acting.{EndsExecution}

-- the state after committing a prepared command
abbrev IsKept : MarkedChanges → Result Answer Refusal → State → Accepted → State → Type 0
IsKept prepared result before a after = MatchResult result
    (λ answer. (answer ≡ answer_of prepared.changes) × Keeps before a after)
    (λ r. CannotKeep before a r after)

carries_so : (command : Command) (moment : ℕ) (mark : Option Fingerprint) (prepared : MarkedChanges)
    (result : Result Answer Refusal) (L : Ledger) (after : State)
    → (repeat_in L mark ≡ Ok None) × Fits (running L) prepared (accepted_at L moment command mark)
    → IsKept prepared result (running L) (accepted_at L moment command mark) after
    → EndsExecution result command moment mark (running L) after
carries_so command moment mark prepared (Ok answer) L after is keep =
    inl ((is.0, is.1.0, ap (option_map answer_of) is.1.1 ∙ ap Some (sym keep.0)), keep.1)
carries_so command moment mark prepared (Err r) L after is (inl none) = inl (inr none.0, none.1)
carries_so command moment mark prepared (Err r) L after is (inr over) = inr (over.0, inr (is.1.0, over.1))

module _ {S : Type 0} (g : Ghosts S) (command : Command) (moment : ℕ) where
  -- it is prepared, and it is committed, or it is not, or it is in doubt
  pub carries : (mark : Option Fingerprint) {old mid new : StoreDesk S} {prepared : MarkedChanges}
      (result : Result Answer Refusal)
      → MovesDesk g old mid (Ok prepared) (λ before after. Prepares before command moment mark prepared after)
      → settings_of new ≡ settings_of mid → (DeskIsFaultFree g new → DeskIsFaultFree g mid)
      → KeepsStop (stop_flag mid) (stop_flag new) result
      → (DeskIsFaultFree g new → (before : State) → DeskRepresents g mid before → (a : Accepted)
      → Fits before prepared a
      → (after : State) × DeskRepresents g new after × IsKept prepared result before a after)
      → MovesDesk g old new result (EndsExecution result command moment mark)
  carries mark {old} {mid} {new} {prepared} result first told honest stops keep = record {
    same_settings = told ∙ first.same_settings;
    fault_free = λ is. first.fault_free (honest is);
    stops = subst (λ (b : Bool). KeepsStop b (stop_flag new) result) first.stops stops;
    step = λ is before at. go is before (first.step (honest is) before at);
  }
    where
      go : DeskIsFaultFree g new → (before : State)
          → ((x : State) × DeskRepresents g mid x × Prepares before command moment mark prepared x)
          → (after : State) × DeskRepresents g new after
          × EndsExecution result command moment mark before after
      go is (running L) one =
          let it = keep is (running L) (subst (λ (s : State). DeskRepresents g mid s) one.2.1 one.1)
          (accepted_at L moment command mark) one.2.0.1 in
          (it.0, it.1, carries_so command moment mark prepared result L it.0 one.2.0 it.2)
      go is (stopped L doubt) one = absurd one.2

  -- a request that acts once, which is a new one
  pub fresh_first : (mark : Fingerprint) {old mid : StoreDesk S} {marked : Marked} {prepared : MarkedChanges}
      → marked ≡ Fresh prepared
      → MovesDesk g old mid (Ok marked)
      (λ before after. PreparesMarked before command moment mark marked after)
      → MovesDesk g old mid (Ok prepared)
      (λ before after. Prepares before command moment (Some mark) prepared after)
  fresh_first mark {old} {mid} {marked} {prepared} is first = record {
    same_settings = first.same_settings;
    fault_free = first.fault_free;
    stops = first.stops;
    step = λ honest before at.
        let it = first.step honest before at in
        (it.0, it.1, subst (λ (m : Marked). PreparesMarked before command moment mark m it.0) is it.2);
  }
