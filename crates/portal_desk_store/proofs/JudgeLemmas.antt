-- The decision on a command over the records that were read is the verdict of the history.
use Rattle.portal_desk_store.proofs.Common.{◌≡◌, ◌⊎◌, inl, inr, ℕ, ◌+◌, ◌<◌, ◌≤◌, lit≤, take, length, get_or}
use Rattle.portal_desk_store.proofs.Common.{List, [], ◌∷◌, ◌++◌, append_assoc, append-nil, Option, Some, None}
use Rattle.portal_desk_store.proofs.Common.{refl, sym, subst, ap, ◌∙◌, ◌≢◌, Result, Ok, Err, IfOk, IfErr, max}
use Rattle.portal_desk_store.proofs.Common.{option_to_list, Ghosts, Command, Load, Redeem, Plan, Changes}
use Rattle.portal_desk_store.proofs.Common.{Refusal, History, entry, head_of, last_moment, effective_moment}
use Rattle.portal_desk_store.proofs.Common.{plan_of, voucher_of, last_session_of, changes_of, plan_among}
use Rattle.portal_desk_store.proofs.Common.{load_change, redeem_change, plans_of, verdict, Follows, IsLegal}
use Rattle.portal_desk_store.proofs.Common.{IsTyped, IsWellFormed, greatest_moment, load_verdict}
use Rattle.portal_desk_store.proofs.Common.{redeem_verdict, held_among, Ledger, history_of, State, running}
use Rattle.portal_desk_store.proofs.Common.{CannotAnswer, StoreDesk, stop_flag, Judges, Decides}
use Rattle.portal_desk_store.proofs.Common.{MovesFromLedger}
use Rattle.std.proofs.Math.Nat.{le-max_right, max-le}
use Rattle.std.proofs.lemmas.List.{take_more}
use Rattle.portal_model.specs.declared.record.Head.{Head}
use Rattle.portal_model.specs.declared.record.Session.{Session}
use Rattle.portal_model.specs.declared.record.Voucher.{Voucher}
use Rattle.portal_model.specs.declared.refusal.Refusal.TheVariants.{Stopped}
use Rattle.portal_model_laws.specs.Laws.{AgreesOnIds}
use Rattle.portal_model_laws.proofs.Bounds.{sessions_fewer}
use Rattle.portal_model_laws.proofs.Held.{held_plans_suffice, held_plans_decide_load}
use Rattle.portal_model_laws.proofs.Plans.{plan_is_row}
use Rattle.portal_core.specs.Decision.{IsDecisionOrNoMemory}
use Rattle.portal_desk_store.proofs.StepLemmas.{decided_stop}

-- a decision is the verdict of the history
judges_at : (L : Ledger) (command : Command) (t : ℕ) (judgement : Option Refusal) (made : Option Changes)
    (result : Result Changes Refusal)
    → IsDecisionOrNoMemory result judgement made → judgement ≡ verdict (history_of L) command t
    → made ≡ changes_of (history_of L) command t
    → Judges result command t L (running L)
judges_at L command t judgement made (Ok c) decision same alike =
    ((sym same ∙ decision.accepts, sym alike ∙ decision.change), refl)
judges_at L command t judgement made (Err r) decision same alike = elim decision.refuses [
  | inl memory ↦ inr (inl (memory, refl))
  | inr refused ↦ inl (sym same ∙ refused, refl)
]

-- one that takes no memory
or_full : (judgement : Option Refusal) (made : Option Changes) (result : Result Changes Refusal)
    → IfOk result (λ _. judgement ≡ None)
    → IfErr result (λ r. judgement ≡ Some r) → IfErr result (λ r. r ≢ Stopped)
    → IfOk result (λ c. made ≡ Some c) → IsDecisionOrNoMemory result judgement made
or_full judgement made (Ok c) accepted refused own change =
    record { accepts = accepted; refuses = refused; change = change; own = own }
or_full judgement made (Err r) accepted refused own change =
    record { accepts = accepted; refuses = inr refused; change = change; own = own }

module _ {S : Type 0} {g : Ghosts S} where
  -- a decision over records that are those of the history
  pub decides_at : {desk : StoreDesk S} {result : Result Changes Refusal}
      {judgement : Option Refusal} {made : Option Changes}
      → IsDecisionOrNoMemory result judgement made → (command : Command) (t : ℕ)
      → MovesFromLedger g desk desk result
      (λ L after. judgement ≡ verdict (history_of L) command t → made ≡ changes_of (history_of L) command t
      → Judges result command t L after)
  decides_at {desk = desk} {result = result} {judgement = judgement} {made = made} decision command t =
      record {
        rest = (refl, refl, refl);
        fault_free = λ honest. honest;
        stops = decided_stop (stop_flag desk) result decision.own;
        step = λ honest L at.
            (running L, at, λ same alike. judges_at L command t judgement made result decision same alike);
      }

  -- a redemption over the head, the voucher and the last session that were read
  pub redeems_at : {desk : StoreDesk S} {result : Result Changes Refusal} (head : Head)
      (voucher : Option Voucher) (last : Option Session)
      (device code : List ℕ) (t : ℕ) → IfOk result (λ _. redeem_verdict head voucher last t ≡ None)
      → IfErr result (λ r. redeem_verdict head voucher last t ≡ Some r) → IfErr result (λ r. r ≢ Stopped)
      → (head.sessions ≤ head.grants → IfOk result (λ c. redeem_change head voucher last device t ≡ Some c))
      → MovesFromLedger g desk desk result
      (λ L after. voucher ≡ voucher_of (history_of L) code → last ≡ last_session_of (history_of L) device
      → head ≡ head_of (history_of L) → Judges result (Redeem device code) t L after)
  redeems_at {desk = desk} {result = result} head voucher last device code t accepted refused own made =
      record {
        rest = (refl, refl, refl);
        fault_free = λ honest. honest;
        stops = decided_stop (stop_flag desk) result own;
        step = λ honest L at. (running L, at, λ found former is. redeemed L found former is);
      }
    where
      redeemed : (L : Ledger) → voucher ≡ voucher_of (history_of L) code
          → last ≡ last_session_of (history_of L) device → head ≡ head_of (history_of L)
          → Judges result (Redeem device code) t L (running L)
      redeemed L found former is =
          let H = history_of L in
          let fewer : head.sessions ≤ head.grants =
          subst (λ (h : Head). h.sessions ≤ h.grants) (sym is) (sessions_fewer H) in
          let judgement = redeem_verdict head voucher last t in
          let change = redeem_change head voucher last device t in
          judges_at L (Redeem device code) t judgement change result
          (or_full judgement change result accepted refused own (made fewer))
          (ap (λ h. redeem_verdict h voucher last t) is ∙ ap (λ v. redeem_verdict (head_of H) v last t) found
          ∙ ap (λ s. redeem_verdict (head_of H) (voucher_of H code) s t) former)
          (ap (λ h. redeem_change h voucher last device t) is
          ∙ ap (λ v. redeem_change (head_of H) v last device t) found
          ∙ ap (λ s. redeem_change (head_of H) (voucher_of H code) s device t) former)

-- ---- the loaded plans with the listed ids

held_append : (rows xs ys : List Plan) → held_among rows (xs ++ ys) ≡ held_among rows xs ++ held_among rows ys
held_append rows [] ys = refl
held_append rows (p ∷ xs) ys =
    ap (λ (ps : List Plan). option_to_list (plan_among rows p.id) ++ ps) (held_append rows xs ys)
    ∙ sym (append_assoc (option_to_list (plan_among rows p.id)) (held_among rows xs) (held_among rows ys))

-- one listed id more
pub held_more : (H : History) (listed : List Plan) (i : ℕ) (p : Plan) (found : Option Plan)
    → i < length listed → found ≡ plan_of H p.id → p ≡ get_or listed i p
    → held_among (plans_of H) (take (i + 1) listed)
    ≡ held_among (plans_of H) (take i listed) ++ option_to_list found
held_more H listed i p found below is item =
    ap (held_among (plans_of H)) (take_more listed i p below)
    ∙ held_append (plans_of H) (take i listed) (get_or listed i p ∷ [])
    ∙ ap (λ (q : Plan). held_among (plans_of H) (take i listed) ++ held_among (plans_of H) (q ∷ []))
    (sym item)
    ∙ ap (λ (ps : List Plan). held_among (plans_of H) (take i listed) ++ ps)
    (append-nil (option_to_list (plan_among (plans_of H) p.id)))
    ∙ ap (λ (o : Option Plan). held_among (plans_of H) (take i listed) ++ option_to_list o)
    (sym (plan_is_row H p.id) ∙ sym is)

-- the verdict on a load is the same over the loaded plans with the listed ids as over all
pub loads_alike : (H : History) (t : ℕ) (listed held : List Plan) → held ≡ held_among (plans_of H) listed
    → (load_verdict (plan_among held) listed ≡ verdict H (Load listed) t)
    × (Some (load_change (plan_among held) listed t) ≡ changes_of H (Load listed) t)
loads_alike H t listed held is =
    let serves : AgreesOnIds held (plans_of H) listed =
    subst (λ (hs : List Plan). AgreesOnIds hs (plans_of H) listed) (sym is)
    (held_plans_suffice (plans_of H) listed) in
    let alike = held_plans_decide_load H held listed serves t in
    (alike.verdict, alike.changes)

-- ---- the decision on a command for a request at a time

last_in_range : (H : History) → IsLegal H → last_moment H ≤ greatest_moment
last_in_range [] legal = lit≤ tt
last_in_range (entry t command ∷ H) legal = legal.0.in_range

module _ (command : Command) (moment t : ℕ) (head : Head) (time : t ≡ max moment head.last) where
  later : (H : History) → head ≡ head_of H → t ≡ effective_moment H moment
  later H is = time ∙ ap (λ (h : Head). max moment h.last) is

  pub decided_so : IsTyped command → IsWellFormed command → moment ≤ greatest_moment → (L : Ledger)
      → IsLegal (history_of L) → head ≡ head_of (history_of L)
      → (result : Result Changes Refusal) (x : State) → Judges result command t L x
      → Decides result command moment (running L) x
  decided_so typed formed in_range L legal is (Ok changes) x it =
      let H = history_of L in
      let now = later H is in
      let follows : Follows H (effective_moment H moment) command = record {
        in_order = le-max_right moment (last_moment H);
        in_range = max-le in_range (last_in_range H legal);
        typed = typed;
        well_formed = formed;
        accepted = subst (λ (n : ℕ). verdict H command n ≡ None) now it.0.0;
      } in
      ((follows, subst (λ (n : ℕ). changes_of H command n ≡ Some changes) now it.0.1), it.1)
  decided_so typed formed in_range L legal is (Err r) x it =
      let H = history_of L in
      subst (λ (n : ℕ). ((verdict H command n ≡ Some r) × (x ≡ running L)) ⊎ CannotAnswer (running L) r x)
      (later H is) it
