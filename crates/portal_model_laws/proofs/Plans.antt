-- The plan of an id is its row.
use Rattle.portal_model_laws.proofs.Common.{◌≡◌, ℕ, Bool, true, false, cond, List, [], ◌∷◌, Option, Some}
use Rattle.portal_model_laws.proofs.Common.{None, refl, subst, ap, sym, ◌∙◌, bytes_eq, is_none, find}
use Rattle.portal_model_laws.proofs.Common.{option_or, find-append, Load, Plan, entry, History, plan_of}
use Rattle.portal_model_laws.proofs.Common.{plans_to_add, plan_among, plans_of}
use Rattle.portal_model_laws.specs.Laws.{PlanIsRow}
use Rattle.portal_model_laws.proofs.Basics.{bytes_same, not_both, found-passes}

-- the plan that a load lists for an id that is not loaded is the one that it adds
found-added : (H : History) (id : List ℕ) (plans : List Plan) → plan_of H id ≡ None
    → find (λ p. bytes_eq p.id id) plans ≡ plan_among (plans_to_add (plan_of H) plans) id
found-added H id [] none = refl
found-added H id (p ∷ plans) none =
    go (found-added H id plans none) (bytes_eq p.id id) (is_none (plan_of H p.id)) refl refl
  where
    go : find (λ q. bytes_eq q.id id) plans ≡ plan_among (plans_to_add (plan_of H) plans) id → (b new : Bool)
        → bytes_eq p.id id ≡ b → is_none (plan_of H p.id) ≡ new
        → cond b (Some p) (find (λ q. bytes_eq q.id id) plans)
        ≡ plan_among (cond new (p ∷ plans_to_add (plan_of H) plans) (plans_to_add (plan_of H) plans)) id
    go rest true true same n = rw same
    go rest true false same n =
        let held : is_none (plan_of H p.id) ≡ true = subst (λ (x : List ℕ). is_none (plan_of H x) ≡ true)
        (sym (bytes_same p.id id same)) (ap (λ (o : Option Plan). is_none o) none) in
        absurd (not_both (is_none (plan_of H p.id)) held n)
    go rest false true same n = rest ∙ rw same
    go rest false false same n = rest

pub or-added : (H : History) (id : List ℕ) (plans : List Plan) (o : Option Plan) → plan_of H id ≡ o
    → option_or o (find (λ p. bytes_eq p.id id) plans)
    ≡ option_or o (plan_among (plans_to_add (plan_of H) plans) id)
or-added H id plans None none = found-added H id plans none
or-added H id plans (Some p) is = refl

-- the plan of an id is the first row with that id
pub plan_is_row : PlanIsRow
plan_is_row [] id = refl
plan_is_row (entry t (Load plans) ∷ H) id =
    or-added H id plans (plan_of H id) refl
    ∙ ap (λ o. option_or o (plan_among (plans_to_add (plan_of H) plans) id)) (plan_is_row H id)
    ∙ sym (find-append (λ p. bytes_eq p.id id) (plans_of H) (plans_to_add (plan_of H) plans))
plan_is_row (_ ∷ H) id = plan_is_row H id

-- the plan of an id has that id
pub plan-id : (H : History) (id : List ℕ) (p : Plan) → plan_of H id ≡ Some p → p.id ≡ id
plan-id H id p e = bytes_same p.id id
    (found-passes (λ (q : Plan). bytes_eq q.id id) (plans_of H) p (sym (plan_is_row H id) ∙ e))
