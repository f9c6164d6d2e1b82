-- The loaded plans with the listed ids.
use Rattle.portal_model_laws.proofs.Common.{◌≡◌, ℕ, Bool, true, false, cond, List, [], ◌∷◌, Option, Some}
use Rattle.portal_model_laws.proofs.Common.{None, refl, ap, sym, ◌∙◌, bytes_eq, ◌||◌, All, list_any}
use Rattle.portal_model_laws.proofs.Common.{option_or, option_to_list, All-nil, All-cons, All-head, All-tail}
use Rattle.portal_model_laws.proofs.Common.{All-weaker, find-append, Plan, plan_of, plan_among, plans_to_add}
use Rattle.portal_model_laws.proofs.Common.{plans_of, differs}
use Rattle.portal_model_laws.specs.Laws.{HeldPlansSuffice, HeldPlansDecideLoad}
use Rattle.portal_model_laws.specs.FromRows.{held_among}
use Rattle.portal_model_laws.proofs.Basics.{bytes_same, bytes_refl, found-passes}
use Rattle.portal_model_laws.proofs.Plans.{plan_is_row}

abbrev is_listed : List ℕ → List Plan → Bool
is_listed id listed = list_any (λ p. bytes_eq p.id id) listed

-- what was found of one id, looked up by another
found_alone : (x id : List ℕ) (o : Option Plan) → ((p : Plan) → o ≡ Some p → p.id ≡ x) → (b : Bool)
    → bytes_eq x id ≡ b → plan_among (option_to_list o) id ≡ cond b o None
found_alone x id None named true is = refl
found_alone x id None named false is = refl
found_alone x id (Some p) named b is =
    let test : bytes_eq p.id id ≡ b = ap (λ (y : List ℕ). bytes_eq y id) (named p refl) ∙ is in
    ap (λ (c : Bool). cond c (Some p) None) test

or_same : (o : Option Plan) (b : Bool) → option_or o (cond b o None) ≡ o
or_same None true = refl
or_same _ _ = refl

-- of a listed id the plan of the rows is found, and of another none
held-among : (rows listed : List Plan) (id : List ℕ)
    → plan_among (held_among rows listed) id ≡ cond (is_listed id listed) (plan_among rows id) None
held-among rows [] id = refl
held-among rows (p ∷ listed) id =
    find-append (λ q. bytes_eq q.id id) (option_to_list (plan_among rows p.id)) (held_among rows listed)
    ∙ ap (λ o. option_or (plan_among (option_to_list (plan_among rows p.id)) id) o)
    (held-among rows listed id)
    ∙ ap (λ o. option_or o (cond (is_listed id listed) (plan_among rows id) None))
    (found_alone p.id id (plan_among rows p.id) (λ q e.
    bytes_same q.id p.id (found-passes (λ (x : Plan). bytes_eq x.id p.id) rows q e)) (bytes_eq p.id id) refl)
    ∙ go (bytes_eq p.id id) refl
  where
    go : (b : Bool) → bytes_eq p.id id ≡ b
        → option_or (cond b (plan_among rows p.id) None) (cond (is_listed id listed) (plan_among rows id)
        None) ≡ cond (b || is_listed id listed) (plan_among rows id) None
    go true is =
        ap (λ (x : List ℕ). option_or (plan_among rows x) (cond (is_listed id listed) (plan_among rows id)
        None)) (bytes_same p.id id is) ∙ or_same (plan_among rows id) (is_listed id listed)
    go false is = refl

all_listed : (listed : List Plan) → All (λ p. is_listed p.id listed ≡ true) listed
all_listed [] = All-nil (λ (p : Plan). is_listed p.id [] ≡ true)
all_listed (p ∷ listed) =
    All-cons (λ (q : Plan). is_listed q.id (p ∷ listed) ≡ true) p listed (rw (bytes_refl p.id))
    (All-weaker (λ (q : Plan). is_listed q.id listed ≡ true) (λ (q : Plan).
    is_listed q.id (p ∷ listed) ≡ true) (λ q h. go (bytes_eq p.id q.id) h) listed (all_listed listed))
  where
    go : {x : Bool} → (b : Bool) → x ≡ true → (b || x) ≡ true
    go true h = refl
    go false h = h

pub held_plans_suffice : HeldPlansSuffice
held_plans_suffice rows listed =
    All-weaker (λ (p : Plan). is_listed p.id listed ≡ true)
    (λ (p : Plan). plan_among (held_among rows listed) p.id ≡ plan_among rows p.id)
    (λ p is. held-among rows listed p.id ∙ ap (λ (b : Bool). cond b (plan_among rows p.id) None) is) listed
    (all_listed listed)

-- With plans that agree with the rows on the listed ids

differ_alike : (f g : List ℕ → Option Plan) (listed : List Plan) → All (λ p. f p.id ≡ g p.id) listed
    → list_any (λ p. differs (f p.id) p) listed ≡ list_any (λ p. differs (g p.id) p) listed
differ_alike f g [] same = refl
differ_alike f g (p ∷ listed) same =
    let here : f p.id ≡ g p.id = All-head (λ (q : Plan). f q.id ≡ g q.id) p listed same in
    rw (here, differ_alike f g listed (All-tail (λ (q : Plan). f q.id ≡ g q.id) p listed same))

added_alike : (f g : List ℕ → Option Plan) (listed : List Plan) → All (λ p. f p.id ≡ g p.id) listed
    → plans_to_add f listed ≡ plans_to_add g listed
added_alike f g [] same = refl
added_alike f g (p ∷ listed) same =
    let here : f p.id ≡ g p.id = All-head (λ (q : Plan). f q.id ≡ g q.id) p listed same in
    rw (here, added_alike f g listed (All-tail (λ (q : Plan). f q.id ≡ g q.id) p listed same))

pub held_plans_decide_load : HeldPlansDecideLoad
held_plans_decide_load H held listed serves t =
    let same : All (λ p. plan_among held p.id ≡ plan_of H p.id) listed =
    All-weaker (λ (p : Plan). plan_among held p.id ≡ plan_among (plans_of H) p.id)
    (λ (p : Plan). plan_among held p.id ≡ plan_of H p.id)
    (λ p e. e ∙ sym (plan_is_row H p.id)) listed serves in
    record {
      verdict = rw (differ_alike (plan_among held) (plan_of H) listed same);
      changes = rw (added_alike (plan_among held) (plan_of H) listed same);
    }
