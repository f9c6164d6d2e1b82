-- A search through a list, one element at a time.
use Rattle.std.proofs.Common.{◌≡◌, ℕ, ◌+◌, ◌-◌, ◌<◌, ◌≤◌, take, cond, List, [], ◌∷◌, length, drop, get_or}
use Rattle.std.proofs.Common.{Some, None, arith, sym, ap, ◌∙◌}
use Rattle.std.specs.Prelude.{bytes_eq, ◌||◌}
use Rattle.std.specs.List.{list_any}
use Rattle.std.proofs.lemmas.List.{at_drop_more, at_drop_all, take_all}
use Rattle.portal_model.specs.declared.plan.Plan.{Plan}
use Rattle.portal_model.specs.Change.{plan_among}
use Rattle.portal_model.specs.Verdict.{has_duplicate}

pub among-drop : (plans : List Plan) (id : List ℕ) (i : ℕ) (p : Plan)
    → i < length plans → p ≡ get_or plans i p
    → plan_among (drop i plans) id ≡ cond (bytes_eq p.id id) (Some p) (plan_among (drop (i + 1) plans) id)
among-drop plans id i p h is = at_drop_more (λ ps. plan_among ps id) plans i p h
    ∙ ap (λ (x : Plan). cond (bytes_eq x.id id) (Some x) (plan_among (drop (i + 1) plans) id)) (sym is)

pub among-end : (plans : List Plan) (id : List ℕ) (i : ℕ) → length plans ≤ i
    → plan_among (drop i plans) id ≡ None
among-end plans id i h = at_drop_all (λ ps. plan_among ps id) plans i h

-- what a slice pattern calls the rest
abbrev pub rest_of : List (List ℕ) → List (List ℕ)
rest_of codes = take (length codes - 1) (drop 1 codes)

rest-tail : (y : List ℕ) (ys : List (List ℕ)) → rest_of (y ∷ ys) ≡ ys
rest-tail y ys = take_all (length (y ∷ ys) - 1) ys (omega arith)

pub twice-step : (codes : List (List ℕ)) (x : List ℕ) → 1 ≤ length codes → x ≡ get_or codes 0 x
    → has_duplicate codes ≡ (list_any (bytes_eq x) (rest_of codes) || has_duplicate (rest_of codes))
twice-step [] x h e = absurd (omega arith)
twice-step (y ∷ ys) x h e =
    sym (ap (λ (zs : List (List ℕ)). list_any (bytes_eq x) zs || has_duplicate zs) (rest-tail y ys)
    ∙ ap (λ (z : List ℕ). list_any (bytes_eq z) ys || has_duplicate ys) e)
