-- A plan is what its fields are: it carries no two proofs of its limits.
use Rattle.std.proofs.Common.{◌≡◌, ℕ, Bool, List, subst}
use Rattle.std.proofs.Props.{props}
use Rattle.portal_model.specs.declared.plan.Plan.{Plan}
use Rattle.portal_model.specs.IdText.{IsIdText}
use Rattle.portal_model.specs.Terms.{AreTerms}

-- the fields of a plan that are no proofs
pub record Fields : Type 0 where
  pub id : List ℕ
  pub price : ℕ
  pub uses : ℕ
  pub seconds : ℕ
  pub bytes : ℕ
  pub shelf_days : ℕ
  pub extend : Bool

abbrev pub fields_of : Plan → Fields
fields_of p = record {
  id = p.id;
  price = p.price;
  uses = p.uses;
  seconds = p.seconds;
  bytes = p.bytes;
  shelf_days = p.shelf_days;
  extend = p.extend;
}

abbrev Limits : Fields → Type 0
Limits t = AreTerms t.price t.uses t.seconds t.bytes t.shelf_days

abbrev limits_of : (p : Plan) → Limits (fields_of p)
limits_of p = record {
  price_limit = p.price_limit;
  uses_least = p.uses_least;
  uses_limit = p.uses_limit;
  seconds_limit = p.seconds_limit;
  bytes_limit = p.bytes_limit;
  shelf_least = p.shelf_least;
  shelf_limit = p.shelf_limit;
  limits_something = p.limits_something;
}

abbrev plan_with : (t : Fields) → Limits t → IsIdText t.id → Plan
plan_with t h text = record {
  id_text = text;
  id = t.id;
  price = t.price;
  uses = t.uses;
  seconds = t.seconds;
  bytes = t.bytes;
  shelf_days = t.shelf_days;
  extend = t.extend;
  price_limit = h.price_limit;
  uses_least = h.uses_least;
  uses_limit = h.uses_limit;
  seconds_limit = h.seconds_limit;
  bytes_limit = h.bytes_limit;
  shelf_least = h.shelf_least;
  shelf_limit = h.shelf_limit;
  limits_something = h.limits_something;
}

same-limits : (t : Fields) → IsProp (Limits t)
same-limits t = hlevel props

same-id_text : (id : List ℕ) → IsProp (IsIdText id)
same-id_text id = hlevel props

-- plans with the same fields are the same
pub same-plan : (p q : Plan) → fields_of p ≡ fields_of q → p ≡ q
same-plan p q e =
    subst (λ t. (h : Limits t) (text : IsIdText t.id) → p ≡ plan_with t h text) e
    (λ h text i. plan_with (fields_of p) (same-limits (fields_of p) (limits_of p) h i)
    (same-id_text p.id p.id_text text i)) (limits_of q) q.id_text
