-- The terms of a plan and their limits.
use Rattle.std.specs.Prelude.{◌≡◌, ℕ, ◌≤◌, ◌<◌, ◌+◌, Bool, List}
use Rattle.portal_model.specs.declared.plan.Plan.{Plan}

-- each term is within its limits, and seconds and bytes are not both 0
pub record AreTerms (price uses seconds bytes shelf_days : ℕ) : Type 0 where
  pub price_limit : price ≤ 100000000
  pub uses_least : 1 ≤ uses
  pub uses_limit : uses ≤ 100000
  pub seconds_limit : seconds ≤ 31622400
  pub bytes_limit : bytes ≤ 1000000000000000
  pub shelf_least : 1 ≤ shelf_days
  pub shelf_limit : shelf_days ≤ 3660
  pub limits_something : 0 < seconds + bytes

-- the plan has these terms
pub record IsPlanOf (id : List ℕ) (price uses seconds bytes shelf_days : ℕ) (extend : Bool)
    (p : Plan) : Type 0 where
  pub id_is : p.id ≡ id
  pub price_is : p.price ≡ price
  pub uses_is : p.uses ≡ uses
  pub seconds_is : p.seconds ≡ seconds
  pub bytes_is : p.bytes ≡ bytes
  pub shelf_days_is : p.shelf_days ≡ shelf_days
  pub extend_is : p.extend ≡ extend
