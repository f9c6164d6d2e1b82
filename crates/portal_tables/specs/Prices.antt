-- The prices of batches, as they are looked up.
use Rattle.std.specs.Prelude.{◌≡◌, ℕ, List, Option, option_map, option_and_then, is_some}
use Rattle.portal_model.specs.declared.plan.Plan.{Plan}
use Rattle.portal_model.specs.declared.record.Batch.{Batch}
use Rattle.portal_model.specs.Change.{plan_among}
use Rattle.portal_model.specs.Payments.{Payment, payment}
use Rattle.portal_model.specs.Rows.{batch_among}

-- the price of the plan of the batch with the id
abbrev pub price_among : List Plan → List Batch → List ℕ → Option ℕ
price_among plans batches id =
    option_and_then (λ batch. option_map (λ plan. plan.price) (plan_among plans batch.plan))
    (batch_among batches id)

-- each batch has its price, and there is no other
pub record ArePrices (plans : List Plan) (batches : List Batch) (price_of : List ℕ → Option ℕ) : Type 0 where
  pub price : (id : List ℕ) → price_of id ≡ price_among plans batches id
  pub priced : (id : List ℕ) → is_some (price_of id) ≡ is_some (batch_among batches id)

-- the payment of a sale at this price, if there is a price
abbrev pub payment_at : Option ℕ → List ℕ × Option ℕ → Option Payment
payment_at price sale = option_and_then (λ at. option_map (payment at) price) sale.1
