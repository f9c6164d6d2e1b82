-- Sales and refunds as payments with their times.
use Rattle.std.specs.Prelude.{ℕ, ℤ, List, [], ◌∷◌, ◌++◌, map, Option, option_map, option_and_then}
use Rattle.std.specs.List.{filter_map}
use Rattle.std.specs.Option.{option_to_list}
use Rattle.portal_model.specs.declared.command.Command.TheVariants.{Sell, Refund}
use Rattle.portal_model.specs.declared.plan.Plan.{Plan}
use Rattle.portal_model.specs.History.{entry, History, issued_of, uses_of, amount_left}
use Rattle.portal_model.specs.Change.{plan_among}
use Rattle.portal_model.specs.Rows.{Rows, VoucherRow, batch_among}

-- an amount, and the time at which it was paid
pub record Payment : Type 0 where
  pub at : ℕ
  pub amount : ℕ

-- the payment of that amount at that time
abbrev pub payment : ℕ → ℕ → Payment
payment at amount = record { at = at; amount = amount }

-- the price of each voucher sold, the oldest sale first
abbrev pub sales_of : History → List Payment
sales_of [] = []
sales_of (entry t (Sell c) ∷ H) =
    sales_of H ++ option_to_list (option_map (λ v. payment t v.plan.price) (issued_of H c))
sales_of (_ ∷ H) = sales_of H

-- the amount of each refund, the oldest first
abbrev pub refunds_of : History → List Payment
refunds_of [] = []
refunds_of (entry t (Refund c) ∷ H) = refunds_of H
    ++ option_to_list (option_map (λ v. payment t (amount_left v.plan (uses_of H c))) (issued_of H c))
refunds_of (_ ∷ H) = refunds_of H

-- payments with their civil days; day_of gives the civil day of a time. The takings of a day are counts and
-- sums over these pairs.
abbrev pub by_day : (ℕ → ℤ) → List Payment → List (ℤ × ℕ)
by_day day_of payments = map (λ p. (day_of p.at, p.amount)) payments

-- The same, from the rows of the vouchers in their order

-- the plan of a voucher's batch
abbrev pub plan_of_row : Rows → VoucherRow → Option Plan
plan_of_row r row = option_and_then (λ batch. plan_among r.plans batch.plan) (batch_among r.batches row.batch)

-- the price, if the voucher is sold
abbrev pub sale_from : Rows → VoucherRow → Option Payment
sale_from r row =
    option_and_then (λ at. option_map (λ plan. payment at plan.price) (plan_of_row r row)) row.sold

-- the sales of the rows
abbrev pub sales_from : Rows → List Payment
sales_from r = filter_map (sale_from r) r.vouchers

-- the amount, if the voucher is refunded
abbrev pub refund_from : VoucherRow → Option Payment
refund_from row = option_and_then (λ at. option_map (payment at) row.amount) row.refunded

-- the refunds of the rows
abbrev pub refunds_from : Rows → List Payment
refunds_from r = filter_map refund_from r.vouchers
