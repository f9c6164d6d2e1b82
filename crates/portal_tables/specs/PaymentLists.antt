-- The sales and the refunds between two times, in their order.
use Rattle.std.specs.Prelude.{◌≡◌, ℕ, Bool, ◌&&◌, nat_le, List, map, filter, Some, IsPermutation}
use Rattle.std.specs.List.Sorted.{IsSorted}
use Rattle.std.specs.declared.cmp.Ordering.{Ordering}
use Rattle.portal_model.specs.History.{History}
use Rattle.portal_model.specs.Payments.{Payment, payment, sales_of, sale_from, refunds_of, refund_from}
use Rattle.portal_model.specs.Rows.{VoucherRow, rows_of, vouchers_of}
use Rattle.portal_tables_rows.specs.Lists.{is_within, by_refund, by_sale}
use Rattle.portal_tables.specs.HoldsLedger.{voucher_kept}

-- the time and the amount of an answer, as a payment
abbrev pub payment_of : ℕ × ℕ → Payment
payment_of p = payment p.0 p.1

-- the payment is between the two times, both included
abbrev pub is_paid_within : ℕ → ℕ → Payment → Bool
is_paid_within from to p = nat_le from p.at && nat_le p.at to

-- the earlier sale first, and of two at one time the one of the lesser printed code
abbrev pub by_printed_sale : VoucherRow → VoucherRow → Ordering
by_printed_sale a b = by_sale (voucher_kept a) (voucher_kept b)

-- the earlier refund first, and of two at one time the one of the lesser printed code
abbrev pub by_printed_refund : VoucherRow → VoucherRow → Ordering
by_printed_refund a b = by_refund (voucher_kept a) (voucher_kept b)

-- The answer has the sales of the history between the two times, in the order in which their vouchers were
-- issued. So there is one such answer.
pub record AreSales (h : History) (from to : ℕ) (answer : List (ℕ × ℕ)) : Type 0 where
  pub payments : IsPermutation (filter (is_paid_within from to) (sales_of h)) (map payment_of answer)
  pub each : map (sale_from (rows_of h)) (filter (λ v. is_within from to v.sold) (vouchers_of h))
      ≡ map (λ p. Some (payment_of p)) answer

-- The answer has the sales of the history between the two times, ordered by time and then by the printed code
-- of the voucher. No two vouchers have one code, so there is one such answer.
pub record AreOrderedSales (h : History) (from to : ℕ) (answer : List (ℕ × ℕ)) : Type 0 where
  pub payments : IsPermutation (filter (is_paid_within from to) (sales_of h)) (map payment_of answer)
  pub vouchers : List VoucherRow
  pub same : IsPermutation (filter (λ v. is_within from to v.sold) (vouchers_of h)) vouchers
  pub sorted : IsSorted by_printed_sale vouchers
  pub each : map (sale_from (rows_of h)) vouchers ≡ map (λ p. Some (payment_of p)) answer

-- The answer has the refunds of the history between the two times, ordered by time and then by the printed
-- code of the voucher. No two vouchers have one code, so there is one such answer.
pub record AreRefunds (h : History) (from to : ℕ) (answer : List (ℕ × ℕ)) : Type 0 where
  pub payments : IsPermutation (filter (is_paid_within from to) (refunds_of h)) (map payment_of answer)
  pub vouchers : List VoucherRow
  pub same : IsPermutation (filter (λ v. is_within from to v.refunded) (vouchers_of h)) vouchers
  pub sorted : IsSorted by_printed_refund vouchers
  pub each : map refund_from vouchers ≡ map (λ p. Some (payment_of p)) answer
