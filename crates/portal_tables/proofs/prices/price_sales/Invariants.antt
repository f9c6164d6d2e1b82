use Rattle.portal_tables.proofs.Common.{◌≡◌, ℕ, Some, map, take, bytes_eq, get_by, sale_read, SaleValue}
use Rattle.portal_tables.proofs.Common.{payment_of, payment_at}
use Rattle.portal_tables.proofs.prices.price_sales.Given as goal

abbrev pub invariant-loop-sale : goal.invariant-loop-sale
invariant-loop-sale l =
    map (λ (s : SaleValue). payment_at (get_by (λ k. bytes_eq s.batch k.now) l.prices) (sale_read s))
    (take l.sale-index l.sales) ≡ map (λ (p : ℕ × ℕ). Some (payment_of p)) l.payments.items
