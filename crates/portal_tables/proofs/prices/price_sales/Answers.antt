use Rattle.portal_tables.proofs.Common.{◌++◌, ◌∷◌, [], ◌∙◌, ℕ, Some, map, ap, ap₂, sym, bytes_eq, get_by}
use Rattle.portal_tables.proofs.Common.{map-append, sale_read, SaleValue, payment_of, payment_at}
use Rattle.portal_tables_rows.proofs.Compose.{more_mapped}
use Rattle.portal_tables.proofs.prices.price_sales.Goals as goal

pub loop-sale-preserved : goal.loop-sale-preserved
loop-sale-preserved c =
    more_mapped (λ (s : SaleValue).
    payment_at (get_by (λ k. bytes_eq s.batch k.now) c.args.prices.now) (sale_read s))
    c.args.sales.now c.loop-sale.sale-index c.sale-item.result c.loop-sale-test.true c.sale-item.is
    ∙ ap₂ (λ xs x. xs ++ x ∷ []) c.loop-sale.invariant c.in_ok-price_of_sale.ensures
    ∙ sym (map-append (λ (p : ℕ × ℕ). Some (payment_of p)) c.loop-sale.payments.items
    (c.in_ok-price_of_sale.field-0 ∷ []))
    ∙ ap (map (λ (p : ℕ × ℕ). Some (payment_of p))) (sym c.in_ok-push.ensures.items)
