use Rattle.portal_tables.proofs.Common.{◌≡◌, ℕ, List, map, ap, ap₂, sym, ◌∙◌, bytes_eq, get_by, plans_of}
use Rattle.portal_tables.proofs.Common.{batches_of, reads_then, HasTables, sale_read, SaleValue, price_among}
use Rattle.portal_tables.proofs.Common.{payment_at}
use Rattle.portal_tables.proofs.PaymentLists.{ordered_sales_priced}
use Rattle.portal_tables.proofs.ShownLemmas.{made_fails, next_fails, of_rows, shown_as, shown_then}
use Rattle.portal_tables.proofs.lists.read_sales_by_moment.Goals as goal

pub returns : goal.returns
returns g c =
    shown_as g.S.Store (λ h legal is.
    let price_of = λ (id : List ℕ). get_by (λ k. bytes_eq id k.now) c.in_ok-prices.prices in
    let prices : (id : List ℕ) → price_of id ≡ price_among (plans_of h) (batches_of h) id =
    λ id. c.in_ok-prices.ensures.price id ∙ ap₂ (λ ps bs. price_among ps bs id)
    (c.deref.ensures.value ∙ is.0.0) (c.deref-2.ensures.value ∙ is.0.1) in
    let priced = ap (map (λ (s : SaleValue). payment_at (price_of s.batch) (sale_read s)))
    (sym c.deref-3.ensures.value) ∙ c.in_ok-price_sales.ensures in
    ordered_sales_priced h legal c.args.from c.args.to c.in_ok-sales.sales.items is.1.1 price_of prices
    c.in_ok-price_sales.field-0.items priced)
    (shown_then g.S.Store c.in_ok-plans.ensures (of_rows g.S.Store c.in_ok-sales.ensures))

pub returns-in_err-prices : goal.returns-in_err-prices
returns-in_err-prices g c = made_fails g.S.Store _ c.from_residual-in_err-prices.result
    c.from_residual-in_err-prices.ensures.1 c.in_ok-plans.ensures.looks

pub returns-in_err-sales : goal.returns-in_err-sales
returns-in_err-sales g c = next_fails g.S.Store _ c.from_residual-in_err-sales.result
    c.from_residual-in_err-sales.ensures.1 c.in_ok-plans.ensures.looks c.in_err-sales.ensures.looks

pub returns-in_err-price_sales : goal.returns-in_err-price_sales
returns-in_err-price_sales g c =
    made_fails g.S.Store _ c.from_residual-in_err-price_sales.result
    c.from_residual-in_err-price_sales.ensures.1
    (reads_then HasTables _ _ _ c.in_ok-plans.ensures.looks c.in_ok-sales.ensures.looks)
