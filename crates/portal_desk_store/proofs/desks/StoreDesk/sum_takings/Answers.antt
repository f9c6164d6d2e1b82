use Rattle.portal_desk_store.proofs.Common.{◌≡◌, ap, IsLegal, history_of, running, AreSales, Returns}
use Rattle.portal_desk_store.proofs.Common.{takings_over, paid_days}
use Rattle.portal_desk_store.proofs.StepLemmas.{and_then, answered, from_ledger, go_on}
use Rattle.portal_desk_store.proofs.TakingLemmas.{adds_at}
use Rattle.portal_desk_store.proofs.desks.StoreDesk.sum_takings.Goals as goal

pub returns-clause-reads : goal.returns-clause-reads
returns-clause-reads g c =
    let zone = c.args.self.now.settings.zone in
    let from = c.moments_of_range-from.result.0 in
    let to = c.moments_of_range-from.result.1 in
    go_on (answered c.in_ok-sales.ensures) (and_then
    {Whole = λ L x. IsLegal (history_of L) → AreSales (history_of L) from to c.in_ok-sales.sales.items
    → Returns c.add_payments.result (λ v H. v.items ≡ takings_over zone H c.args.range) (running L) x}
    (from_ledger (answered c.in_ok-refunds.ensures))
    (adds_at (λ v. v.items) zone c.args.range from to c.moments_of_range-from.ensures
    c.in_ok-sales.sales.items c.in_ok-refunds.refunds.items _ _
    (ap (paid_days zone) c.as_slice.ensures.value)
    (ap (paid_days zone) c.as_slice-2.ensures.value)
    c.add_payments.ensures.days c.add_payments.ensures.memory)
    (λ L refunded x adds legal sold. adds legal sold refunded))
    (λ L legal sold x adds. adds legal sold)
