use Rattle.portal_tables.proofs.Common.{ℕ, List, take, bytes_eq, get_by, ArePrices}
use Rattle.portal_tables.proofs.prices.prices_by_batch.Given as goal

abbrev pub invariant-loop-batch : goal.invariant-loop-batch
invariant-loop-batch l = ArePrices l.plans (take l.batch-index l.batches)
    (λ (id : List ℕ). get_by (λ k. bytes_eq id k.now) l.prices)
