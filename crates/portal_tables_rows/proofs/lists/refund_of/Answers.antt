use Rattle.std.proofs.Common.{ap₂, sym}
use Rattle.portal_tables_rows.proofs.lists.refund_of.Goals as goal

pub returns-in-Some-Some-clause-read : goal.returns-in-Some-Some-clause-read
returns-in-Some-Some-clause-read c =
    ap₂ (λ at amount. (at, amount)) (sym c.in-Some-Some.is-0) (sym c.in-Some-Some.is-1)
