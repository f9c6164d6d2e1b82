use Rattle.portal_tables_rows.proofs.Common.{◌≡◌, ℕ, unwrap_or, nat_eq, get, nothing_given}
use Rattle.portal_tables_rows.proofs.SumLemmas.{given_so_far}
use Rattle.portal_tables_rows.proofs.sums.sum_given_by_session.Given as goal

abbrev pub invariant-loop-grant : goal.invariant-loop-grant
invariant-loop-grant l = (number : ℕ)
    → unwrap_or (get nat_eq l.given number) nothing_given ≡ given_so_far l.grants l.grant-index number
