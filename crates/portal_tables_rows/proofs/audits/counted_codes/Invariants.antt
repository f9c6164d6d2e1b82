use Rattle.portal_tables_rows.proofs.Common.{◌≡◌, ℕ, List, bytes_eq, contains, IsCode, text_of}
use Rattle.portal_tables_rows.proofs.AuditLemmas.{counted_so_far}
use Rattle.portal_tables_rows.proofs.audits.counted_codes.Given as goal

abbrev pub invariant-loop-count : goal.invariant-loop-count
invariant-loop-count l = (code : List ℕ) → IsCode code
    → contains bytes_eq l.codes code ≡ counted_so_far l.counts l.count-index (text_of code)
