use Rattle.portal_tables.proofs.Common.{◌≡◌, All, Some, map, take, History, IsLegal, plans_of, session_of}
use Rattle.portal_tables.proofs.Common.{IsRowOf, SessionValue}
use Rattle.portal_tables.proofs.records.sessions_among.Given as goal

abbrev pub invariant-loop-row : goal.invariant-loop-row
invariant-loop-row l = (h : History) → IsLegal h → l.plans ≡ plans_of h → All (IsRowOf h) l.rows
    → map Some l.sessions.items ≡ map (λ (r : SessionValue). session_of h r.number) (take l.row-index l.rows)
