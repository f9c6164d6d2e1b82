use Rattle.portal_tables_rows.proofs.HeldLemmas.{always_opened, open_fails, open_made, open_own, open_then}
use Rattle.portal_tables_rows.proofs.FromVersionLemmas.{apart_itself, first_apart, in_order_totals}
use Rattle.portal_tables_rows.proofs.FromVersionLemmas.{joined_totals}
use Rattle.portal_tables_rows.proofs.from_versions.read_sessions_apart.Goals as goal

pub returns : goal.returns
returns g c =
    open_made g.S.Store c.join_totals.result
    (open_then g.S.Store (λ db t held. tt) (always_opened g.S.Store first_apart c.in_ok-sessions.ensures)
    (always_opened g.S.Store apart_itself c.in_ok-totals.ensures))
    (λ t held is. joined_totals c.join_totals.result c.deref.result.now c.in_ok-sessions.sessions.items
    c.deref-2.result.now c.in_ok-totals.totals.items t.sessions t.totals c.deref.ensures.value
    c.deref-2.ensures.value is.0 is.1 c.join_totals.ensures.sessions c.join_totals.ensures.totals)
    (λ t is own. c.join_totals.ensures.own (in_order_totals t own.1 c.deref.result.now
    c.in_ok-sessions.sessions.items c.deref-2.result.now c.in_ok-totals.totals.items c.deref.ensures.value
    c.deref-2.ensures.value is.0 is.1))

pub returns-in_err-sessions : goal.returns-in_err-sessions
returns-in_err-sessions g c = open_fails g.S.Store c.from_residual.result c.from_residual.ensures.1
    (open_own g.S.Store (λ t own. own.0.sessions)
    (always_opened g.S.Store first_apart c.in_err-sessions.ensures))

pub returns-in_err-totals : goal.returns-in_err-totals
returns-in_err-totals g c =
    open_fails g.S.Store c.from_residual-in_err-totals.result c.from_residual-in_err-totals.ensures.1
    (open_own g.S.Store (λ t own. own.0.totals)
    (open_then g.S.Store (λ db t held. tt) (always_opened g.S.Store first_apart c.in_ok-sessions.ensures)
    (always_opened g.S.Store apart_itself c.in_err-totals.ensures)))
