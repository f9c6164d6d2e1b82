use Rattle.portal_tables_rows.proofs.Common.{◌∙◌, ap, map, sym, old_session_read, err_from_is_err_and}
use Rattle.portal_tables_rows.proofs.Common.{totals_summed}
use Rattle.portal_tables_rows.specs.Sums.{grant_read, rows_for_sums}
use Rattle.portal_tables_rows.proofs.HeldLemmas.{always_opened, open_fails, open_made, open_own, open_then}
use Rattle.portal_tables_rows.proofs.FromVersionLemmas.{computed_totals, first_of_apart, joined_totals}
use Rattle.portal_tables_rows.proofs.FromVersionLemmas.{totals_are}
use Rattle.portal_tables_rows.proofs.from_versions.read_sessions_summed.Goals as goal

pub returns : goal.returns
returns g c =
    let gs = c.deref-3.result.now in
    let ps = c.deref.result.now in
    open_made g.S.Store c.join_totals.result
    (open_then g.S.Store (λ db t held. tt) (always_opened g.S.Store (λ db t held. held)
    c.in_ok-sessions.ensures) (open_then g.S.Store (λ db t held. tt)
    (always_opened g.S.Store first_of_apart c.in_ok-plans.ensures)
    (always_opened g.S.Store first_of_apart c.in_ok-grants.ensures)))
    (λ t held is. joined_totals c.join_totals.result c.deref-4.result.now c.in_ok-sessions.sessions.items
    c.deref-5.result.now c.in_ok-totals.totals.items t.sessions (totals_summed t) c.deref-4.ensures.value
    c.deref-5.ensures.value is.0
    (totals_are t gs ps c.deref-2.result.now c.in_ok-totals.totals.items c.in_ok-totals.ensures.sums
    (c.deref.ensures.value ∙ is.1.0) (ap (map old_session_read) c.deref-2.ensures.value ∙ is.0)
    (ap (map grant_read) c.deref-3.ensures.value ∙ is.1.1))
    c.join_totals.ensures.sessions c.join_totals.ensures.totals)
    (λ t is own. c.join_totals.ensures.own (computed_totals c.deref-4.result.now c.deref-2.result.now
    c.deref-5.result.now c.in_ok-totals.totals.items (rows_for_sums ps (map grant_read gs))
    (c.deref-2.ensures.value ∙ sym c.deref-4.ensures.value) c.deref-5.ensures.value
    c.in_ok-totals.ensures.sums))

pub returns-in_err-sessions : goal.returns-in_err-sessions
returns-in_err-sessions g c = open_fails g.S.Store c.from_residual.result c.from_residual.ensures.1
    (open_own g.S.Store (λ t own. own.0.sessions)
    (always_opened g.S.Store (λ db t held. held) c.in_err-sessions.ensures))

pub returns-in_err-plans : goal.returns-in_err-plans
returns-in_err-plans g c =
    open_fails g.S.Store c.from_residual-in_err-plans.result c.from_residual-in_err-plans.ensures.1
    (open_own g.S.Store (λ t own. own.0.plans)
    (open_then g.S.Store (λ db t held. tt) (always_opened g.S.Store (λ db t held. held)
    c.in_ok-sessions.ensures) (always_opened g.S.Store first_of_apart c.in_err-plans.ensures)))

pub returns-in_err-grants : goal.returns-in_err-grants
returns-in_err-grants g c =
    open_fails g.S.Store c.from_residual-in_err-grants.result c.from_residual-in_err-grants.ensures.1
    (open_own g.S.Store (λ t own. own.0.grants)
    (open_then g.S.Store (λ db t held. tt) (always_opened g.S.Store (λ db t held. held)
    c.in_ok-sessions.ensures) (open_then g.S.Store (λ db t held. tt)
    (always_opened g.S.Store first_of_apart c.in_ok-plans.ensures)
    (always_opened g.S.Store first_of_apart c.in_err-grants.ensures))))

pub returns-in_err-totals : goal.returns-in_err-totals
returns-in_err-totals g c =
    let told =
    err_from_is_err_and c.from_residual-in_err-totals.result c.from_residual-in_err-totals.ensures.1 in
    open_made g.S.Store c.from_residual-in_err-totals.result
    (open_then g.S.Store (λ db t held. tt) (always_opened g.S.Store (λ db t held. held)
    c.in_ok-sessions.ensures) (open_then g.S.Store (λ db t held. tt)
    (always_opened g.S.Store first_of_apart c.in_ok-plans.ensures)
    (always_opened g.S.Store first_of_apart c.in_ok-grants.ensures)))
    (λ t held is. rw told.1 tt)
    (λ t is own. rw (told.1, told.2) (c.in_err-totals.ensures.kept (rw (
      c.deref.ensures.value,
      c.deref-2.ensures.value,
      c.deref-3.ensures.value,
      is.0,
      is.1.0,
      is.1.1,
    ) own.1)))
