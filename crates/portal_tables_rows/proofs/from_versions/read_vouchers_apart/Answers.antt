use Rattle.portal_tables_rows.proofs.HeldLemmas.{always_opened, open_fails, open_made, open_own, open_then}
use Rattle.portal_tables_rows.proofs.FromVersionLemmas.{first_apart, in_order_counts, joined_counts}
use Rattle.portal_tables_rows.proofs.FromVersionLemmas.{apart_itself}
use Rattle.portal_tables_rows.proofs.from_versions.read_vouchers_apart.Goals as goal

pub returns : goal.returns
returns g c =
    open_made g.S.Store c.join_counts.result
    (open_then g.S.Store (λ db t held. tt) (always_opened g.S.Store first_apart c.in_ok-vouchers.ensures)
    (always_opened g.S.Store apart_itself c.in_ok-counts.ensures))
    (λ t held is. joined_counts c.join_counts.result c.deref.result.now c.in_ok-vouchers.vouchers.items
    c.deref-2.result.now c.in_ok-counts.counts.items t.vouchers t.counts c.deref.ensures.value
    c.deref-2.ensures.value is.0 is.1 c.join_counts.ensures.vouchers c.join_counts.ensures.counts)
    (λ t is own. c.join_counts.ensures.own (in_order_counts t own.1 c.deref.result.now
    c.in_ok-vouchers.vouchers.items c.deref-2.result.now c.in_ok-counts.counts.items c.deref.ensures.value
    c.deref-2.ensures.value is.0 is.1))

pub returns-in_err-vouchers : goal.returns-in_err-vouchers
returns-in_err-vouchers g c = open_fails g.S.Store c.from_residual.result c.from_residual.ensures.1
    (open_own g.S.Store (λ t own. own.0.vouchers)
    (always_opened g.S.Store first_apart c.in_err-vouchers.ensures))

pub returns-in_err-counts : goal.returns-in_err-counts
returns-in_err-counts g c =
    open_fails g.S.Store c.from_residual-in_err-counts.result c.from_residual-in_err-counts.ensures.1
    (open_own g.S.Store (λ t own. own.0.counts)
    (open_then g.S.Store (λ db t held. tt) (always_opened g.S.Store first_apart c.in_ok-vouchers.ensures)
    (always_opened g.S.Store apart_itself c.in_err-counts.ensures)))
