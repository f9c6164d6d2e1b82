use Rattle.portal_tables_rows.proofs.Common.{◌∙◌, ap, map, sym, old_voucher_read, err_from_is_err_and}
use Rattle.portal_tables_rows.proofs.Common.{counts_summed}
use Rattle.portal_tables_rows.specs.Sums.{grant_read}
use Rattle.portal_tables_rows.proofs.HeldLemmas.{always_opened, open_fails, open_made, open_own, open_then}
use Rattle.portal_tables_rows.proofs.FromVersionLemmas.{computed_counts, counts_are, first_of_apart}
use Rattle.portal_tables_rows.proofs.FromVersionLemmas.{joined_counts}
use Rattle.portal_tables_rows.proofs.from_versions.read_vouchers_counted.Goals as goal

pub returns : goal.returns
returns g c =
    open_made g.S.Store c.join_counts.result
    (open_then g.S.Store (λ db t held. tt) (always_opened g.S.Store (λ db t held. held)
    c.in_ok-vouchers.ensures) (always_opened g.S.Store first_of_apart c.in_ok-grants.ensures))
    (λ t held is. joined_counts c.join_counts.result c.deref-3.result.now c.in_ok-vouchers.vouchers.items
    c.deref-4.result.now c.in_ok-counts.counts.items t.vouchers (counts_summed t) c.deref-3.ensures.value
    c.deref-4.ensures.value is.0
    (counts_are t c.deref-2.result.now c.deref.result.now c.in_ok-counts.counts.items
    c.in_ok-counts.ensures.sums (ap (map old_voucher_read) c.deref.ensures.value ∙ is.0)
    (ap (map grant_read) c.deref-2.ensures.value ∙ is.1))
    c.join_counts.ensures.vouchers c.join_counts.ensures.counts)
    (λ t is own. c.join_counts.ensures.own (computed_counts c.deref-3.result.now c.deref.result.now
    c.deref-4.result.now c.in_ok-counts.counts.items (map grant_read c.deref-2.result.now)
    (c.deref.ensures.value ∙ sym c.deref-3.ensures.value) c.deref-4.ensures.value
    c.in_ok-counts.ensures.sums))

pub returns-in_err-vouchers : goal.returns-in_err-vouchers
returns-in_err-vouchers g c = open_fails g.S.Store c.from_residual.result c.from_residual.ensures.1
    (open_own g.S.Store (λ t own. own.vouchers)
    (always_opened g.S.Store (λ db t held. held) c.in_err-vouchers.ensures))

pub returns-in_err-grants : goal.returns-in_err-grants
returns-in_err-grants g c =
    open_fails g.S.Store c.from_residual-in_err-grants.result c.from_residual-in_err-grants.ensures.1
    (open_own g.S.Store (λ t own. own.grants)
    (open_then g.S.Store (λ db t held. tt) (always_opened g.S.Store (λ db t held. held)
    c.in_ok-vouchers.ensures) (always_opened g.S.Store first_of_apart c.in_err-grants.ensures)))

pub returns-in_err-counts : goal.returns-in_err-counts
returns-in_err-counts g c =
    let told =
    err_from_is_err_and c.from_residual-in_err-counts.result c.from_residual-in_err-counts.ensures.1 in
    open_made g.S.Store c.from_residual-in_err-counts.result
    (open_then g.S.Store (λ db t held. tt) (always_opened g.S.Store (λ db t held. held)
    c.in_ok-vouchers.ensures) (always_opened g.S.Store first_of_apart c.in_ok-grants.ensures))
    (λ t held is. rw told.1 tt) (λ t is own. rw (told.1, told.2) c.in_err-counts.ensures.memory)
