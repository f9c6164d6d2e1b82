use Rattle.portal_tables.proofs.Common.{◌≡◌, subst, map, filter_map, All, List, IsCode, voucher_of}
use Rattle.portal_tables.proofs.Common.{VoucherValue}
use Rattle.portal_tables.specs.BatchLists.{AreVouchersOf}
use Rattle.portal_tables.proofs.ShownLemmas.{next_fails, of_rows, shown_as, shown_then}
use Rattle.portal_tables.proofs.BatchLemmas.{vouchers_are_in, code_of_row}
use Rattle.portal_tables.proofs.batches.read_vouchers_in.Goals as goal

pub returns-in_err-vouchers : goal.returns-in_err-vouchers
returns-in_err-vouchers g c = next_fails g.S.Store _ c.from_residual-in_err-vouchers.result
    c.from_residual-in_err-vouchers.ensures.1 c.in_ok-rows.ensures.looks c.in_err-vouchers.ensures.reads.looks

pub returns : goal.returns
returns g c =
    let rows = c.in_ok-rows.rows.items in
    let vouchers = c.in_ok-vouchers.vouchers.items in
    shown_as g.S.Store (λ h legal is.
    vouchers_are_in h legal c.args.batch.now rows vouchers
    (subst (All (λ (r : VoucherValue). IsCode (code_of_row r))) c.deref.ensures.value
    c.in_ok-vouchers.ensures.codes) is.0.1.0 is.0.1.1
    (subst (λ (rs : List VoucherValue). AreVouchersOf h rs
    → vouchers ≡ filter_map (voucher_of h) (map code_of_row rs)) c.deref.ensures.value is.1))
    (shown_then g.S.Store (of_rows g.S.Store c.in_ok-rows.ensures) c.in_ok-vouchers.ensures.reads)
