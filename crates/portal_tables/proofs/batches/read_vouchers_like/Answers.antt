use Rattle.portal_tables.proofs.Common.{◌≡◌, ◌∙◌, sym, subst, ap, All, List, ℕ, map, take, length, filter_map}
use Rattle.portal_tables.proofs.Common.{IsCode, VoucherRow, VoucherValue, voucher_of, voucher_read}
use Rattle.portal_tables.proofs.Common.{voucher_kept}
use Rattle.portal_tables.proofs.Common.{vouchers_of}
use Rattle.std.specs.Prelude.{nat_lt}
use Rattle.portal_tables_rows.specs.Lists.{ListsFirst, by_code, is_between}
use Rattle.portal_model.specs.Batches.{AreVouchersLike}
use Rattle.portal_tables.specs.BatchLists.{AreVouchersOf}
use Rattle.portal_tables.proofs.ShownLemmas.{next_fails, of_rows, shown_as, shown_then}
use Rattle.portal_tables.proofs.BatchLemmas.{code_of_row, first_rows, vouchers_are_like}
use Rattle.portal_tables.proofs.batches.read_vouchers_like.Goals as goal

pub returns-in_err-vouchers : goal.returns-in_err-vouchers
returns-in_err-vouchers g c = next_fails g.S.Store _ c.from_residual-in_err-vouchers.result
    c.from_residual-in_err-vouchers.ensures.1 c.in_ok-listed.ensures.looks
    c.in_err-vouchers.ensures.reads.looks

pub returns : goal.returns
returns g c =
    let text = c.args.text.now in
    let rows = c.in_ok-listed.listed.items in
    let all : c.as_slice-rows.result.now ≡ rows = c.as_slice-rows.ensures.value in
    let shown : take c.min-shown.result c.as_slice-rows.result.now ≡ take 50 rows =
    ap (λ n. take n c.as_slice-rows.result.now) c.min-shown.ensures
    ∙ first_rows 50 c.as_slice-rows.result.now ∙ ap (take 50) all in
    let above = c.deref.ensures.value ∙ c.in_ok-above.ensures in
    shown_as g.S.Store (λ h legal is.
    subst (λ n. AreVouchersLike h text c.in_ok-vouchers.vouchers.items (nat_lt 50 n))
    (sym (ap length all))
    (vouchers_are_like h legal text c.requires.some rows
    (subst (All (λ (r : VoucherValue). IsCode (code_of_row r))) shown c.in_ok-vouchers.ensures.codes)
    (subst (λ (high : List ℕ). ListsFirst 51 (λ (v : VoucherRow). is_between text high v.code) by_code
    (map voucher_kept (vouchers_of h)) (map voucher_read rows)) above is.0.1.0)
    is.0.1.1
    c.in_ok-vouchers.vouchers.items
    (subst (λ (rs : List VoucherValue). AreVouchersOf h rs
    → c.in_ok-vouchers.vouchers.items ≡ filter_map (voucher_of h) (map code_of_row rs)) shown is.1)))
    (shown_then g.S.Store (of_rows g.S.Store c.in_ok-listed.ensures) c.in_ok-vouchers.ensures.reads)
