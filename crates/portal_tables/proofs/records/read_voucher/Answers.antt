use Rattle.portal_tables.proofs.Common.{◌≡◌, Option, None, IfSome, option_map, map, sym, subst, rules}
use Rattle.portal_tables.proofs.Common.{text_of}
use Rattle.portal_tables.proofs.Common.{VoucherRow, vouchers_of, counts_of, Has}
use Rattle.portal_tables.proofs.Common.{VoucherValue, voucher_read, voucher_count}
use Rattle.portal_tables.proofs.Common.{voucher_kept, count_kept}
use Rattle.portal_tables_sql.specs.Finds.{Finds}
use Rattle.portal_tables.proofs.ShownLemmas.{next_fails, of_rows, shown_as, shown_then}
use Rattle.portal_tables.proofs.Joining.{voucher_missing, voucher_joined}
use Rattle.portal_tables.proofs.records.read_voucher.Goals as goal

pub returns-in_default : goal.returns-in_default
returns-in_default g c =
    let none : c.in_ok-row.field-0 ≡ None = search rules in
    shown_as g.S.Store (λ h legal is.
    let gone = subst (λ (o : Option VoucherValue). Finds (λ (x : VoucherRow). x.code)
    (text_of c.args.code.now) (map voucher_kept (vouchers_of h)) (option_map voucher_read o)) none is.1.0 in
    sym (voucher_missing h legal c.args.code.now c.read_voucher_row.ensures.code gone))
    (of_rows g.S.Store c.in_ok-row.ensures.reads)

pub returns-in_err-batch : goal.returns-in_err-batch
returns-in_err-batch g c =
    next_fails g.S.Store _ c.from_residual-in_err-batch.result c.from_residual-in_err-batch.ensures.1
    c.in_ok-row.ensures.reads.looks c.in_err-batch.ensures.looks

pub returns : goal.returns
returns g c =
    shown_as g.S.Store (λ h legal is.
    let row = subst (λ (o : Option VoucherValue). Finds (λ (x : VoucherRow). x.code) (text_of c.args.code.now)
    (map voucher_kept (vouchers_of h)) (option_map voucher_read o)
    × IfSome o (λ r. Has (map count_kept (counts_of h)) (voucher_count r))) c.in-Some.is is.0.1 in
    voucher_joined h legal c.args.code.now c.read_voucher_row.ensures.code c.in-Some.row
    c.in_ok-batch.batch c.in_ok-batch.plan row.0 row.1 is.1.0 is.1.1)
    (shown_then g.S.Store (of_rows g.S.Store c.in_ok-row.ensures.reads) c.in_ok-batch.ensures)
