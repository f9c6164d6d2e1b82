use Rattle.portal_tables_rows.proofs.Common.{Ok, sym, subst, map, take, take_all, Writes, whole_voucher_read}
use Rattle.portal_tables_rows.proofs.Common.{with_whole_vouchers}
use Rattle.portal_tables_rows.proofs.Compose.{more_mapped}
use Rattle.portal_tables_rows.proofs.WritesLemmas.{writes_none, writes_by}
use Rattle.portal_tables_rows.proofs.MigrateLemmas.{vouchers_none, vouchers_then}
use Rattle.portal_tables_rows.proofs.migrations.insert_whole_vouchers.Goals as goal

pub loop-voucher-init : goal.loop-voucher-init
loop-voucher-init g c = writes_none g.S.Store c.args.tx.now vouchers_none

pub loop-voucher-preserved : goal.loop-voucher-preserved
loop-voucher-preserved g c =
    let rows = c.args.vouchers.now in
    let at = c.loop-voucher.voucher-index in
    let row = c.voucher-item.result in
    subst (λ all. Writes g.S.Store (with_whole_vouchers all) c.args.tx.now c.insert_whole_voucher.new.tx
    (Ok tt))
    (sym (more_mapped whole_voucher_read rows at row c.loop-voucher-test.true c.voucher-item.is))
    (writes_by g.S.Store _ (vouchers_then (map whole_voucher_read (take at rows)) (whole_voucher_read row))
    c.loop-voucher.invariant c.in_ok-insert_whole_voucher.ensures)

pub returns : goal.returns
returns g c =
    subst (λ all. Writes g.S.Store (with_whole_vouchers (map whole_voucher_read all)) c.args.tx.now
    c.loop-voucher.tx (Ok tt))
    (take_all c.loop-voucher.voucher-index c.args.vouchers.now c.loop-voucher-test.false)
    c.loop-voucher.invariant
