use Rattle.portal_tables_rows.proofs.Common.{◌≡◌, Ok, arith, sym, subst, map, take, length, length-take}
use Rattle.portal_tables_rows.proofs.Common.{take_all, length-map, text_of, Writes}
use Rattle.portal_tables_rows.proofs.Compose.{issued_none, issued_then, more_mapped, with_issued}
use Rattle.portal_tables_rows.proofs.WritesLemmas.{writes_none, writes_by}
use Rattle.portal_tables_rows.proofs.commands.insert_vouchers.Goals as goal

pub loop-place-init : goal.loop-place-init
loop-place-init g c = writes_none g.S.Store c.args.tx.now (issued_none c.args.batch.now)

pub loop-place-preserved : goal.loop-place-preserved
loop-place-preserved g c =
    let batch = c.args.batch.now in
    let codes = c.args.codes.now in
    let at = c.loop-place.place in
    let code = c.index-codes-place.result in
    let count : at ≡ length (map text_of (take at codes)) = simp (length-map, length-take) (omega arith) in
    subst (λ all. Writes g.S.Store (with_issued batch all) c.args.tx.now c.insert_voucher.new.tx (Ok tt))
    (sym (more_mapped text_of codes at code c.loop-place-test.true c.index-codes-place.is))
    (writes_by g.S.Store _ (λ p q r. issued_then batch (map text_of (take at codes)) (text_of code) at p q r
    count) c.loop-place.invariant c.in_ok-insert_voucher.ensures)

pub returns : goal.returns
returns g c =
    subst (λ all. Writes g.S.Store (with_issued c.args.batch.now (map text_of all)) c.args.tx.now
    c.loop-place.tx (Ok tt))
    (take_all c.loop-place.place c.args.codes.now c.loop-place-test.false) c.loop-place.invariant
