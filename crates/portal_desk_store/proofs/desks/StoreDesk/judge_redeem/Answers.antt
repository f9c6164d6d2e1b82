use Rattle.portal_desk_store.proofs.Common.{◌≡◌, Redeem, head_of, voucher_of, history_of, Judges}
use Rattle.portal_desk_store.proofs.JudgeLemmas.{redeems_at}
use Rattle.portal_desk_store.proofs.StepLemmas.{and_then, answered, from_ledger}
use Rattle.portal_desk_store.proofs.desks.StoreDesk.judge_redeem.Goals as goal

pub returns : goal.returns
returns g c =
    let head = c.args.head.now in
    let code = c.args.code.now in
    let device = c.args.device.now in
    let voucher = c.in_ok-voucher.voucher in
    let decision = c.decide_redeem.ensures in
    and_then (from_ledger (answered c.in_ok-voucher.ensures)) (and_then
    {Whole = λ L x. voucher ≡ voucher_of (history_of L) code → head ≡ head_of (history_of L)
    → Judges c.decide_redeem.result (Redeem device code) c.args.t L x}
    (from_ledger (answered c.in_ok-last.ensures))
    (redeems_at head voucher c.in_ok-last.last device code c.args.t decision.accepts decision.refuses
    decision.own decision.change)
    (λ L last x judge found. judge found last))
    (λ L found x judge. judge found)
