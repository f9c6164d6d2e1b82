use Rattle.portal_tables_rows.proofs.Common.{ℕ, Ok, subst, subst₂, text_of, Writes, with_numbers}
use Rattle.portal_tables_rows.proofs.Common.{with_redeemed}
use Rattle.portal_tables_rows.proofs.WritesLemmas.{writes_then}
use Rattle.portal_tables_rows.proofs.commands.apply_redeem.Goals as goal

pub returns : goal.returns
returns g c =
    let r = c.args.c.now in
    let two = subst (λ (n : ℕ). Writes g.S.Store (with_redeemed (text_of r.voucher.code) n)
    c.apply_grant.new.tx c.set_redeemed.new.tx (Ok tt)) c.in_ok-next.ensures.value
    c.in_ok-set_redeemed.ensures in
    let three = subst₂ (λ (n m : ℕ). Writes g.S.Store (with_numbers r.at n m)
    c.set_redeemed.new.tx c.set_head_numbers.new.tx c.set_head_numbers.result)
    c.in_ok-next-2.ensures.value c.in_ok-sessions_after.ensures c.set_head_numbers.ensures in
    writes_then g.S.Store (writes_then g.S.Store c.in_ok-apply_grant.ensures two) three
