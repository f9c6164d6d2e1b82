use Rattle.portal_tables_rows.proofs.Common.{ℕ, subst, text_of, granted_row, Writes, with_grant}
use Rattle.portal_tables_rows.proofs.WritesLemmas.{writes_then}
use Rattle.portal_tables_rows.proofs.commands.apply_grant.Goals as goal

pub returns : goal.returns
returns g c =
    let r = c.args.c.now in
    let two = subst (λ (n : ℕ). Writes g.S.Store
    (with_grant (granted_row n (text_of r.voucher.code) r.session.number r.at r.voucher.plan))
    c.extend_or_insert_session.new.tx c.insert_grant.new.tx c.insert_grant.result)
    c.in_ok-next.ensures.value c.insert_grant.ensures in
    writes_then g.S.Store c.in_ok-extend_or_insert_session.ensures two
