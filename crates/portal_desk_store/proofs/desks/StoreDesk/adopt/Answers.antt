use Rattle.portal_desk_store.proofs.AttachLemmas.{as_it_was, if_failed, is_cause, is_open, is_spared}
use Rattle.portal_desk_store.proofs.AttachLemmas.{may_be_taken, not_known, on_failed, tells_own}
use Rattle.portal_desk_store.proofs.desks.StoreDesk.adopt.Goals as goal

pub returns-clause-why : goal.returns-clause-why
returns-clause-why g c honest = may_be_taken g.S.Store c.args.conn (c.in_ok-tables.ensures.why honest)

pub returns-clause-exact : goal.returns-clause-exact
returns-clause-exact g c told tells = let it = tells_own g.S.Store c.args.conn told tells in
    c.in_ok-tables.ensures.exact it.0 it.1 told it.2

pub returns-in_err-tables-clause-why : goal.returns-in_err-tables-clause-why
returns-in_err-tables-clause-why g c = on_failed c.from_residual.result _ _ _ c.from_residual.ensures.1
    (λ honest. is_cause g.S.Store c.args.conn _ (c.in_err-tables.ensures.why honest))

pub returns-in_err-tables-clause-exact : goal.returns-in_err-tables-clause-exact
returns-in_err-tables-clause-exact g c =
    λ told tells. on_failed c.from_residual.result _ _ _ c.from_residual.ensures.1
    (let it = tells_own g.S.Store c.args.conn told tells in c.in_err-tables.ensures.exact it.0 it.1 told it.2)

pub returns-in_err-tables-clause-kept : goal.returns-in_err-tables-clause-kept
returns-in_err-tables-clause-kept g c = if_failed c.from_residual.result _ _ c.from_residual.ensures.1
    (λ honest live other. as_it_was g.S.Store c.args.conn _
    (c.in_err-tables.ensures.kept honest (is_open g.S.Store c.args.conn live) other))

pub returns-in_err-tables-clause-spares : goal.returns-in_err-tables-clause-spares
returns-in_err-tables-clause-spares g c = if_failed c.from_residual.result _ _ c.from_residual.ensures.1
    (λ unknown. is_spared g.S.Store c.args.conn _
    (c.in_err-tables.ensures.spares (not_known g.S.Store c.args.conn unknown)))
