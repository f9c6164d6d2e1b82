use Rattle.std.proofs.lemmas.Result.{IfOk-weaker}
use Rattle.portal_tables.proofs.Common.{IfErr-weaker, settled_at, ok_both}
use Rattle.portal_tables.proofs.OpeningLemmas.{leftover_shows, opens}
use Rattle.portal_tables.proofs.opening.open_files.Goals as goal

pub returns-clause-opened : goal.returns-clause-opened
returns-clause-opened g c h shown =
    ok_both c.open_files.result (λ conn opened found clean. opens h c.args.files conn
    (λ db. settled_at conn.store g.met.D.Disk.seen_may_stay db) shown (opened clean) (found clean))
    c.open_files.ensures.opened c.open_files.ensures.found

pub returns-clause-fails_to_open : goal.returns-clause-fails_to_open
returns-clause-fails_to_open g c h at = IfErr-weaker c.open_files.result _ _
    (λ e left clean. leftover_shows h c.args.files e.1 at (left clean)) c.open_files.ensures.unharmed

pub returns-clause-live : goal.returns-clause-live
returns-clause-live g c = IfOk-weaker c.open_files.result _ _ (λ conn opened clean. (opened clean).0.is_open)
    c.open_files.ensures.opened
