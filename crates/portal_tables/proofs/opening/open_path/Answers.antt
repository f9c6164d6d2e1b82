use Rattle.portal_tables.proofs.Common.{inl, true, false, refl, ap₂, IfErr-weaker, image_at, settled_at}
use Rattle.portal_tables.proofs.Common.{ok_both}
use Rattle.std.proofs.lemmas.Option.{IfSome_then}
use Rattle.portal_tables.proofs.OpeningLemmas.{opens_from, untouched_left}
use Rattle.portal_tables.proofs.PathLemmas.{image, start_of, reads_still, leaves_still}
use Rattle.portal_tables.proofs.opening.open_path.Goals as goal

pub returns-clause-opened : goal.returns-clause-opened
returns-clause-opened g c h shown =
    ok_both c.open_from.result (λ conn opened found clean. opens_from h (image_at g.S.Start)
    conn (λ db. settled_at conn.store (λ f. inl refl) db) shown (opened clean) (found clean))
    c.open_from.ensures.opened c.open_from.ensures.found

pub returns-clause-fails_to_open : goal.returns-clause-fails_to_open
returns-clause-fails_to_open g c h shown =
    IfErr-weaker c.open_from.result _ _ (λ e cause. IfSome_then e.1 cause (λ left it clean.
    let (files, log, db, told) = it in
    let start = g.S.Start in
    let of_log = start_of files.log.is_log true start.log start.db log.0 in
    let of_db = start_of files.db.is_log false start.log start.db db.0 in
    untouched_left h files left (image_at start)
    (ap₂ image (reads_still start.is_mixing _ start.log files.log.key _ of_log log.1)
    (reads_still start.is_mixing _ start.db files.db.key _ of_db db.1))
    (λ i may. ap₂ image (leaves_still start.is_mixing _ start.log files.log.key _ of_log log.1 i.log may.0)
    (leaves_still start.is_mixing _ start.db files.db.key _ of_db db.1 i.db may.1))
    shown (told clean).1)) c.open_from.ensures.cause
