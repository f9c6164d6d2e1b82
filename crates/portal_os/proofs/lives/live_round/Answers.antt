use Rattle.portal_os.proofs.Common.{sym, subst, Files, Image}
use Rattle.std.proofs.Common.{refl, ◌∙◌}
use Rattle.sqlite_wal.specs.Files.{outcomes}
use Rattle.portal_http.specs.Executions.{without_desk}
use Rattle.portal_os.proofs.LifeLemmas.{HoldsOne, none_then, on_ok, round_ends, round_goes_on, synced}
use Rattle.portal_os.proofs.lives.live_round.Goals as goal
use Rattle.portal_os.proofs.lives.live_round.Goals.{then-is_err-via-then-is_err}
use Rattle.portal_os.proofs.lives.live_round.Goals.{then-is_err-via-else-is_err+then-is_err-2}

pub returns-then-is_err-clause-lives : goal.returns-then-is_err-clause-lives
returns-then-is_err-clause-lives g c L sessions each =
    let before = λ (image : Image) (f : Files _). outcomes g.D.Disk f.log f.db image
    → outcomes g.D.Disk c.args.files.log c.args.files.db image in
    let back : (image : Image) → before image c.then-is_err.files = λ image. elim c.then-is_err.branch [
      | then-is_err-via-then-is_err w ↦
          subst (before image) (sym w.files-is) (λ may. (c.sync.ensures.crash image.log may.0, may.1))
      | then-is_err-via-else-is_err+then-is_err-2 w ↦ subst (before image) (sym w.files-is)
          (λ may. (c.sync.ensures.crash image.log may.0, w.sync-else-is_err.ensures.crash image.db may.1))
    ] in (
      without_desk,
      refl,
      λ image may. none_then c.sessions_follow.ensures L sessions image
          (each image (back image (c.crash_files.ensures.left image may))),
    )

pub returns-in-Ok-clause-lives : goal.returns-in-Ok-clause-lives
returns-in-Ok-clause-lives g c L sessions each =
    let log = c.sync.ensures in
    let db = c.sync-else-is_err.ensures in
    let now : Files _ = record { log = c.sync.new.self; db = c.sync-else-is_err.new.self } in
    let one : HoldsOne g.D.Disk L sessions now =
    synced g.D.Disk c.args.files now L sessions g.met.D.Disk.seen_may_stay
    (on_ok c.sync.result _ (sym c.is_err.ensures.value ∙ c.if-is_err.false) log.durable) log.seen
    (on_ok c.sync-else-is_err.result _ (sym c.is_err-else-is_err.ensures.value ∙ c.if-is_err-2.false)
    db.durable) db.seen (λ image may. (log.crash image.log may.0, db.crash image.db may.1)) each in
    round_goes_on g.D.Disk c.requires.honest c.sessions_follow.ensures L sessions now c.in-Ok.files
    c.crash_files-in-Ok.result c.args.round.now c.serve_round-session.result.0 c.serve_round-session.result.1
    c.in-Ok.is c.serve_round-session.ensures c.crash_files-in-Ok.ensures.left one

pub returns-in-Err-clause-lives : goal.returns-in-Err-clause-lives
returns-in-Err-clause-lives g c L sessions each =
    let log = c.sync.ensures in
    let db = c.sync-else-is_err.ensures in
    let now : Files _ = record { log = c.sync.new.self; db = c.sync-else-is_err.new.self } in
    let one : HoldsOne g.D.Disk L sessions now =
    synced g.D.Disk c.args.files now L sessions g.met.D.Disk.seen_may_stay
    (on_ok c.sync.result _ (sym c.is_err.ensures.value ∙ c.if-is_err.false) log.durable) log.seen
    (on_ok c.sync-else-is_err.result _ (sym c.is_err-else-is_err.ensures.value ∙ c.if-is_err-2.false)
    db.durable) db.seen (λ image may. (log.crash image.log may.0, db.crash image.db may.1)) each in
    round_ends g.D.Disk c.requires.honest c.sessions_follow.ensures L sessions now c.in-Err.left
    c.args.round.now c.serve_round-session.result.0 c.serve_round-session.result.1 c.in-Err.is
    c.serve_round-session.ensures one
