use Rattle.std.proofs.Common.{◌≡◌, ◌∙◌, Some}
use Rattle.sqlite_wal.specs.Log.{image, state}
use Rattle.sqlite_wal.proofs.LogLemmas.{settled}
use Rattle.sqlite_wal.proofs.StateLemmas.{open_from, AddsNothing-trans}
use Rattle.portal_os.proofs.CopyingLemmas.{copied_stands, kept_after, still_after}
use Rattle.portal_os.proofs.copying.recover_and_copy.Goals as goal

pub read_first_page-requires-clause-some : goal.read_first_page-requires-clause-some
read_first_page-requires-clause-some g c clean =
    let it = c.recover.new.self in
    let is_open = open_from (state it) c.in_ok-recover.ensures.open clean in
    rw (c.in_ok-recover.ensures.clean clean) (settled it is_open g.met.D.Disk.seen_may_stay).whole.first

pub returns-in_err-read_first_page-clause-kept : goal.returns-in_err-read_first_page-clause-kept
returns-in_err-read_first_page-clause-kept g c =
    kept_after c.recover.new.self g.met.D.Disk.seen_may_stay
    c.in_ok-recover.ensures.open _ c.recover.ensures.size _ c.in_ok-recover.ensures.found _ _
    (rw (← c.recover.ensures.size) c.read_first_page.ensures.same.keeps.crash)

pub returns-in_err-read_first_page-clause-still : goal.returns-in_err-read_first_page-clause-still
returns-in_err-read_first_page-clause-still g c =
    still_after c.recover.new.self g.met.D.Disk.seen_may_stay
    c.in_ok-recover.ensures.open _ c.recover.ensures.size _ c.in_ok-recover.ensures.found _ _
    (rw (← c.recover.ensures.size) c.read_first_page.ensures.same.keeps.crash)

pub returns-in_err-finish-clause-kept : goal.returns-in_err-finish-clause-kept
returns-in_err-finish-clause-kept g c =
    let read = c.read_first_page.ensures.same.keeps in
    kept_after c.recover.new.self g.met.D.Disk.seen_may_stay
    c.in_ok-recover.ensures.open _ c.recover.ensures.size _ c.in_ok-recover.ensures.found _ _
    (rw (← c.recover.ensures.size)
    (AddsNothing-trans _ _ _ _ read.crash (rw (← read.stays.size) c.finish.ensures.keeps.crash)))

pub returns-in_err-finish-clause-still : goal.returns-in_err-finish-clause-still
returns-in_err-finish-clause-still g c =
    let read = c.read_first_page.ensures.same.keeps in
    still_after c.recover.new.self g.met.D.Disk.seen_may_stay
    c.in_ok-recover.ensures.open _ c.recover.ensures.size _ c.in_ok-recover.ensures.found _ _
    (rw (← c.recover.ensures.size)
    (AddsNothing-trans _ _ _ _ read.crash (rw (← read.stays.size) c.finish.ensures.keeps.crash)))

pub returns-clause-kept : goal.returns-clause-kept
returns-clause-kept g c =
    let read = c.read_first_page.ensures.same.keeps in
    kept_after c.recover.new.self g.met.D.Disk.seen_may_stay
    c.in_ok-recover.ensures.open _ c.recover.ensures.size _ c.in_ok-recover.ensures.found _ _
    (rw (← c.recover.ensures.size)
    (AddsNothing-trans _ _ _ _ read.crash (rw (← read.stays.size) c.finish.ensures.keeps.crash)))

pub returns-clause-still : goal.returns-clause-still
returns-clause-still g c =
    let read = c.read_first_page.ensures.same.keeps in
    still_after c.recover.new.self g.met.D.Disk.seen_may_stay
    c.in_ok-recover.ensures.open _ c.recover.ensures.size _ c.in_ok-recover.ensures.found _ _
    (rw (← c.recover.ensures.size)
    (AddsNothing-trans _ _ _ _ read.crash (rw (← read.stays.size) c.finish.ensures.keeps.crash)))

pub returns-clause-left : goal.returns-clause-left
returns-clause-left g c left may =
    let last = c.finish.new.self in
    let page = c.in_ok-read_first_page.ensures in
    let finished = (c.in_ok-finish.ensures.same c.in_ok-finish.ensures.open).keeps in
    let read = finished.stays.clean may.0 in
    let found = page.same.keeps.stays.clean read in
    let is_open = open_from (state last) c.in_ok-finish.ensures.open may.0 in
    let first : (state c.recover.new.self).committed 1 ≡ Some c.read_first_page.new.page =
    rw (c.in_ok-recover.ensures.clean found) at (page.read read) in
    copied_stands last g.met.D.Disk.seen_may_stay is_open c.args.log.now.page_size
    (state c.recover.new.self).committed c.read_first_page.new.page (image c.args.log.now)
    (c.in_ok-recover.ensures.found found) first (rw c.recover.ensures.size at page.begins)
    (finished.stays.size ∙ page.same.keeps.stays.size ∙ c.recover.ensures.size)
    (finished.committed is_open ∙ page.same.keeps.committed (finished.stays.was_open is_open)) left may

pub returns-clause-seen : goal.returns-clause-seen
returns-clause-seen g c clean =
    let last = c.finish.new.self in
    let stays = g.met.D.Disk.seen_may_stay in
    returns-clause-left g c (image last) (clean, (stays last.log, stays last.db))
