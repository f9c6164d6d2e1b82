use Rattle.portal_desk_store.proofs.Common.{pos, ◌+ℤ◌, ◌*ℤ◌, ◌≤ℤ◌, arith, ints}
use Rattle.portal_desk_store.proofs.TakingLemmas.{not_after}
use Rattle.portal_desk_store.proofs.takings.latest_moment.Goals as goal

pub returns : goal.returns
returns c = λ zone t limit shown.
    let high : pos t ≤ℤ ((c.args.day +ℤ pos 3) *ℤ pos 86400) = not_after zone t c.args.day shown in
    c.nearest_moment.ensures.late t limit (omega (arith, ints))
