use Rattle.portal_desk_store.proofs.Common.{pos, ◌-ℤ◌, ◌*ℤ◌, ◌≤ℤ◌, arith, ints}
use Rattle.portal_desk_store.proofs.TakingLemmas.{not_before}
use Rattle.portal_desk_store.proofs.takings.earliest_moment.Goals as goal

pub returns : goal.returns
returns c = λ zone t shown.
    let low : ((c.args.day -ℤ pos 2) *ℤ pos 86400) ≤ℤ pos t = not_before zone t c.args.day shown in
    c.nearest_moment.ensures.early t (omega (arith, ints))
