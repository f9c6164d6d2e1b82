use Rattle.std.proofs.Common.{◌<◌, length, rules}
use Rattle.portal_os.proofs.LookingLemmas.{some_taken}
use Rattle.portal_os.proofs.looking.has_valid_frames.Goals as goal

pub returns-clause-value : goal.returns-clause-value
returns-clause-value g c clean committed =
    let frames = c.in_ok-frames.frames.items in
    let some : 0 < length frames = some_taken _ _ frames (c.in_ok-frames.ensures.ok clean) committed in
    search rules
