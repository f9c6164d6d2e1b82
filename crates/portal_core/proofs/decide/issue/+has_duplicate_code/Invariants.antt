use Rattle.std.proofs.Common.{length}
use Rattle.portal_core.proofs.decide.issue.+has_duplicate_code.Given as goal

abbrev pub decreases-has_duplicate_code : goal.decreases-has_duplicate_code
decreases-has_duplicate_code l = length l.codes.now
