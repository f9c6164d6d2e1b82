use Rattle.portal_files.proofs.Common.{◌≡◌, drop, has_duplicate_id}
use Rattle.portal_files.proofs.plans.has_repeated_id.Given as goal

abbrev pub invariant-loop-i : goal.invariant-loop-i
invariant-loop-i l = has_duplicate_id (drop l.i l.plans) ≡ has_duplicate_id l.plans
