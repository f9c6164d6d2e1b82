use Rattle.portal_model.proofs.Common.{◌≡◌, take}
use Rattle.portal_codes.specs.Code.{in_groups}
use Rattle.portal_model.proofs.code_start.in_groups.Given as goal

abbrev pub invariant-loop-place : goal.invariant-loop-place
invariant-loop-place l = l.printed.items ≡ in_groups (take l.place l.signs)
