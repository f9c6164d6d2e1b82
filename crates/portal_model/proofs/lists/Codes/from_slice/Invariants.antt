use Rattle.std.proofs.Common.{◌≡◌, take}
use Rattle.portal_model.proofs.lists.Codes.from_slice.Given as goal

abbrev pub invariant-loop-code : goal.invariant-loop-code
invariant-loop-code l = l.list ≡ take l.code-index l.codes
