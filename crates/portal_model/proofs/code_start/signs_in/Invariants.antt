use Rattle.portal_model.proofs.Common.{◌≡◌, take}
use Rattle.portal_codes.specs.Code.{characters_in}
use Rattle.portal_model.proofs.code_start.signs_in.Given as goal

abbrev pub invariant-loop-byte : goal.invariant-loop-byte
invariant-loop-byte l = l.signs.items ≡ characters_in (take l.byte-index l.text)
