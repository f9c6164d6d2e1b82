use Rattle.portal_codes.proofs.Common.{◌≡◌, ◌%◌, take, drop, length, map}
use Rattle.portal_codes.proofs.Buffers.{zeros}
use Rattle.portal_codes.proofs.code_from_slice.Given as goal

abbrev pub invariant-loop-i : goal.invariant-loop-i
invariant-loop-i l = record {
  whole : length l.values ≡ 16;
  so_far : take l.i l.values ≡ map (λ word. word % 31) (take l.i l.words);
  tail : drop l.i l.values ≡ drop l.i zeros;
}
