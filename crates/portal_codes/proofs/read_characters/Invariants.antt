use Rattle.portal_codes.proofs.Common.{◌≡◌, ◌≤◌, ◌<◌, ◌++◌, drop, take, length, map, All, character_of}
use Rattle.portal_codes.proofs.Common.{characters_in}
use Rattle.portal_codes.proofs.Buffers.{zeros}
use Rattle.portal_codes.proofs.read_characters.Given as goal

abbrev pub invariant-loop-byte : goal.invariant-loop-byte
invariant-loop-byte l = record {
  whole : length l.values ≡ 16;
  room : l.count ≤ 16;
  below : All (λ value. value < 31) l.values;
  so_far : characters_in l.text
      ≡ map character_of (take l.count l.values) ++ characters_in (drop l.byte-index l.text);
  tail : drop l.count l.values ≡ drop l.count zeros;
}
