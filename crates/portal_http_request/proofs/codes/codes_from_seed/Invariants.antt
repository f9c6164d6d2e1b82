use Rattle.portal_http_request.proofs.Common.{◌≡◌, ◌*◌, of_seed, codes_from_seed}
use Rattle.portal_http_request.proofs.codes.codes_from_seed.Given as goal

-- the first codes are there, and the words after them come next
abbrev pub invariant-loop-place : goal.invariant-loop-place
invariant-loop-place l = record {
  place : l.rng ≡ record (of_seed l.fn.seed) { word_pos = 15 * l._place };
  done : l.codes ≡ codes_from_seed l.fn.seed l._place;
}
