use Rattle.portal_http_request.proofs.Common.{◌≡◌, ℕ, ◌+◌, ◌<◌, length, get_or, word_at}
use Rattle.portal_http_request.proofs.codes.next_words.Given as goal

-- the first words are there
abbrev pub invariant-loop-i : goal.invariant-loop-i
invariant-loop-i l = record {
  size : length l.words ≡ 15;
  place : l.rng ≡ record l.fn.rng { word_pos = l.fn.rng.word_pos + l.i };
  filled : (k : ℕ) → k < l.i
      → get_or l.words k 0 ≡ word_at 10 l.fn.rng.key l.fn.rng.stream (l.fn.rng.word_pos + k);
}
