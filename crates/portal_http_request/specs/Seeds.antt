-- The codes of a seed: ChaCha20 (the block function of RFC 8439, with a 64-bit counter and nonce), stream
-- 0, from place 0 on.
use Rattle.std.specs.Prelude.{ℕ, ◌+◌, ◌*◌, List, map}
use Rattle.std.specs.List.{range_with_len}
use Rattle.rand_chacha.specs.ChaCha.{word_at, key_of}
use Rattle.portal_codes.specs.Code.{code_of_words}

-- the fifteen words of the code at a place; both are counted from 0
abbrev pub words_at : List ℕ → ℕ → List ℕ
words_at seed place = map (λ i. word_at 10 (key_of seed) 0 (15 * place + i)) (range_with_len 0 15)

-- the first so many codes of a seed
abbrev pub codes_from_seed : List ℕ → ℕ → List (List ℕ)
codes_from_seed seed count = map (λ place. code_of_words (words_at seed place)) (range_with_len 0 count)
