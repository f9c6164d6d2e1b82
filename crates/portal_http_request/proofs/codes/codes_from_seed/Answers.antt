use Rattle.portal_http_request.proofs.Common.{◌≡◌, ℕ, ◌+◌, ◌*◌, List, map, ap, sym, ◌∙◌, arith, ChaCha}
use Rattle.portal_http_request.proofs.Common.{of_seed, word_at, code_of_words, words_at}
use Rattle.std.specs.List.{range_with_len}
use Rattle.std.proofs.lemmas.List.FromFn.{map-range_with_len_more}
use Rattle.portal_http_request.proofs.codes.codes_from_seed.Goals as goal

words_there : (g : ChaCha) (seed : List ℕ) (place : ℕ) → g ≡ record (of_seed seed) { word_pos = 15 * place }
    → map (λ i. word_at 10 g.key g.stream (g.word_pos + i)) (range_with_len 0 15) ≡ words_at seed place
words_there g seed place e =
    ap (λ (g : ChaCha). map (λ i. word_at 10 g.key g.stream (g.word_pos + i)) (range_with_len 0 15)) e

moved : (g : ChaCha) (seed : List ℕ) (place : ℕ) → g ≡ record (of_seed seed) { word_pos = 15 * place }
    → record g { word_pos = g.word_pos + 15 } ≡ record (of_seed seed) { word_pos = 15 * (place + 1) }
moved g seed place e =
    let same : 15 * place + 15 ≡ 15 * (place + 1) = omega arith in
    ap (λ (g : ChaCha). record g { word_pos = g.word_pos + 15 }) e
    ∙ ap (λ (p : ℕ). record (of_seed seed) { word_pos = p }) same

pub loop-place-preserved : goal.loop-place-preserved
loop-place-preserved c =
    let here = c.loop-place.invariant.place in
    let code = c.from_words_long.ensures.value ∙ ap code_of_words
    (c.next_words-words.ensures.words ∙ words_there _ c.args.seed c.loop-place._place here) in
    let more = map-range_with_len_more (λ place. code_of_words (words_at c.args.seed place)) 0
    c.loop-place._place c.loop-place._place (omega arith) in
    record {
      place = c.next_words-words.ensures.after ∙ moved _ c.args.seed c.loop-place._place here;
      done = c.in_ok-push.ensures.ok ∙ rw (code, c.loop-place.invariant.done) (sym more);
    }
