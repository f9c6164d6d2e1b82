use Rattle.portal_http_request.proofs.Common.{◌+◌, arith, word_at}
use Rattle.std.proofs.lemmas.List.FromFn.{fill_by_all}
use Rattle.portal_http_request.proofs.codes.next_words.Goals as goal

pub returns-clause-words : goal.returns-clause-words
returns-clause-words c =
    let g = c.args.rng.now in
    fill_by_all (λ i. word_at 10 g.key g.stream (g.word_pos + i)) c.loop-i.words 15 0 c.loop-i.invariant.size
    (λ k h. c.loop-i.invariant.filled k (omega arith))
