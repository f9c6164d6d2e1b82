use Rattle.portal_http_request.proofs.Common.{◌≡◌, length, arith, ◌∙◌, ap, code_of_words, words_at}
use Rattle.std.proofs.lemmas.List.FromFn.{length-map-range_with_len}
use Rattle.portal_http_request.proofs.issue.issue_of_order.Goals as goal

pub returns-clause-well_formed : goal.returns-clause-well_formed
returns-clause-well_formed c =
    let as_many : length c.in_ok-codes.codes ≡ c.args.order.count =
    ap length c.in_ok-codes.ensures
    ∙ length-map-range_with_len (λ place. code_of_words (words_at c.args.seed place)) 0 c.args.order.count in
    (omega arith, omega arith)
