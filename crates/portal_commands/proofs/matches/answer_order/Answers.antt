use Rattle.std.proofs.Common.{inl}
use Rattle.clap.specs.Words.{found_of, rows_of}
use Rattle.portal_commands.specs.Orders.{IsAnswerOrder}
use Rattle.portal_commands.proofs.OrderLemmas.{answer_without, finds_none}
use Rattle.portal_commands.proofs.matches.answer_order.Goals as goal

pub returns-in_err-now : goal.returns-in_err-now
returns-in_err-now c =
    let rows = rows_of (found_of c.args.found.now) in
    finds_none IsAnswerOrder rows c.from_residual.result c.from_residual.ensures
    (answer_without rows (inl c.in_err-now.ensures))
