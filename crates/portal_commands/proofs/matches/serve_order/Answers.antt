use Rattle.std.proofs.Common.{inl, inr}
use Rattle.clap.specs.Words.{found_of, rows_of}
use Rattle.portal_commands.specs.Orders.{IsServeOrder}
use Rattle.portal_commands.proofs.OrderLemmas.{finds_none, serve_without}
use Rattle.portal_commands.proofs.matches.serve_order.Goals as goal

pub returns-in_err-port : goal.returns-in_err-port
returns-in_err-port c =
    let rows = rows_of (found_of c.args.found.now) in
    finds_none IsServeOrder rows c.from_residual-in_err-port.result c.from_residual-in_err-port.ensures
    (serve_without rows (inr (inl c.in_err-port.ensures)))

pub returns-in_err-count : goal.returns-in_err-count
returns-in_err-count c =
    let rows = rows_of (found_of c.args.found.now) in
    finds_none IsServeOrder rows c.from_residual-in_err-count.result c.from_residual-in_err-count.ensures
    (serve_without rows (inr (inr c.in_err-count.ensures)))
