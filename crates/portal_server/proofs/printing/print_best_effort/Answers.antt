use Rattle.portal_server.proofs.PrintLemmas.{prints_either}
use Rattle.portal_server.proofs.printing.print_best_effort.Goals as goal

pub returns : goal.returns
returns g c =
    let out = g.W.Write.contents in
    prints_either (out c.args.writer.now) (out c.print_text-cut.new.writer) c.args.text.now
    c.print_text-cut.result c.print_text-cut.ensures
