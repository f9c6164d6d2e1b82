use Rattle.std.proofs.Common.{◌++◌, codes}
use Rattle.portal_server.proofs.PrintLemmas.{prints_either, prints_more, prints_part}
use Rattle.portal_server.proofs.error.print_error_line.Goals as goal

pub returns-in_err-print_text : goal.returns-in_err-print_text
returns-in_err-print_text g c =
    let out = g.E.Write.contents in
    let part = rw c.as_slice.ensures at c.in_err-print_text.ensures in
    prints_part (out c.args.errors.now) (out c.print_text.new.writer) (codes "portal: ")
    (c.args.word.now ++ codes "\n") part.1

pub returns-in_err-print_text-2 : goal.returns-in_err-print_text-2
returns-in_err-print_text-2 g c =
    let out = g.E.Write.contents in
    let first = rw c.as_slice.ensures at c.in_ok-print_text.ensures in
    let part = rw c.as_bytes.ensures.value at c.in_err-print_text-2.ensures in
    prints_more (out c.args.errors.now) (out c.print_text.new.writer) (out c.print_text-2.new.writer)
    (codes "portal: ") (c.args.word.now ++ codes "\n")
    first (prints_part (out c.print_text.new.writer) (out c.print_text-2.new.writer)
    c.args.word.now (codes "\n") part.1)

pub returns : goal.returns
returns g c =
    let out = g.E.Write.contents in
    let first = rw c.as_slice.ensures at c.in_ok-print_text.ensures in
    let word = rw c.as_bytes.ensures.value at c.in_ok-print_text-2.ensures in
    let end = rw c.as_slice-2.ensures at (prints_either (out c.print_text-2.new.writer)
    (out c.print_text-3.new.writer) c.as_slice-2.result.now c.print_text-3.result c.print_text-3.ensures) in
    prints_more (out c.args.errors.now) (out c.print_text.new.writer) (out c.print_text-3.new.writer)
    (codes "portal: ") (c.args.word.now ++ codes "\n") first
    (prints_more (out c.print_text.new.writer) (out c.print_text-2.new.writer) (out c.print_text-3.new.writer)
    c.args.word.now (codes "\n") word end)
