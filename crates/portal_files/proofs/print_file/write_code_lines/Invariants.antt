use Rattle.portal_files.proofs.Common.{◌≡◌, ◌++◌, take, flat_map, IsReady, written_text, shared_of}
use Rattle.portal_files.proofs.Common.{header_row, code_row}
use Rattle.portal_files.proofs.print_file.write_code_lines.Given as goal

abbrev pub invariant-loop-code : goal.invariant-loop-code
invariant-loop-code l = record {
  ready : IsReady l.writer;
  text : written_text l.writer ≡ header_row ++ flat_map
      (code_row (shared_of l.plan l.seconds l.bytes l.price l.expires)) (take l.code-index l.codes);
}
