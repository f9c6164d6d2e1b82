use Rattle.std.proofs.Common.{◌≡◌, drop}
use Rattle.portal_http_message.specs.Lines.{from_start}
use Rattle.portal_http_message.proofs.lines.skip_line_ends.Given as goal

abbrev pub invariant-loop-at : goal.invariant-loop-at
invariant-loop-at l = from_start (drop l.at l.bytes) ≡ from_start l.bytes
