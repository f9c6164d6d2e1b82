use Rattle.portal_http_message.proofs.Common.{◌≤◌, ◌-◌, length, take, Appends}
use Rattle.portal_http_message.proofs.writing.write_response.Given as goal

-- the first bytes went out
abbrev pub invariant-loop-written : goal.invariant-loop-written
invariant-loop-written g l = record {
  within : l.written ≤ length l.bytes;
  out : Appends (g.W.Write.contents l.fn.writer) (g.W.Write.contents l.writer) (take l.written l.bytes);
}

abbrev pub decreases-loop-written : goal.decreases-loop-written
decreases-loop-written g l = length l.bytes - l.written
