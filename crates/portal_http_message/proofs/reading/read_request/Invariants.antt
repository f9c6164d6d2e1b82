use Rattle.portal_http_message.proofs.Common.{◌-◌, length, Consumes, IsIncomplete}
use Rattle.portal_http_message.proofs.reading.read_request.Given as goal

-- the reply is open yet
abbrev pub invariant-loop-received : goal.invariant-loop-received
invariant-loop-received g l = record {
  read : Consumes (g.R.Read.remaining l.fn.reader) (g.R.Read.remaining l.reader) l.received.bytes;
  open_yet : IsIncomplete l.received.bytes;
}

abbrev pub decreases-loop-received : goal.decreases-loop-received
decreases-loop-received g l = 77824 - length l.received.bytes
