use Rattle.portal_http_message.proofs.Common.{Bool, sym, subst, inl, MatchBool, err_from_is_err_and}
use Rattle.portal_http_message.proofs.Common.{IsDecided, IsIncomplete, BreaksOff}
use Rattle.std.proofs.KnownBytes.{Consumes-nil}
use Rattle.portal_http_message.proofs.ReadingLemmas.{open_at_first, one_more, at_end, breaks_off}
use Rattle.portal_http_message.proofs.reading.read_request.Goals as goal

pub loop-received-init : goal.loop-received-init
loop-received-init g c = rw (c.new-received.ensures, c.new.ensures.items) (record {
  read = Consumes-nil (g.R.Read.remaining c.args.reader.now);
  open_yet = open_at_first;
})

pub returns-in_err-receive : goal.returns-in_err-receive
returns-in_err-receive g c =
    let before = c.loop-received.invariant in
    let told = err_from_is_err_and c.from_residual.result c.from_residual.ensures.1 in
    rw told.1 (subst (BreaksOff (g.R.Read.remaining c.args.reader.now)
    (g.R.Read.remaining c.receive.new.reader)) (sym told.2)
    (breaks_off _ _ _ c.loop-received.received c.receive.new.self _ before.read before.open_yet
    c.in_err-receive.ensures))

pub returns-then-branch-eq0 : goal.returns-then-branch-eq0
returns-then-branch-eq0 g c =
    let before = c.loop-received.invariant in
    at_end _ _ _ c.loop-received.received c.receive.new.self _ c.if-branch-eq0.true before.read
    before.open_yet c.in_ok-receive.ensures

pub returns-then-is_decided : goal.returns-then-is_decided
returns-then-is_decided g c =
    let before = c.loop-received.invariant in
    let more = one_more _ _ _ c.loop-received.received c.receive.new.self _ before.read before.open_yet
    c.in_ok-receive.ensures in
    let bytes = c.receive.new.self.bytes in
    let decided = subst (λ (b : Bool). MatchBool b (IsDecided bytes) (IsIncomplete bytes))
    c.if-is_decided.true c.is_decided.ensures in
    record { read = more.read; enough = inl decided; not_late = more.not_late }

pub loop-received-preserved : goal.loop-received-preserved
loop-received-preserved g c =
    let before = c.loop-received.invariant in
    let more = one_more _ _ _ c.loop-received.received c.receive.new.self _ before.read before.open_yet
    c.in_ok-receive.ensures in
    let bytes = c.receive.new.self.bytes in
    let open_yet = subst (λ (b : Bool). MatchBool b (IsDecided bytes) (IsIncomplete bytes))
    c.if-is_decided.false c.is_decided.ensures in
    record { read = more.read; open_yet = open_yet }
