use Rattle.portal_http_message.proofs.Common.{List, ℕ, take, drop, sym, subst, arith, take-add, Appends}
use Rattle.std.proofs.KnownBytes.{Appends-trans}
use Rattle.portal_http_message.proofs.writing.write_response.Goals as goal

pub loop-written-preserved : goal.loop-written-preserved
loop-written-preserved g c =
    let before = c.loop-written.invariant in
    let rest = c.split_at.ensures in
    let out = Appends (g.W.Write.contents c.args.writer.now) (g.W.Write.contents c.write.new.self) in
    let took = subst (λ (r : List ℕ). Appends (g.W.Write.contents c.loop-written.writer)
    (g.W.Write.contents c.write.new.self) (take c.in-Ok.count r))
    rest.back c.in-Ok.ensures.bytes in
    record {
      within = omega (arith, c.in-Ok.ensures.bound, rest.back_len);
      out = subst out (sym (take-add c.loop-written.written c.in-Ok.count c.args.bytes.now))
          (Appends-trans _ _ _ (take c.loop-written.written c.args.bytes.now)
          (take c.in-Ok.count (drop c.loop-written.written c.args.bytes.now)) before.out took);
    }
