use Rattle.std.proofs.Common.{◌+◌, ap, sym, ◌∙◌, arith, Bool, cond, ◌∷◌, get_or, drop}
use Rattle.portal_http_message.specs.Lines.{from_start}
use Rattle.portal_http_message.proofs.LineLemmas.{start_at, start_none, drop_cons, drop_none}
use Rattle.portal_http_message.proofs.lines.skip_line_ends.Goals as goal

pub loop-at-preserved : goal.loop-at-preserved
loop-at-preserved c =
    let x = get_or c.args.bytes.now c.loop-at.at 0 in
    let rest = drop (c.loop-at.at + 1) c.args.bytes.now in
    let e = start_at c.args.bytes.now c.loop-at.at c.loop-at-test.true in
    let t = sym c.is_line_end.ensures ∙ c.if-not-is_line_end.false in
    sym (e ∙ ap (λ (b : Bool). cond b (from_start rest) (x ∷ rest)) t) ∙ c.loop-at.invariant

pub returns : goal.returns
returns c =
    let e = start_none c.args.bytes.now c.loop-at.at c.loop-at-test.false in
    c.split_at-2.ensures.back ∙ drop_none c.args.bytes.now _ (omega arith) ∙ sym e ∙ c.loop-at.invariant

pub returns-then-not-is_line_end : goal.returns-then-not-is_line_end
returns-then-not-is_line_end c =
    let x = get_or c.args.bytes.now c.loop-at.at 0 in
    let rest = drop (c.loop-at.at + 1) c.args.bytes.now in
    let e = start_at c.args.bytes.now c.loop-at.at c.loop-at-test.true in
    let t = sym c.is_line_end.ensures ∙ c.if-not-is_line_end.true in
    c.split_at.ensures.back ∙ drop_cons c.args.bytes.now c.loop-at.at c.loop-at-test.true
    ∙ sym (e ∙ ap (λ (b : Bool). cond b (from_start rest) (x ∷ rest)) t) ∙ c.loop-at.invariant
