use Rattle.portal_http_routes.proofs.Common.{◌≡◌, ◌+◌, Bool, true, false, ◌==◌, get_or, drop, sym, ap, ◌∙◌}
use Rattle.portal_http_routes.proofs.Common.{arith, nat_tests}
use Rattle.portal_http_routes.specs.Targets.{has_no_empty_segment}
use Rattle.portal_http_routes.proofs.TargetLemmas.{stops_at, slash_at, sign_at, full_end}
use Rattle.portal_http_routes.proofs.targets.has_no_empty_segment.Goals as goal
use Rattle.portal_http_routes.proofs.targets.has_no_empty_segment.Goals.{then-byte-eq47+else-behind_slash}
use Rattle.portal_http_routes.proofs.targets.has_no_empty_segment.Goals.{else-byte-eq47}

pub returns-then-behind_slash : goal.returns-then-behind_slash
returns-then-behind_slash c =
    let x : (get_or c.args.bytes.now c.loop-byte.byte-index 0 == 47) ≡ true = grind (arith, nat_tests) in
    sym (stops_at c.loop-byte.behind_slash c.args.bytes.now c.loop-byte.byte-index c.loop-byte-test.true x
    c.if-behind_slash.true) ∙ c.loop-byte.invariant

pub loop-byte-preserved : goal.loop-byte-preserved
loop-byte-preserved c =
    let i = c.loop-byte.byte-index in
    elim c.if-byte-eq47.branch [
      | then-byte-eq47+else-behind_slash w ↦
          let x : (get_or c.args.bytes.now i 0 == 47) ≡ true =
          grind (arith, nat_tests, w.if-byte-eq47.true) in
          ap (λ (s : Bool). has_no_empty_segment s (drop (i + 1) c.args.bytes.now)) w.behind_slash-is
          ∙ sym (slash_at c.loop-byte.behind_slash c.args.bytes.now i c.loop-byte-test.true x
          w.if-behind_slash.false) ∙ c.loop-byte.invariant
      | else-byte-eq47 w ↦
          let x : (get_or c.args.bytes.now i 0 == 47) ≡ false =
          grind (arith, nat_tests, w.if-byte-eq47.false) in
          ap (λ (s : Bool). has_no_empty_segment s (drop (i + 1) c.args.bytes.now)) w.behind_slash-is
          ∙ sym (sign_at c.loop-byte.behind_slash c.args.bytes.now i c.loop-byte-test.true x)
          ∙ c.loop-byte.invariant
    ]

pub returns : goal.returns
returns c =
    sym (full_end c.loop-byte.behind_slash c.args.bytes.now c.loop-byte.byte-index c.loop-byte-test.false)
    ∙ c.loop-byte.invariant
