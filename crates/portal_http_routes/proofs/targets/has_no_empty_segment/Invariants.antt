use Rattle.std.proofs.Common.{◌≡◌, drop}
use Rattle.portal_http_routes.specs.Targets.{has_no_empty_segment}
use Rattle.portal_http_routes.proofs.targets.has_no_empty_segment.Given as goal

abbrev pub invariant-loop-byte : goal.invariant-loop-byte
invariant-loop-byte l = has_no_empty_segment l.behind_slash (drop l.byte-index l.bytes)
    ≡ has_no_empty_segment l.fn.behind_slash l.bytes
