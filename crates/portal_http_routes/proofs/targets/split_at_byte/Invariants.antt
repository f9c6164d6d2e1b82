use Rattle.std.proofs.Common.{◌≡◌, drop}
use Rattle.portal_http_routes.specs.Targets.{before, after}
use Rattle.portal_http_routes.proofs.TargetLemmas.{so_far}
use Rattle.portal_http_routes.proofs.targets.split_at_byte.Given as goal

abbrev pub invariant-loop-at : goal.invariant-loop-at
invariant-loop-at l = record {
  front : so_far l.separator l.bytes l.at ≡ before l.separator l.bytes;
  back : after l.separator (drop l.at l.bytes) ≡ after l.separator l.bytes;
}
