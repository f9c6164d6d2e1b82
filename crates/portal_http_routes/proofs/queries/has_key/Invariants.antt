use Rattle.std.proofs.Common.{◌≡◌, option_map}
use Rattle.portal_http_routes.specs.Queries.{values_of}
use Rattle.portal_http_routes.proofs.QueryLemmas.{values_left, bytes_left}
use Rattle.portal_http_routes.proofs.queries.has_key.Given as goal

-- no field so far has the key
abbrev pub invariant-loop-left : goal.invariant-loop-left
invariant-loop-left l =
    values_left l.key (option_map (λ fields. fields.now) l.left) ≡ values_of l.key l.query

abbrev pub decreases-loop-left : goal.decreases-loop-left
decreases-loop-left l = bytes_left (option_map (λ fields. fields.now) l.left)
