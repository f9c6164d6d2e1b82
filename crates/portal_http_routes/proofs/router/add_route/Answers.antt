use Rattle.portal_http_routes.proofs.Common.{◌≡◌, Result, Ok, Err, OnOk, RowsOf, RouteOf, InsertsRead}
use Rattle.portal_http_routes.proofs.Common.{Route}
use Rattle.matchit.specs.Route.{Scan, parse_route}
use Rattle.matchit.specs.declared.error.InsertError.{InsertError}
use Rattle.portal_http_routes.specs.Route.{pattern_of}
use Rattle.portal_http_routes.specs.Table.{place_read, place_route}
use Rattle.portal_http_routes.proofs.router.add_route.Goals as goal

placed_ok : (x : Result Scan InsertError) (value : Route) (old new : RowsOf (RouteOf Route))
    (r : Result (Unit {0}) InsertError)
    → InsertsRead x value old new r → OnOk r (new ≡ place_read x value old)
placed_ok (Ok s) value old new (Ok u) h = h.1
placed_ok (Ok s) value old new (Err e) h = tt
placed_ok (Err e) value old new (Ok u) h = h.0
placed_ok (Err e) value old new (Err f) h = tt

pub returns : goal.returns
unfolding place_route
returns c =
    placed_ok (parse_route (pattern_of c.args.route)) c.args.route _ _ c.insert.result
    (rw (c.path_pattern.ensures) at c.insert.ensures)
