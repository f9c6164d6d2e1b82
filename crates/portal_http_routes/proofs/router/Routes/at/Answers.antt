use Rattle.portal_http_routes.proofs.Common.{ap, sym, ◌∙◌, option_map, RowsOf, RouteOf, Route}
use Rattle.matchit.specs.Seek.{first}
use Rattle.portal_http_routes.specs.Table.{route_of}
use Rattle.portal_http_routes.proofs.router.Routes.at.Goals as goal

pub returns-in-Ok : goal.returns-in-Ok
unfolding route_of
returns-in-Ok c =
    let moved = ap (λ (t : RowsOf (RouteOf Route)). option_map (λ r. r.value) (first t c.args.path.now))
    (sym c.self.invariant) in
    sym (moved ∙ ap (option_map (λ (r : RouteOf Route). r.value)) c.in-Ok.ensures.found)

pub returns-in-Err : goal.returns-in-Err
unfolding route_of
returns-in-Err c =
    let moved = ap (λ (t : RowsOf (RouteOf Route)). option_map (λ r. r.value) (first t c.args.path.now))
    (sym c.self.invariant) in
    sym (moved ∙ ap (option_map (λ (r : RouteOf Route). r.value)) c.in-Err.ensures.missing)
