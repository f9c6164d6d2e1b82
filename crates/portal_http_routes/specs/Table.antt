-- The router's rows, and the route of a path.
use Rattle.std.specs.Prelude.{◌≡◌, ℕ, List, [], ◌∷◌, ◌⊎◌, if◌then◌else◌, Option, None, option_map, Result, Ok}
use Rattle.std.specs.Prelude.{Err, IsUtf8}
use Rattle.matchit.specs.Rows.{RowsOf}
use Rattle.matchit.specs.Router.{RouteOf, route_from}
use Rattle.matchit.specs.Order.{placed}
use Rattle.matchit.specs.Route.{Scan, parse_route}
use Rattle.matchit.specs.Seek.{first}
use Rattle.matchit.specs.declared.error.InsertError.{InsertError}
use Rattle.portal_http_routes.specs.declared.Route.{Route}
use Rattle.portal_http_routes.specs.declared.Route.TheVariants.{Captive, Redeem, Plans, Batches, Print, Sales}
use Rattle.portal_http_routes.specs.declared.Route.TheVariants.{Refunds, Closes, Voucher, Takings, Reports}
use Rattle.portal_http_routes.specs.declared.Route.TheVariants.{Sessions, Session, LastSession, OwnSession}
use Rattle.portal_http_routes.specs.declared.Route.TheVariants.{SessionDetails, Batch, Vouchers}
use Rattle.portal_http_routes.specs.declared.Route.TheVariants.{Redemptions}
use Rattle.portal_http_routes.specs.Route.{pattern_of}
use Rattle.portal_http_routes.specs.Targets.{is_path}

-- a router's rows with one route added, by the result of parsing its pattern
abbrev pub place_read : Result Scan InsertError → Route → RowsOf (RouteOf Route) → RowsOf (RouteOf Route)
place_read (Ok scan) route rows = placed (scan.pattern, route_from scan route) rows
place_read (Err error) route rows = rows

-- the same, by the pattern
unfoldable pub place_route : List ℕ → Route → RowsOf (RouteOf Route) → RowsOf (RouteOf Route)
place_route text route rows = place_read (parse_route text) route rows

-- a router's rows with more routes added, one after another
abbrev pub place_all : List Route → RowsOf (RouteOf Route) → RowsOf (RouteOf Route)
place_all [] rows = rows
place_all (route ∷ rest) rows = place_all rest (place_route (pattern_of route) route rows)

-- the nineteen routes that are found by their paths; `BatchList` is found by its method, at the path of
-- `Batches`
abbrev pub all_routes : List Route
all_routes =
    Captive ∷ Redeem ∷ Plans ∷ Batches ∷ Print ∷ Sales ∷ Refunds ∷ Closes ∷ Voucher ∷ Takings ∷ Reports
    ∷ Sessions ∷ Session ∷ LastSession ∷ OwnSession ∷ SessionDetails ∷ Batch ∷ Vouchers ∷ Redemptions ∷ []

-- the router's rows
abbrev pub table : RowsOf (RouteOf Route)
table = place_all all_routes []

-- the route in the table for a path
unfoldable pub route_of : List ℕ → Option Route
route_of path = option_map (λ r. r.value) (first table path)

-- the route of a path: none if it does not begin with a slash or has an empty segment
abbrev pub route_in : List ℕ → Option Route
route_in path = if is_path path then route_of path else None

-- the route of a path, and none if its bytes are not UTF-8
abbrev pub FindsRoute : List ℕ → Option Route → Type 0
FindsRoute path result =
    (IsUtf8 path × (result ≡ route_in path)) ⊎ ((¬ (IsUtf8 path)) × (result ≡ None))
