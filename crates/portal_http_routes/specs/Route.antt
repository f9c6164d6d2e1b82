-- The table of the routes, and the routes that share a path.
use Rattle.std.specs.Prelude.{ℕ, List, codes, Option, Some, None, cond, bytes_eq}
use Rattle.portal_http_routes.specs.declared.Route.{Route}
use Rattle.portal_http_routes.specs.declared.Route.TheVariants.{Captive, Redeem, Plans, Batches, Print, Sales}
use Rattle.portal_http_routes.specs.declared.Route.TheVariants.{Refunds, Closes, Voucher, Takings, Reports}
use Rattle.portal_http_routes.specs.declared.Route.TheVariants.{Sessions, Session, LastSession, OwnSession}
use Rattle.portal_http_routes.specs.declared.Route.TheVariants.{SessionDetails, BatchList, Batch, Vouchers}
use Rattle.portal_http_routes.specs.declared.Route.TheVariants.{Redemptions}
use Rattle.portal_http_routes.specs.declared.Role.{Role}
use Rattle.portal_http_routes.specs.declared.Role.TheVariants.{Guest, Desk, Gateway}

-- the table of the routes: of each the pattern of its paths, its method, which is GET if the route only
-- reads, and the role of the callers that may use it
abbrev pub row_of : Route → List ℕ × List ℕ × Role
row_of Captive = (codes "/captive", codes "GET", Guest)
row_of Redeem = (codes "/portal/redeem", codes "POST", Guest)
row_of Plans = (codes "/desk/plans", codes "POST", Desk)
row_of Batches = (codes "/desk/batches", codes "POST", Desk)
row_of BatchList = (codes "/desk/batches", codes "GET", Desk)
row_of Batch = (codes "/desk/batches/{id}", codes "GET", Desk)
row_of Print = (codes "/desk/batches/{id}/print", codes "GET", Desk)
row_of Sales = (codes "/desk/sales", codes "POST", Desk)
row_of Refunds = (codes "/desk/refunds", codes "POST", Desk)
row_of Closes = (codes "/desk/closes", codes "POST", Desk)
row_of Voucher = (codes "/desk/vouchers/{code}", codes "GET", Desk)
row_of Vouchers = (codes "/desk/vouchers", codes "GET", Desk)
row_of Redemptions = (codes "/desk/vouchers/{code}/redemptions", codes "GET", Desk)
row_of Takings = (codes "/desk/takings", codes "GET", Desk)
row_of Session = (codes "/desk/sessions/{number}", codes "GET", Desk)
row_of LastSession = (codes "/desk/sessions", codes "GET", Desk)
row_of OwnSession = (codes "/portal/session", codes "GET", Guest)
row_of Reports = (codes "/gateway/reports", codes "POST", Gateway)
row_of Sessions = (codes "/gateway/sessions", codes "GET", Gateway)
row_of SessionDetails = (codes "/gateway/sessions/details", codes "GET", Gateway)

-- the pattern of the paths of a route
abbrev pub pattern_of : Route → List ℕ
pattern_of route = (row_of route).0

-- the method of a route
abbrev pub method_of : Route → List ℕ
method_of route = (row_of route).1

-- the role of the callers that may use a route
abbrev pub role_of : Route → Role
role_of route = (row_of route).2

-- the other route at the path of that one, which only reads, if there is one
abbrev pub reading_at : Route → Option Route
reading_at Batches = Some BatchList
reading_at _ = None

-- the route, if that is its method
abbrev pub kept : List ℕ → Option Route → Option Route
kept method None = None
kept method (Some route) = cond (bytes_eq method (method_of route)) (Some route) None

-- the route with that method, among those at the path of this route
abbrev pub with_method : Route → List ℕ → Option Route
with_method route method =
    cond (bytes_eq method (method_of route)) (Some route) (kept method (reading_at route))

-- the methods of the routes at the path of this route, as `Allow` lists them (RFC 9110, section 10.2.1)
abbrev pub allowed_at : Route → List ℕ
allowed_at Batches = codes "GET, POST"
allowed_at route = method_of route
