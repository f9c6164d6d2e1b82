-- The paths of each route.
use Rattle.std.specs.Prelude.{◌≡◌, ◌≢◌, ◌↔◌, ℕ, ◌<◌, List, [], ◌∷◌, ◌++◌, Some, All, codes, ⊤}
use Rattle.portal_http_routes.specs.declared.Route.{Route}
use Rattle.portal_http_routes.specs.declared.Route.TheVariants.{Captive, Redeem, Plans, Batches, Print, Sales}
use Rattle.portal_http_routes.specs.declared.Route.TheVariants.{Refunds, Closes, Voucher, Takings, Reports}
use Rattle.portal_http_routes.specs.declared.Route.TheVariants.{Sessions, Session, LastSession, OwnSession}
use Rattle.portal_http_routes.specs.declared.Route.TheVariants.{SessionDetails, BatchList, Batch, Vouchers}
use Rattle.portal_http_routes.specs.declared.Route.TheVariants.{Redemptions}
use Rattle.portal_http_routes.specs.Targets.{slash, parameter_of}
use Rattle.portal_http_routes.specs.Table.{route_in}

-- bytes, none of them a slash
abbrev pub IsPlain : List ℕ → Type 0
IsPlain [] = ⊤
IsPlain (b ∷ rest) = (b < 256) × (b ≢ slash) × IsPlain rest

-- a segment of a path that is not empty
abbrev pub IsSegment : List ℕ → Type 0
IsSegment [] = ⊥
IsSegment (b ∷ rest) = IsPlain (b ∷ rest)

-- the path of a batch
abbrev pub batch_path : List ℕ → List ℕ
batch_path id = codes "/desk/batches/" ++ id

-- the path of a batch's print file
abbrev pub print_path : List ℕ → List ℕ
print_path id = codes "/desk/batches/" ++ (id ++ codes "/print")

-- the path of a voucher
abbrev pub voucher_path : List ℕ → List ℕ
voucher_path code = codes "/desk/vouchers/" ++ code

-- the path of a voucher's redemptions
abbrev pub redemptions_path : List ℕ → List ℕ
redemptions_path code = codes "/desk/vouchers/" ++ (code ++ codes "/redemptions")

-- the path of a session
abbrev pub session_path : List ℕ → List ℕ
session_path number = codes "/desk/sessions/" ++ number

-- the paths of a route; `BatchList` has none, since the router finds `Batches` for its path, and the method
-- of a request decides between the two
abbrev pub IsPathOf : Route → List ℕ → Type 0
IsPathOf Captive path = path ≡ codes "/captive"
IsPathOf Redeem path = path ≡ codes "/portal/redeem"
IsPathOf Plans path = path ≡ codes "/desk/plans"
IsPathOf Batches path = path ≡ codes "/desk/batches"
IsPathOf Print path = (id : List ℕ) × IsSegment id × (path ≡ print_path id)
IsPathOf Sales path = path ≡ codes "/desk/sales"
IsPathOf Refunds path = path ≡ codes "/desk/refunds"
IsPathOf Closes path = path ≡ codes "/desk/closes"
IsPathOf Voucher path = (code : List ℕ) × IsSegment code × (path ≡ voucher_path code)
IsPathOf Takings path = path ≡ codes "/desk/takings"
IsPathOf Reports path = path ≡ codes "/gateway/reports"
IsPathOf Sessions path = path ≡ codes "/gateway/sessions"
IsPathOf Session path = (number : List ℕ) × IsSegment number × (path ≡ session_path number)
IsPathOf LastSession path = path ≡ codes "/desk/sessions"
IsPathOf OwnSession path = path ≡ codes "/portal/session"
IsPathOf SessionDetails path = path ≡ codes "/gateway/sessions/details"
IsPathOf BatchList path = ⊥
IsPathOf Batch path = (id : List ℕ) × IsSegment id × (path ≡ batch_path id)
IsPathOf Vouchers path = path ≡ codes "/desk/vouchers"
IsPathOf Redemptions path = (code : List ℕ) × IsSegment code × (path ≡ redemptions_path code)

-- a path has a route exactly if it is one of the route's paths
abbrev pub RoutesAreExact : Type 0
RoutesAreExact =
    (route : Route) (path : List ℕ) → All (λ b. b < 256) path
    → (route_in path ≡ Some route) ↔ IsPathOf route path

-- the parameter of a batch's path and of a print path is the batch, that of a voucher's path and of the path
-- of its redemptions its code, and that of a session's path its number
abbrev pub ParametersAreExact : Type 0
ParametersAreExact =
    (word : List ℕ) → IsSegment word
    → (parameter_of (print_path word) ≡ word) × (parameter_of (voucher_path word) ≡ word)
    × (parameter_of (session_path word) ≡ word) × (parameter_of (batch_path word) ≡ word)
    × (parameter_of (redemptions_path word) ≡ word)
