-- The response to a rejected request.
use Rattle.std.specs.Prelude.{ℕ, List, Option, Some, None}
use Rattle.portal_model.specs.declared.refusal.Refusal.{Refusal}
use Rattle.portal_model.specs.declared.refusal.Refusal.TheVariants.{BadMethod}
use Rattle.portal_http_routes.specs.Route.{allowed_at}
use Rattle.portal_http_request.specs.declared.rejection.Rejection.{Rejection}
use Rattle.portal_http_request.specs.declared.rejection.Rejection.TheVariants.{Method, Refused}

-- the refusal that it names
abbrev pub error_of : Rejection → Refusal
error_of (Method route) = BadMethod
error_of (Refused r) = r

-- the methods that `Allow` lists: those of the path's routes, if the request has another method
abbrev pub allow_of : Rejection → Option (List ℕ)
allow_of (Method route) = Some (allowed_at route)
allow_of (Refused r) = None
