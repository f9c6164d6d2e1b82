use Rattle.portal_http_request.proofs.Common.{◌≡◌, ℕ, List, Option, None, Ok, Err, ap, subst, ◌∙◌, Result}
use Rattle.portal_http_request.proofs.Common.{Refusal, BadDevice, Operation, Rejection, Refused, Gives}
use Rattle.portal_http_request.proofs.Common.{IsDeviceAt, query_of}
use Rattle.std.specs.Option.{ok_or}
use Rattle.std.specs.Result.{IsErrAnd}
use Rattle.portal_http_request.specs.declared.operation.Operation.TheVariants.{LastSession}
use Rattle.portal_http_request.proofs.RouteLemmas.{let_through}
use Rattle.portal_http_request.proofs.routes.check_last_session.Goals as goal

-- the error for a query without a device
without_device : (query : Option (List ℕ)) (found : Option (List ℕ)) (r : Refusal)
    (result : Result Operation Rejection)
    → ◌≡◌ {A = Result (List ℕ) Refusal} (Err r) (ok_or found BadDevice)
    → (found ≡ None) × ((device : List ℕ) → IsDeviceAt query device → ⊥)
    → IsErrAnd result (λ e. e ≡ Refused r)
    → Gives (IsDeviceAt query) LastSession (Refused BadDevice) result
without_device query found r (Ok w) error none is = absurd is
without_device query found r (Err e) error none is =
    let denied : ◌≡◌ {A = Result (List ℕ) Refusal} (Err r) (Err BadDevice) =
    subst (λ (o : Option (List ℕ)). ◌≡◌ {A = Result (List ℕ) Refusal} (Err r) (ok_or o BadDevice))
    none.0 error in
    let same : r ≡ BadDevice = cc in
    (is ∙ ap Refused same, none.1)

pub returns-in_err-device-clause-checks : goal.returns-in_err-device-clause-checks
returns-in_err-device-clause-checks c = λ seed.
    let m = c.args.asked.now in
    let query = query_of m.target in
    let result = c.from_residual-in_err-device.result in
    let none = c.in_err-device.ensures.ok_part in
    let no_device = subst (λ (q : Option (List ℕ)). (device : List ℕ) → IsDeviceAt q device → ⊥)
    c.query.ensures (c.device_of_query.ensures.none none) in
    let_through c.args.settings.now.desk_token c.desk_token.result.now m
    (Gives (IsDeviceAt query) LastSession (Refused BadDevice)) result
    c.desk_token.ensures c.in_ok-require_token.ensures
    (without_device query c.device_of_query.result c.in_err-device.field-0.0 result
    c.in_err-device.ensures.value (none, no_device) c.from_residual-in_err-device.ensures.1)
