-- The result of the checks before the desk is called, in their order: syntax, path, method, caller,
-- idempotency key, body or parameter.
use Rattle.std.specs.Prelude.{◌≡◌, ◌≢◌, ◌≤◌, ◌⊎◌, ℕ, List, [], ◌∷◌, Option, Some, None, MatchOption, Result}
use Rattle.std.specs.Prelude.{Ok, Err, MatchResult, codes, option_and_then, ⊤}
use Rattle.std.specs.Bool.{MatchBool}
use Rattle.httparse.specs.Grammar.{RequestHead}
use Rattle.portal_model.specs.declared.command.Command.{Command}
use Rattle.portal_model.specs.declared.command.Command.TheVariants.{Load, Sell, Redeem as Redeems, Report}
use Rattle.portal_model.specs.declared.command.Command.TheVariants.{Refund, Close}
use Rattle.portal_model.specs.declared.refusal.Refusal.{Refusal}
use Rattle.portal_model.specs.declared.refusal.Refusal.TheVariants.{BadRequest, BadCode, BadDevice, BadPlans}
use Rattle.portal_model.specs.declared.refusal.Refusal.TheVariants.{Forbidden, NoRoute, UnknownBatch}
use Rattle.portal_model.specs.declared.refusal.Refusal.TheVariants.{TooLarge, NotSupported, NoMemory, Stopped}
use Rattle.portal_model.specs.Verdict.{IsWellFormed}
use Rattle.portal_ledger.specs.declared.caller.Caller.{Caller}
use Rattle.portal_ledger.specs.declared.caller.Caller.TheVariants.{Desk, Gateway, Guest}
use Rattle.portal_ledger.specs.Fingerprint.{Fingerprint}
use Rattle.portal_files.specs.PlansFile.{IsPlansFile}
use Rattle.portal_files.specs.SettingsFile.{SettingsValue}
use Rattle.portal_json.specs.Orders.{CodeOrder, Exactly, IsCloseOrder, IsReportOrder}
use Rattle.portal_http_request.specs.Issues.{ReadsIssue}
use Rattle.portal_http_message.specs.declared.errors.HeadError.{HeadError}
use Rattle.portal_http_message.specs.declared.errors.HeadError.TheVariants.{BadRequest as BadShape}
use Rattle.portal_http_message.specs.declared.errors.HeadError.TheVariants.{TooLarge as TooLong}
use Rattle.portal_http_message.specs.declared.errors.HeadError.TheVariants.{NotSupported as Coded}
use Rattle.portal_http_message.specs.Message.{HeadOf, Message, message_in}
use Rattle.portal_http_routes.specs.declared.Route.{Route}
use Rattle.portal_http_routes.specs.declared.Route.TheVariants.{Captive, Redeem, Plans, Batches, Print, Sales}
use Rattle.portal_http_routes.specs.declared.Route.TheVariants.{Refunds, Closes, Voucher, Takings, Reports}
use Rattle.portal_http_routes.specs.declared.Route.TheVariants.{Sessions, Session, LastSession, OwnSession}
use Rattle.portal_http_routes.specs.declared.Route.TheVariants.{SessionDetails, BatchList, Batch, Vouchers}
use Rattle.portal_http_routes.specs.declared.Route.TheVariants.{Redemptions}
use Rattle.portal_http_routes.specs.Queries.{only_of}
use Rattle.portal_http_routes.specs.Route.{with_method}
use Rattle.portal_model.specs.Batches.{most_batches}
use Rattle.portal_model.specs.CodeStart.{start_in}
use Rattle.portal_http_routes.specs.Table.{FindsRoute}
use Rattle.portal_http_routes.specs.Targets.{path_of, query_of, parameter_of}
use Rattle.portal_http_request.specs.declared.operation.Operation.{Operation}
use Rattle.portal_http_request.specs.declared.operation.Operation.TheVariants as operations
use Rattle.portal_http_request.specs.declared.rejection.Rejection.{Rejection}
use Rattle.portal_http_request.specs.declared.rejection.Rejection.TheVariants.{Method, Refused}
use Rattle.portal_http_request.specs.Rejection.{error_of}
use Rattle.portal_http_request.specs.Callers.{IsGuest, holds_token, ReadsKey, fingerprint_of}
use Rattle.portal_http_request.specs.Bodies.{Gives, GivesCommand}
use Rattle.portal_http_request.specs.Queries.{NamesBatch, NamesCode, IsSessionNumber, AreDays, IsDeviceAt}
use Rattle.portal_http_request.specs.Queries.{values_at, LimitAmong}

-- the result is so, or out of memory
abbrev pub OrMemory : (Result Operation Rejection → Type 0) → Result Operation Rejection → Type 0
OrMemory Is result = (result ≡ Err (Refused NoMemory)) ⊎ Is result

-- ---- the caller

-- a guest's device, and then what the route requires
abbrev pub AtGuest : Message → (List ℕ → Result Operation Rejection → Type 0)
    → Result Operation Rejection → Type 0
AtGuest m Then result =
    (device : Option (List ℕ)) × IsGuest m.device device
    × MatchOption device (result ≡ Err (Refused BadDevice)) (λ d. Then d result)

-- the caller's token, and then what the route requires
abbrev pub AtToken : List ℕ → Message → (Result Operation Rejection → Type 0)
    → Result Operation Rejection → Type 0
AtToken token m Then result =
    MatchBool (holds_token token m.token) (Then result) (result ≡ Err (Refused Forbidden))

-- ---- commands

-- the operation that executes the command of the body, with the fingerprint
abbrev pub operation_of : Option Fingerprint → Result Command Refusal → Result Operation Rejection
operation_of mark (Ok command) = Ok (operations.Act command mark)
operation_of mark (Err r) = Err (Refused r)

-- the idempotency key of the request, and then the command of its body
abbrev pub AsksForCommand : Message → Caller → (Result Command Refusal → Type 0)
    → Result Operation Rejection → Type 0
AsksForCommand m caller Ordered result =
    (number : Result (Option (List ℕ)) Refusal) × ReadsKey m.number number × MatchResult number
    (λ n. (ordered : Result Command Refusal) × Ordered ordered
    × (result ≡ operation_of (fingerprint_of m caller n) ordered))
    (λ r. result ≡ Err (Refused r))

-- ---- lists of batches, and vouchers by the first characters of their codes

-- a list after the batch that is named, if one is; none, if there are more
abbrev pub BeforeAmong : List (List ℕ) → ℕ → Result Operation Rejection → Type 0
BeforeAmong [] limit result = result ≡ Ok (operations.Batches None limit)
BeforeAmong (text ∷ []) limit result =
    Gives (NamesBatch text) (λ id. operations.Batches (Some id) limit) (Refused UnknownBatch) result
BeforeAmong (text ∷ other ∷ rest) limit result = result ≡ Err (Refused BadRequest)

-- the list of batches that a query asks for
abbrev pub AsksForBatches : Option (List ℕ) → Result Operation Rejection → Type 0
AsksForBatches query result =
    (limit : Option ℕ) × LimitAmong (values_at (codes "limit") query) limit
    × MatchOption limit (result ≡ Err (Refused BadRequest))
    (λ n. BeforeAmong (values_at (codes "before") query) n result)

-- the vouchers that a query asks for
abbrev pub AsksForVouchers : Option (List ℕ) → Result Operation Rejection → Type 0
AsksForVouchers query result =
    MatchOption (option_and_then start_in (only_of (values_at (codes "prefix") query)))
    (result ≡ Err (Refused BadCode)) (λ start. result ≡ Ok (operations.Vouchers start))

-- ---- the twenty routes

-- what each route requires of a request, and the operation that it asks of the desk
abbrev pub AtRoute : SettingsValue → List ℕ → Message → Route → Result Operation Rejection → Type 0
AtRoute settings seed m Captive = AtGuest m (λ device result. result ≡ Ok (operations.State device))
AtRoute settings seed m Redeem =
    AtGuest m (λ device. AsksForCommand m (Guest device) (GivesCommand CodeOrder (Redeems device) m.body))
AtRoute settings seed m Plans =
    AtToken settings.desk_token m (AsksForCommand m Desk (Gives (IsPlansFile m.body) Load BadPlans))
AtRoute settings seed m Batches =
    AtToken settings.desk_token m (AsksForCommand m Desk (ReadsIssue seed m.body))
AtRoute settings seed m Print = AtToken settings.desk_token m
    (Gives (NamesBatch (parameter_of (path_of m.target))) operations.Sheet (Refused UnknownBatch))
AtRoute settings seed m Sales =
    AtToken settings.desk_token m (AsksForCommand m Desk (GivesCommand CodeOrder Sell m.body))
AtRoute settings seed m Refunds =
    AtToken settings.desk_token m (AsksForCommand m Desk (GivesCommand CodeOrder Refund m.body))
AtRoute settings seed m Closes = AtToken settings.desk_token m
    (AsksForCommand m Desk (GivesCommand (λ value. Exactly (IsCloseOrder value)) Close m.body))
AtRoute settings seed m Voucher = AtToken settings.desk_token m
    (Gives (NamesCode (parameter_of (path_of m.target))) operations.Voucher (Refused BadCode))
AtRoute settings seed m Takings = AtToken settings.desk_token m
    (Gives (AreDays (query_of m.target)) operations.Takings (Refused BadRequest))
AtRoute settings seed m Reports =
    AtToken settings.gateway_token m (AsksForCommand m Gateway (GivesCommand
    (λ value. Exactly (IsReportOrder value)) (λ order. Report order.session order.bytes) m.body))
AtRoute settings seed m Sessions =
    AtToken settings.gateway_token m (λ result. result ≡ Ok operations.OpenSessions)
AtRoute settings seed m Session = AtToken settings.desk_token m
    (Gives (IsSessionNumber (parameter_of (path_of m.target))) operations.Session (Refused BadRequest))
AtRoute settings seed m LastSession = AtToken settings.desk_token m
    (Gives (IsDeviceAt (query_of m.target)) operations.LastSession (Refused BadDevice))
AtRoute settings seed m OwnSession =
    AtGuest m (λ device result. result ≡ Ok (operations.OwnSession device))
AtRoute settings seed m SessionDetails =
    AtToken settings.gateway_token m (λ result. result ≡ Ok operations.OpenDetails)
AtRoute settings seed m BatchList =
    AtToken settings.desk_token m (AsksForBatches (query_of m.target))
AtRoute settings seed m Batch = AtToken settings.desk_token m
    (Gives (NamesBatch (parameter_of (path_of m.target))) operations.Batch (Refused UnknownBatch))
AtRoute settings seed m Vouchers =
    AtToken settings.desk_token m (AsksForVouchers (query_of m.target))
AtRoute settings seed m Redemptions = AtToken settings.desk_token m
    (Gives (NamesCode (parameter_of (path_of m.target))) operations.Redemptions (Refused BadCode))

-- ---- the whole request

-- no route for the path; or the route of the method among those of the path, and then what it requires
abbrev pub AtPath : SettingsValue → List ℕ → Message → Option Route → Result Operation Rejection → Type 0
AtPath settings seed m None result = result ≡ Err (Refused NoRoute)
AtPath settings seed m (Some route) result = MatchOption (with_method route m.method)
    (result ≡ Err (Method route)) (λ asked. AtRoute settings seed m asked result)

-- the refusal for an error in the syntax of a request (RFC 9112, sections 2, 3.2 and 6; a body over 65,536
-- bytes; a transfer coding)
abbrev pub syntax_error : HeadError → Refusal
syntax_error BadShape = BadRequest
syntax_error TooLong = TooLarge
syntax_error Coded = NotSupported

-- the syntax of the request, then its path
abbrev pub AtMessage : SettingsValue → List ℕ → Result Message HeadError → Result Operation Rejection → Type 0
AtMessage settings seed (Err error) result = result ≡ Err (Refused (syntax_error error))
AtMessage settings seed (Ok m) result =
    (route : Option Route) × FindsRoute (path_of m.target) route × AtPath settings seed m route result

-- the result of the checks of a request's bytes, with the seed of its codes: the operation that it asks of
-- the desk, or the first rejection
abbrev pub IsChecked : SettingsValue → List ℕ → List ℕ → Result Operation Rejection → Type 0
IsChecked settings seed bytes result =
    (head : Option RequestHead) × HeadOf bytes head × AtMessage settings seed (message_in head bytes) result

-- a command is well formed, and a list of batches is not too long, as the desk requires
abbrev pub IsInOrder : Operation → Type 0
IsInOrder (operations.Act command mark) = IsWellFormed command
IsInOrder (operations.Batches before limit) = limit ≤ most_batches
IsInOrder _ = ⊤

-- the rejection is not the refusal of a desk that has stopped
abbrev pub IsOfRequest : Rejection → Type 0
IsOfRequest rejection = error_of rejection ≢ Stopped
