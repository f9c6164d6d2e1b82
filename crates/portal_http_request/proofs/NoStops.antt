-- No check says that the desk has stopped.
use Rattle.portal_http_request.proofs.Common.{◌≡◌, ◌⊎◌, inl, inr, ℕ, List, Bool, true, false, Option, Some}
use Rattle.portal_http_request.proofs.Common.{None, refl, ap, sym, subst, ◌∙◌, ◌≢◌, Result, Ok, Err, IfErr}
use Rattle.portal_http_request.proofs.Common.{MatchOption, MatchResult, codes, MatchBool, Data}
use Rattle.portal_http_request.proofs.Common.{Command, Load, Sell, Report, Refund, Close, Refusal, BadRequest}
use Rattle.portal_http_request.proofs.Common.{BadCode, BadDevice, BadPlans, BadMethod, Forbidden, NoRoute}
use Rattle.portal_http_request.proofs.Common.{UnknownBatch, NoMemory, Stopped, Caller, Desk, Gateway, Guest}
use Rattle.portal_http_request.proofs.Common.{IsPlansFile, SettingsValue, text_at, CodeText, CodeOrder}
use Rattle.portal_http_request.proofs.Common.{Exactly, IsCloseOrder, IsReportOrder, issue_of, HeadError}
use Rattle.portal_http_request.proofs.Common.{Message, Route, Captive, Plans, Batches, Print, Sales, Refunds}
use Rattle.portal_http_request.proofs.Common.{Closes, Voucher, Takings, Reports, Sessions, Session}
use Rattle.portal_http_request.proofs.Common.{LastSession, OwnSession, SessionDetails, BatchList, Batch}
use Rattle.portal_http_request.proofs.Common.{Redemptions, Vouchers, with_method, path_of, [], ◌∷◌}
use Rattle.portal_http_request.proofs.Common.{option_and_then}
use Rattle.portal_http_request.proofs.Common.{values_at}
use Rattle.portal_http_request.proofs.Common.{AsksForBatches, AsksForVouchers, BeforeAmong}
use Rattle.portal_http_routes.specs.Queries.{only_of}
use Rattle.portal_model.specs.CodeStart.{start_in}
use Rattle.portal_http_request.proofs.Common.{query_of, parameter_of, Operation, Rejection, Method, Refused}
use Rattle.portal_http_request.proofs.Common.{holds_token, ReadsKey, fingerprint_of, Gives, SaysBody}
use Rattle.portal_http_request.proofs.Common.{GivesCommand, NamesBatch, NamesCode, IsSessionNumber, AreDays}
use Rattle.portal_http_request.proofs.Common.{IsDeviceAt, AtGuest, AtToken}
use Rattle.portal_http_request.proofs.Common.{operation_of, AsksForCommand, AtRoute, AtPath, AtMessage}
use Rattle.portal_http_request.proofs.Common.{IsOfRequest, syntax_error}
use Rattle.std.proofs.lemmas.Bool.{false≢true}
use Rattle.portal_model.specs.declared.command.Command.TheVariants.{Redeem as Redeems}
use Rattle.portal_http_request.specs.Issues.{OrdersIssue as OrdersBatch}
use Rattle.portal_http_message.specs.declared.errors.HeadError.TheVariants.{BadRequest as BadShape}
use Rattle.portal_http_message.specs.declared.errors.HeadError.TheVariants.{TooLarge as TooLong}
use Rattle.portal_http_message.specs.declared.errors.HeadError.TheVariants.{NotSupported as Coded}
use Rattle.portal_http_routes.specs.declared.Route.TheVariants.{Redeem}
use Rattle.portal_http_request.specs.declared.operation.Operation.TheVariants as wanted

-- a refusal, if it is one, is not that of a desk that stopped
abbrev pub IsNoStop : Result Operation Rejection → Type 0
IsNoStop result = IfErr result IsOfRequest

abbrev IsOther : {A : Type 0} → Result A Refusal → Type 0
IsOther result = IfErr result (λ r. r ≢ Stopped)

-- the refusal is not that of a desk that stopped
abbrev is_other : Refusal → Bool
is_other Stopped = false
is_other _ = true

other_than : (r : Refusal) → is_other r ≡ true → r ≢ Stopped
other_than r other e = false≢true (sym (ap is_other e) ∙ other)

shape_is_no_stop : (error : HeadError) → syntax_error error ≢ Stopped
shape_is_no_stop BadShape = λ e. cc
shape_is_no_stop TooLong = λ e. cc
shape_is_no_stop Coded = λ e. cc

other_by : {A : Type 0} (r : Refusal) → r ≢ Stopped → (result : Result A Refusal)
    → result ≡ Err r → IsOther result
other_by r other result is = subst IsOther (sym is) other

same_by : (r s : Refusal) → s ≢ Stopped → r ≡ s → r ≢ Stopped
same_by r s other is = subst (λ (x : Refusal). x ≢ Stopped) (sym is) other

pub denied_by : (rejection : Rejection) → IsOfRequest rejection → (result : Result Operation Rejection)
    → result ≡ Err rejection → IsNoStop result
denied_by rejection other result is = subst IsNoStop (sym is) other

wanted_by : (w : Operation) (result : Result Operation Rejection) → result ≡ Ok w → IsNoStop result
wanted_by w result is = subst IsNoStop (sym is) tt

-- ---- what bodies and parameters say

gives_wanted : {A : Type 0} (Is : A → Type 0) (made : A → Operation) (r : Refusal) → r ≢ Stopped
    → (result : Result Operation Rejection)
    → Gives Is made (Refused r) result → IsNoStop result
gives_wanted Is made r other (Ok w) is = tt
gives_wanted Is made r other (Err rejection) is = subst IsOfRequest (sym is.0) other

gives_command : {A : Type 0} (Is : A → Type 0) (made : A → Command) (r : Refusal) → r ≢ Stopped
    → (result : Result Command Refusal)
    → Gives Is made r result → IsOther result
gives_command Is made r other (Ok command) is = tt
gives_command Is made r other (Err s) is = same_by s r other is.0

exactly_other : {A : Type 0} (Is : A → Type 0) (result : Result A Refusal)
    → Exactly Is result → IsOther result
exactly_other Is (Ok x) is = tt
exactly_other Is (Err r) is = same_by r BadRequest (other_than BadRequest refl) is.0

spells_other : (text : List ℕ) (result : Result (List ℕ) Refusal) → CodeText text result → IsOther result
spells_other text (Ok code) is = tt
spells_other text (Err r) is = same_by r BadCode (other_than BadCode refl) is.0

code_order_other : (value : Data) (result : Result (List ℕ) Refusal) → CodeOrder value result → IsOther result
code_order_other value result is = go (text_at (codes "code") value) is
  where
    go : (o : Option (List ℕ))
        → MatchOption o (result ≡ Err BadRequest) (λ text. CodeText text result) → IsOther result
    go None is = other_by BadRequest (other_than BadRequest refl) result is
    go (Some text) is = spells_other text result is

orders_other : {A : Type 0} (Of : Data → Result A Refusal → Type 0) (command : A → Command) (body : List ℕ)
    → ((value : Data) (said : Result A Refusal) → Of value said → IsOther said)
    → (result : Result Command Refusal) → GivesCommand Of command body result → IsOther result
orders_other {A} Of command body other result (said, says, is) = go said (heard says) is
  where
    heard : SaysBody Of body said → IsOther said
    heard (inl (value, reads, of)) = other value said of
    heard (inr none) = other_by BadRequest (other_than BadRequest refl) said none.1

    go : (said : Result A Refusal) → IsOther said
        → MatchResult said (λ x. result ≡ Ok (command x)) (λ r. result ≡ Err r) → IsOther result
    go (Ok x) apart is = subst (λ (o : Result Command Refusal). IsOther o) (sym is) tt
    go (Err r) apart is = other_by r apart result is

-- ---- the routes

number_other : (field : Result (Option (List ℕ)) HeadError) (r : Refusal)
    → ReadsKey field (Err r) → r ≢ Stopped
number_other (Err error) r is = let same : r ≡ BadRequest = cc in
    same_by r BadRequest (other_than BadRequest refl) same
number_other (Ok None) r is = absurd (cc)
number_other (Ok (Some field)) r is = same_by r BadRequest (other_than BadRequest refl) is.0

acts_no_stop : (m : Message) (caller : Caller) (Ordered : Result Command Refusal → Type 0)
    → ((o : Result Command Refusal) → Ordered o → IsOther o)
    → (result : Result Operation Rejection) → AsksForCommand m caller Ordered result → IsNoStop result
acts_no_stop m caller Ordered other result (n, reads, is) = go n reads is
  where
    made : (mark : _) (o : Result Command Refusal) → IsOther o
        → result ≡ operation_of mark o → IsNoStop result
    made mark (Ok command) apart is = wanted_by (wanted.Act command mark) result is
    made mark (Err r) apart is = denied_by (Refused r) apart result is

    go : (n : Result (Option (List ℕ)) Refusal) → ReadsKey m.number n
        → MatchResult n (λ number. (o : Result Command Refusal) × Ordered o
        × (result ≡ operation_of (fingerprint_of m caller number) o)) (λ r. result ≡ Err (Refused r))
        → IsNoStop result
    go (Ok number) reads (o, is, same) = made (fingerprint_of m caller number) o (other o is) same
    go (Err r) reads is = denied_by (Refused r) (number_other m.number r reads) result is

token_no_stop : (token : List ℕ) (m : Message) (Then : Result Operation Rejection → Type 0)
    → ((r : Result Operation Rejection) → Then r → IsNoStop r)
    → (result : Result Operation Rejection) → AtToken token m Then result → IsNoStop result
token_no_stop token m Then other result is = go (holds_token token m.token) is
  where
    go : (b : Bool) → MatchBool b (Then result) (result ≡ Err (Refused Forbidden)) → IsNoStop result
    go true is = other result is
    go false is = denied_by (Refused Forbidden) (other_than Forbidden refl) result is

guest_no_stop : (m : Message) (Then : List ℕ → Result Operation Rejection → Type 0)
    → ((device : List ℕ) (r : Result Operation Rejection) → Then device r → IsNoStop r)
    → (result : Result Operation Rejection) → AtGuest m Then result → IsNoStop result
guest_no_stop m Then other result (d, guest, is) = go d is
  where
    go : (d : Option (List ℕ))
        → MatchOption d (result ≡ Err (Refused BadDevice)) (λ device. Then device result) → IsNoStop result
    go None is = denied_by (Refused BadDevice) (other_than BadDevice refl) result is
    go (Some device) is = other device result is

batches_no_stop : (query : Option (List ℕ)) (result : Result Operation Rejection)
    → AsksForBatches query result → IsNoStop result
batches_no_stop query result (limit, among, is) = go limit is
  where
    before : (n : ℕ) (values : List (List ℕ)) → BeforeAmong values n result → IsNoStop result
    before n [] is = wanted_by (wanted.Batches None n) result is
    before n (text ∷ []) is = gives_wanted (NamesBatch text) (λ id. wanted.Batches (Some id) n) UnknownBatch
        (other_than UnknownBatch refl) result is
    before n (text ∷ other ∷ rest) is =
        denied_by (Refused BadRequest) (other_than BadRequest refl) result is

    go : (limit : Option ℕ) → MatchOption limit (result ≡ Err (Refused BadRequest))
        (λ n. BeforeAmong (values_at (codes "before") query) n result) → IsNoStop result
    go None is = denied_by (Refused BadRequest) (other_than BadRequest refl) result is
    go (Some n) is = before n (values_at (codes "before") query) is

vouchers_no_stop : (query : Option (List ℕ)) (result : Result Operation Rejection)
    → AsksForVouchers query result → IsNoStop result
vouchers_no_stop query result is =
    go (option_and_then start_in (only_of (values_at (codes "prefix") query))) is
  where
    go : (start : Option (List ℕ)) → MatchOption start (result ≡ Err (Refused BadCode))
        (λ start. result ≡ Ok (wanted.Vouchers start)) → IsNoStop result
    go None is = denied_by (Refused BadCode) (other_than BadCode refl) result is
    go (Some start) is = wanted_by (wanted.Vouchers start) result is

route_no_stop : (settings : SettingsValue) (seed : List ℕ) (m : Message) (route : Route)
    (result : Result Operation Rejection) → AtRoute settings seed m route result → IsNoStop result
route_no_stop settings seed m Captive =
    guest_no_stop m _ (λ device r same. wanted_by (wanted.State device) r same)
route_no_stop settings seed m Redeem = guest_no_stop m _ (λ device.
    acts_no_stop m (Guest device) _ (orders_other CodeOrder (Redeems device) m.body code_order_other))
route_no_stop settings seed m Plans = token_no_stop settings.desk_token m _
    (acts_no_stop m Desk _ (gives_command (IsPlansFile m.body) Load BadPlans (other_than BadPlans refl)))
route_no_stop settings seed m Batches = token_no_stop settings.desk_token m _ (acts_no_stop m Desk _
    (gives_command (OrdersBatch m.body) (issue_of seed) BadRequest (other_than BadRequest refl)))
route_no_stop settings seed m Print =
    token_no_stop settings.desk_token m _ (gives_wanted (NamesBatch (parameter_of (path_of m.target)))
    wanted.Sheet UnknownBatch (other_than UnknownBatch refl))
route_no_stop settings seed m Sales = token_no_stop settings.desk_token m _
    (acts_no_stop m Desk _ (orders_other CodeOrder Sell m.body code_order_other))
route_no_stop settings seed m Refunds = token_no_stop settings.desk_token m _
    (acts_no_stop m Desk _ (orders_other CodeOrder Refund m.body code_order_other))
route_no_stop settings seed m Closes =
    token_no_stop settings.desk_token m _
    (acts_no_stop m Desk _ (orders_other (λ value. Exactly (IsCloseOrder value)) Close m.body
    (λ value. exactly_other (IsCloseOrder value))))
route_no_stop settings seed m Voucher =
    token_no_stop settings.desk_token m _ (gives_wanted (NamesCode (parameter_of (path_of m.target)))
    wanted.Voucher BadCode (other_than BadCode refl))
route_no_stop settings seed m Takings =
    token_no_stop settings.desk_token m _
    (gives_wanted (AreDays (query_of m.target)) wanted.Takings BadRequest (other_than BadRequest refl))
route_no_stop settings seed m Reports =
    token_no_stop settings.gateway_token m _
    (acts_no_stop m Gateway _ (orders_other (λ value. Exactly (IsReportOrder value))
    (λ order. Report order.session order.bytes) m.body (λ value. exactly_other (IsReportOrder value))))
route_no_stop settings seed m Sessions =
    token_no_stop settings.gateway_token m _ (λ r same. wanted_by wanted.OpenSessions r same)
route_no_stop settings seed m Session =
    token_no_stop settings.desk_token m _ (gives_wanted (IsSessionNumber (parameter_of (path_of m.target)))
    wanted.Session BadRequest (other_than BadRequest refl))
route_no_stop settings seed m LastSession =
    token_no_stop settings.desk_token m _
    (gives_wanted (IsDeviceAt (query_of m.target)) wanted.LastSession BadDevice (other_than BadDevice refl))
route_no_stop settings seed m OwnSession =
    guest_no_stop m _ (λ device r same. wanted_by (wanted.OwnSession device) r same)
route_no_stop settings seed m SessionDetails =
    token_no_stop settings.gateway_token m _ (λ r same. wanted_by wanted.OpenDetails r same)
route_no_stop settings seed m BatchList =
    token_no_stop settings.desk_token m _ (batches_no_stop (query_of m.target))
route_no_stop settings seed m Batch =
    token_no_stop settings.desk_token m _ (gives_wanted (NamesBatch (parameter_of (path_of m.target)))
    wanted.Batch UnknownBatch (other_than UnknownBatch refl))
route_no_stop settings seed m Vouchers =
    token_no_stop settings.desk_token m _ (vouchers_no_stop (query_of m.target))
route_no_stop settings seed m Redemptions =
    token_no_stop settings.desk_token m _ (gives_wanted (NamesCode (parameter_of (path_of m.target)))
    wanted.Redemptions BadCode (other_than BadCode refl))

-- ---- the whole request

message_no_stop : (settings : SettingsValue) (seed : List ℕ) (m : Result Message HeadError)
    (result : Result Operation Rejection) → AtMessage settings seed m result → IsNoStop result
message_no_stop settings seed (Err error) result is =
    denied_by (Refused (syntax_error error)) (shape_is_no_stop error) result is
message_no_stop settings seed (Ok m) result (route, finds, is) = go route is
  where
    by_method : (route : Route) (asked : Option Route) → MatchOption asked (result ≡ Err (Method route))
        (λ one. AtRoute settings seed m one result) → IsNoStop result
    by_method route (Some one) is = route_no_stop settings seed m one result is
    by_method route None is = denied_by (Method route) (other_than BadMethod refl) result is

    go : (route : Option Route) → AtPath settings seed m route result → IsNoStop result
    go None is = denied_by (Refused NoRoute) (other_than NoRoute refl) result is
    go (Some route) is = by_method route (with_method route m.method) is

-- the result of the checks of a request's path, or out of memory in its place
pub no_stop : (settings : SettingsValue) (seed : List ℕ) (m : Result Message HeadError)
    (result : Result Operation Rejection)
    → (result ≡ Err (Refused NoMemory)) ⊎ AtMessage settings seed m result → IsNoStop result
no_stop settings seed m result (inl memory) =
    denied_by (Refused NoMemory) (other_than NoMemory refl) result memory
no_stop settings seed m result (inr is) = message_no_stop settings seed m result is
