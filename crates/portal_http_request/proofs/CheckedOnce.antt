-- The settings, the seed and the bytes of a request settle what the checks make of it.
use Rattle.portal_http_request.proofs.Common.{◌≡◌, inl, inr, ℕ, List, [], ◌∷◌, Bool, true, false, Option}
use Rattle.portal_http_request.proofs.Common.{Some, None, refl, sym, ap, subst, ◌∙◌, Result, Ok, Err}
use Rattle.portal_http_request.proofs.Common.{MatchOption, MatchResult, codes, MatchBool, Data}
use Rattle.portal_http_request.proofs.Common.{Span, Command, Load, Sell, Report, Refund, Close, Refusal}
use Rattle.portal_http_request.proofs.Common.{BadRequest, BadCode, BadDevice, BadPlans, Forbidden}
use Rattle.portal_http_request.proofs.Common.{UnknownBatch, Caller, Desk, Gateway, Guest, IsPlansFile}
use Rattle.portal_http_request.proofs.Common.{SettingsValue, ReadsJson, text_at, CodeText, CodeOrder, Exactly}
use Rattle.portal_http_request.proofs.Common.{IsBatchOrder, IsReportOrder, IsCloseOrder, issue_of, HeadError}
use Rattle.portal_http_request.proofs.Common.{Message, message_in, Route, Captive, Plans, Batches, Print}
use Rattle.portal_http_request.proofs.Common.{Sales, Refunds, Closes, Voucher, Takings, Reports, Sessions}
use Rattle.portal_http_request.proofs.Common.{Session, LastSession, OwnSession, SessionDetails, BatchList}
use Rattle.portal_http_request.proofs.Common.{Batch, Vouchers, AsksForBatches, AsksForVouchers, BeforeAmong}
use Rattle.portal_http_request.proofs.Common.{Redemptions}
use Rattle.portal_http_request.proofs.Common.{LimitAmong, values_at, option_and_then}
use Rattle.portal_http_routes.specs.Queries.{only_of}
use Rattle.portal_model.specs.CodeStart.{start_in}
use Rattle.portal_http_request.proofs.Common.{with_method, FindsRoute, path_of, query_of, parameter_of}
use Rattle.portal_http_request.proofs.Common.{Operation, Rejection, Method, Refused, IsGuest, holds_token}
use Rattle.portal_http_request.proofs.Common.{ReadsKey, fingerprint_of, Gives, SaysBody, GivesCommand}
use Rattle.portal_http_request.proofs.Common.{NamesBatch, NamesCode, IsSessionNumber, AreDays, IsDeviceAt}
use Rattle.portal_http_request.proofs.Common.{AtGuest, AtToken, operation_of}
use Rattle.portal_http_request.proofs.Common.{AsksForCommand, AtRoute, AtPath, AtMessage, IsChecked}
use Rattle.std.specs.List.{join_with_byte}
use Rattle.httparse.specs.Grammar.{RequestHead}
use Rattle.portal_codes.proofs.Spelling.{unique}
use Rattle.portal_model.specs.Device.{IsDevice, SpellsDevice, octet_text, text_of_device}
use Rattle.portal_model.proofs.Devices.{Layout, layout, as-six, reads-back}
use Rattle.portal_model.specs.declared.command.Command.TheVariants.{Redeem as Redeems}
use Rattle.portal_files.proofs.SamePlans.{same-file}
use Rattle.portal_http_request.specs.Issues.{OrdersIssue as OrdersBatch}
use Rattle.portal_http_message.proofs.DecidedLemmas.{heads_once}
use Rattle.portal_http_routes.specs.declared.Route.TheVariants.{Redeem}
use Rattle.portal_http_request.specs.declared.operation.Operation.TheVariants as wanted
use Rattle.portal_http_request.proofs.QueryLemmas.{day_once}

-- ---- devices

abbrev six : ℕ → ℕ → ℕ → ℕ → ℕ → ℕ → List ℕ
six a b c d e f = a ∷ b ∷ c ∷ d ∷ e ∷ f ∷ []

-- the text of a device, from the texts of its octets
abbrev joined : List ℕ → List ℕ → List ℕ → List ℕ → List ℕ → List ℕ → List ℕ
joined a b c d e f = join_with_byte 58 (a ∷ b ∷ c ∷ d ∷ e ∷ f ∷ [])

-- devices with octets of the same texts have one text
same_text : (text : List ℕ) (a b c d e f a' b' c' d' e' f' : ℕ) → Layout text a b c d e f
    → Layout text a' b' c' d' e' f'
    → text_of_device (six a b c d e f) ≡ text_of_device (six a' b' c' d' e' f')
same_text text a b c d e f a' b' c' d' e' f' x y =
    let one : octet_text a ≡ octet_text a' = x.first ∙ sym y.first in
    let two : octet_text b ≡ octet_text b' = x.second ∙ sym y.second in
    let three : octet_text c ≡ octet_text c' = x.third ∙ sym y.third in
    let four : octet_text d ≡ octet_text d' = x.fourth ∙ sym y.fourth in
    let five : octet_text e ≡ octet_text e' = x.fifth ∙ sym y.fifth in
    let last : octet_text f ≡ octet_text f' = x.sixth ∙ sym y.sixth in
    λ i. joined (one i) (two i) (three i) (four i) (five i) (last i)

-- devices of one text are one
one_device : (d e : List ℕ) → IsDevice d → IsDevice e → text_of_device d ≡ text_of_device e → e ≡ d
one_device d e is other same =
    (reads-back d is).1 e (subst (λ (text : List ℕ). SpellsDevice text e) (sym same) (reads-back e other).0)

spelled_once : (text d e : List ℕ) → SpellsDevice text d → SpellsDevice text e → d ≡ e
spelled_once text d e is other =
    sym (one_device d e is.is_device other.is_device (alike d is.is_device e other.is_device is other))
  where
    alike : (d : List ℕ) → IsDevice d → (e : List ℕ) → IsDevice e → SpellsDevice text d → SpellsDevice text e
        → text_of_device d ≡ text_of_device e
    alike d dev e dev2 =
        as-six (λ x. SpellsDevice text x → SpellsDevice text e → text_of_device x ≡ text_of_device e)
        (λ a b c d' e' f _.
        as-six (λ y. SpellsDevice text (six a b c d' e' f) → SpellsDevice text y
        → text_of_device (six a b c d' e' f) ≡ text_of_device y)
        (λ a2 b2 c2 d2 e2 f2 _ p q. same_text text a b c d' e' f a2 b2 c2 d2 e2 f2
        (layout text a b c d' e' f p) (layout text a2 b2 c2 d2 e2 f2 q)) e dev2)
        d dev

-- ---- the caller and the number

guest_once : (field : Option (List ℕ)) (d e : Option (List ℕ)) → IsGuest field d → IsGuest field e → d ≡ e
guest_once None d e is also = is ∙ sym also
guest_once (Some field) (Some d) (Some e) is also = ap Some (spelled_once field d e is.1 also.1)
guest_once (Some field) (Some d) None is also = absurd (also d is)
guest_once (Some field) None (Some e) is also = absurd (is e also)
guest_once (Some field) None None is also = refl

number_once : (field : Result (Option (List ℕ)) HeadError) (n k : Result (Option (List ℕ)) Refusal)
    → ReadsKey field n → ReadsKey field k → n ≡ k
number_once (Err error) n k is also = is ∙ sym also
number_once (Ok None) n k is also = is ∙ sym also
number_once (Ok (Some field)) (Ok n) (Ok k) is also = ap Ok (is.1 ∙ sym also.1)
number_once (Ok (Some field)) (Ok n) (Err s) is also = absurd (also.1 is.0)
number_once (Ok (Some field)) (Err r) (Ok k) is also = absurd (is.1 also.0)
number_once (Ok (Some field)) (Err r) (Err s) is also = ap Err (is.0 ∙ sym also.0)

-- ---- one thing or none

gives_once : {A B E : Type 0} (Is : A → Type 0) (made : A → B) (refusal : E)
    → ((x y : A) → Is x → Is y → x ≡ y) → (one other : Result B E)
    → Gives Is made refusal one → Gives Is made refusal other → one ≡ other
gives_once Is made refusal once (Ok a) (Ok b) (x, is, same) (y, also, same2) =
    ap Ok (same ∙ ap made (once x y is also) ∙ sym same2)
gives_once Is made refusal once (Ok a) (Err f) (x, is, same) (why, none) = absurd (none x is)
gives_once Is made refusal once (Err e) (Ok b) (why, none) (y, also, same) = absurd (none y also)
gives_once Is made refusal once (Err e) (Err f) is also = ap Err (is.0 ∙ sym also.0)

batch_once : (text id other : List ℕ) → NamesBatch text id → NamesBatch text other → id ≡ other
batch_once text id other is also = is.2 ∙ sym also.2

code_once : (text code other : List ℕ) → NamesCode text code → NamesCode text other → code ≡ other
code_once text code other is also = sym (unique text code other is.1 also.1)

days_once : (query : Option (List ℕ)) (range other : Span) → AreDays query range
    → AreDays query other → range ≡ other
days_once query range other is also =
    let first = day_once (codes "from") query range.first other.first is.from also.from in
    let last = day_once (codes "to") query range.last other.last is.to also.to in
    λ i. record { first = first i; last = last i }

session_once : (text : List ℕ) (n k : ℕ) → IsSessionNumber text n → IsSessionNumber text k → n ≡ k
session_once text n k is also = is.2 ∙ sym also.2

device_once : (query : Option (List ℕ)) (d e : List ℕ) → IsDeviceAt query d → IsDeviceAt query e → d ≡ e
device_once query d e (text, at, is) (text2, at2, also) =
    let found = sym at ∙ at2 in
    let same : text2 ≡ text = cc in
    spelled_once text d e is.1 (subst (λ (t : List ℕ). SpellsDevice t e) same also.1)

-- ---- bodies

abbrev Once : {A : Type 0} → (A → Type 0) → Type 0
Once {A} Is = (x y : A) → Is x → Is y → x ≡ y

value_once : (body : List ℕ) (v w : Data) → ReadsJson body v → ReadsJson body w → v ≡ w
value_once body v w is also = let found = sym is.1 ∙ also.1 in cc

says_once : {A : Type 0} (Of : Data → Result A Refusal → Type 0) (body : List ℕ)
    → ((value : Data) → Once (Of value)) → Once (SaysBody Of body)
says_once Of body once x y (inl (v, reads, is)) (inl (w, reads2, also)) =
    once v x y is (subst (λ (u : Data). Of u y) (sym (value_once body v w reads reads2)) also)
says_once Of body once x y (inl (v, reads, is)) (inr also) = absurd (also.0 v reads)
says_once Of body once x y (inr is) (inl (w, reads2, also)) = absurd (is.0 w reads2)
says_once Of body once x y (inr is) (inr also) = is.1 ∙ sym also.1

orders_once : {A : Type 0} (Of : Data → Result A Refusal → Type 0) (command : A → Command) (body : List ℕ)
    → ((value : Data) → Once (Of value)) → Once (GivesCommand Of command body)
orders_once {A} Of command body once x y (s, says, is) (t, says2, also) =
    go s is (subst (λ (u : Result A Refusal). MatchResult u (λ o. y ≡ Ok (command o)) (λ r. y ≡ Err r))
    (sym (says_once Of body once s t says says2)) also)
  where
    go : (s : Result A Refusal) → MatchResult s (λ o. x ≡ Ok (command o)) (λ r. x ≡ Err r)
        → MatchResult s (λ o. y ≡ Ok (command o)) (λ r. y ≡ Err r) → x ≡ y
    go (Ok o) is also = is ∙ sym also
    go (Err r) is also = is ∙ sym also

exactly_once : {A : Type 0} (Is : A → Type 0) → Once Is → Once (Exactly Is)
exactly_once Is once (Ok x) (Ok y) is also = ap Ok (once x y is also)
exactly_once Is once (Ok x) (Err r) is also = absurd (also.1 x is)
exactly_once Is once (Err r) (Ok y) is also = absurd (is.1 y also)
exactly_once Is once (Err r) (Err s) is also = ap Err (is.0 ∙ sym also.0)

spells_once : (text : List ℕ) → Once (CodeText text)
spells_once text (Ok c) (Ok d) is also = ap Ok (sym (unique text c d is also))
spells_once text (Ok c) (Err r) is also = absurd (also.1 c is)
spells_once text (Err r) (Ok d) is also = absurd (is.1 d also)
spells_once text (Err r) (Err s) is also = ap Err (is.0 ∙ sym also.0)

code_order_once : (value : Data) → Once (CodeOrder value)
code_order_once value x y is also = go (text_at (codes "code") value) is also
  where
    go : (o : Option (List ℕ)) → MatchOption o (x ≡ Err BadRequest) (λ text. CodeText text x)
        → MatchOption o (y ≡ Err BadRequest) (λ text. CodeText text y) → x ≡ y
    go None is also = is ∙ sym also
    go (Some text) is also = spells_once text x y is also

close_once : (value : Data) → Once (Exactly (IsCloseOrder value))
close_once value = exactly_once (IsCloseOrder value) (λ n k is also. let found = sym is ∙ also in cc)

report_same : (value : Data) → Once (IsReportOrder value)
report_same value x y is also =
    let session : x.session ≡ y.session = let found = sym is.session ∙ also.session in cc in
    let bytes : x.bytes ≡ y.bytes = let found = sym is.bytes ∙ also.bytes in cc in
    λ i. record { session = session i; bytes = bytes i }

report_once : (value : Data) → Once (Exactly (IsReportOrder value))
report_once value = exactly_once (IsReportOrder value) (report_same value)

batch_order_once : (value : Data) → Once (IsBatchOrder value)
batch_order_once value x y is also =
    let batch : x.batch ≡ y.batch = let found = sym is.batch ∙ also.batch in cc in
    let plan : x.plan ≡ y.plan = let found = sym is.plan ∙ also.plan in cc in
    let count : x.count ≡ y.count = let found = sym is.count ∙ also.count in cc in
    λ i. record { batch = batch i; plan = plan i; count = count i }

ordered_once : (body : List ℕ) → Once (OrdersBatch body)
ordered_once body x y (v, reads, is) (w, reads2, also) =
    batch_order_once v x y is
    (subst (λ (u : Data). IsBatchOrder u y) (sym (value_once body v w reads reads2)) also)

-- ---- the routes

-- one of two ways, by a test
by_test : {A : Type 0} (Is Else : A → Type 0) → Once Is → Once Else → (b : Bool) (one other : A)
    → MatchBool b (Is one) (Else one) → MatchBool b (Is other) (Else other) → one ≡ other
by_test Is Else is_once else_once true one other x y = is_once one other x y
by_test Is Else is_once else_once false one other x y = else_once one other x y

both : {A : Type 0} (one other x : A) → one ≡ x → other ≡ x → one ≡ other
both one other x is also = is ∙ sym also

abbrev IsDenied : Rejection → Result Operation Rejection → Type 0
IsDenied rejection result = result ≡ Err rejection

denied_once : (rejection : Rejection) → Once (IsDenied rejection)
denied_once rejection one other is also = both one other (Err rejection) is also

at_token_once : (token : List ℕ) (m : Message) (Then : Result Operation Rejection → Type 0) → Once Then
    → Once (AtToken token m Then)
at_token_once token m Then once = by_test Then (IsDenied (Refused Forbidden)) once
    (denied_once (Refused Forbidden)) (holds_token token m.token)

at_guest_once : (m : Message) (Then : List ℕ → Result Operation Rejection → Type 0)
    → ((device : List ℕ) → Once (Then device)) → Once (AtGuest m Then)
at_guest_once m Then once x y (d, is, then) (e, also, then2) =
    go d then (subst (λ (o : Option (List ℕ)). MatchOption o (y ≡ Err (Refused BadDevice))
    (λ device. Then device y)) (sym (guest_once m.device d e is also)) then2)
  where
    go : (d : Option (List ℕ)) → MatchOption d (x ≡ Err (Refused BadDevice)) (λ device. Then device x)
        → MatchOption d (y ≡ Err (Refused BadDevice)) (λ device. Then device y) → x ≡ y
    go None is also = is ∙ sym also
    go (Some device) is also = once device x y is also

requests_are_idempotent : (m : Message) (caller : Caller) (Ordered : Result Command Refusal → Type 0)
    → Once Ordered → Once (AsksForCommand m caller Ordered)
requests_are_idempotent m caller Ordered once x y (n, reads, is) (k, reads2, also) = go n is (subst
    (λ (u : Result (Option (List ℕ)) Refusal). Comes u y) (sym (number_once m.number n k reads reads2)) also)
  where
    Comes : Result (Option (List ℕ)) Refusal → Result Operation Rejection → Type 0
    Comes n result = MatchResult n
        (λ number. (ordered : Result Command Refusal) × Ordered ordered
        × (result ≡ operation_of (fingerprint_of m caller number) ordered))
        (λ r. result ≡ Err (Refused r))

    go : (n : Result (Option (List ℕ)) Refusal) → Comes n x → Comes n y → x ≡ y
    go (Ok number) (o, is, same) (p, also, same2) =
        same ∙ ap (operation_of (fingerprint_of m caller number)) (once o p is also) ∙ sym same2
    go (Err r) is also = is ∙ sym also

-- one of two ways, by a value
by_value : {A B : Type 0} (Else : A → Type 0) (Is : B → A → Type 0) → Once Else
    → ((b : B) → Once (Is b)) → (o : Option B) (one other : A)
    → MatchOption o (Else one) (λ b. Is b one) → MatchOption o (Else other) (λ b. Is b other) → one ≡ other
by_value Else Is else_once is_once None one other x y = else_once one other x y
by_value Else Is else_once is_once (Some b) one other x y = is_once b one other x y

limit_once : (values : List (List ℕ)) → Once (LimitAmong values)
limit_once [] n k is also = is ∙ sym also
limit_once (text ∷ []) (Some n) (Some k) is also = ap Some (session_once text n k is.0 also.0)
limit_once (text ∷ []) (Some n) None is also = absurd (also n is)
limit_once (text ∷ []) None (Some k) is also = absurd (is k also)
limit_once (text ∷ []) None None is also = refl
limit_once (text ∷ other ∷ rest) n k is also = is ∙ sym also

before_once : (values : List (List ℕ)) (n : ℕ) → Once (BeforeAmong values n)
before_once [] n x y is also = both x y (Ok (wanted.Batches None n)) is also
before_once (text ∷ []) n x y is also = gives_once (NamesBatch text) (λ id. wanted.Batches (Some id) n)
    (Refused UnknownBatch) (batch_once text) x y is also
before_once (text ∷ other ∷ rest) n x y is also = denied_once (Refused BadRequest) x y is also

batches_once : (query : Option (List ℕ)) → Once (AsksForBatches query)
batches_once query x y (n, among, is) (k, among2, also) =
    let before = values_at (codes "before") query in
    by_value (IsDenied (Refused BadRequest)) (BeforeAmong before) (denied_once (Refused BadRequest))
    (before_once before) n x y is
    (subst (λ (o : Option ℕ). MatchOption o (IsDenied (Refused BadRequest) y) (λ m. BeforeAmong before m y))
    (sym (limit_once (values_at (codes "limit") query) n k among among2)) also)

vouchers_once : (query : Option (List ℕ)) → Once (AsksForVouchers query)
vouchers_once query = by_value (IsDenied (Refused BadCode))
    (λ start result. result ≡ Ok (wanted.Vouchers start)) (denied_once (Refused BadCode))
    (λ start x y is also. both x y (Ok (wanted.Vouchers start)) is also)
    (option_and_then start_in (only_of (values_at (codes "prefix") query)))

route_once : (settings : SettingsValue) (seed : List ℕ) (m : Message) (route : Route)
    → Once (AtRoute settings seed m route)
route_once settings seed m Captive =
    at_guest_once m _ (λ device x y is also. both x y (Ok (wanted.State device)) is also)
route_once settings seed m Redeem = at_guest_once m _ (λ device. requests_are_idempotent m (Guest device) _
    (orders_once CodeOrder (Redeems device) m.body code_order_once))
route_once settings seed m Plans = at_token_once settings.desk_token m _
    (requests_are_idempotent m Desk _ (gives_once (IsPlansFile m.body) Load BadPlans (same-file m.body)))
route_once settings seed m Batches = at_token_once settings.desk_token m _ (requests_are_idempotent m Desk _
    (gives_once (OrdersBatch m.body) (issue_of seed) BadRequest (ordered_once m.body)))
route_once settings seed m Print =
    at_token_once settings.desk_token m _ (gives_once (NamesBatch (parameter_of (path_of m.target)))
    wanted.Sheet (Refused UnknownBatch) (batch_once (parameter_of (path_of m.target))))
route_once settings seed m Sales = at_token_once settings.desk_token m _
    (requests_are_idempotent m Desk _ (orders_once CodeOrder Sell m.body code_order_once))
route_once settings seed m Refunds = at_token_once settings.desk_token m _
    (requests_are_idempotent m Desk _ (orders_once CodeOrder Refund m.body code_order_once))
route_once settings seed m Closes = at_token_once settings.desk_token m _ (requests_are_idempotent m Desk _
    (orders_once (λ value. Exactly (IsCloseOrder value)) Close m.body close_once))
route_once settings seed m Voucher =
    at_token_once settings.desk_token m _ (gives_once (NamesCode (parameter_of (path_of m.target)))
    wanted.Voucher (Refused BadCode) (code_once (parameter_of (path_of m.target))))
route_once settings seed m Takings =
    at_token_once settings.desk_token m _ (gives_once (AreDays (query_of m.target)) wanted.Takings
    (Refused BadRequest) (days_once (query_of m.target)))
route_once settings seed m Reports = at_token_once settings.gateway_token m _
    (requests_are_idempotent m Gateway _ (orders_once (λ value. Exactly (IsReportOrder value))
    (λ order. Report order.session order.bytes) m.body report_once))
route_once settings seed m Sessions =
    at_token_once settings.gateway_token m _ (λ x y is also. both x y (Ok wanted.OpenSessions) is also)
route_once settings seed m Session =
    at_token_once settings.desk_token m _ (gives_once (IsSessionNumber (parameter_of (path_of m.target)))
    wanted.Session (Refused BadRequest) (session_once (parameter_of (path_of m.target))))
route_once settings seed m LastSession = at_token_once settings.desk_token m _
    (gives_once (IsDeviceAt (query_of m.target)) wanted.LastSession (Refused BadDevice)
    (device_once (query_of m.target)))
route_once settings seed m OwnSession =
    at_guest_once m _ (λ device x y is also. both x y (Ok (wanted.OwnSession device)) is also)
route_once settings seed m SessionDetails =
    at_token_once settings.gateway_token m _ (λ x y is also. both x y (Ok wanted.OpenDetails) is also)
route_once settings seed m BatchList =
    at_token_once settings.desk_token m _ (batches_once (query_of m.target))
route_once settings seed m Batch =
    at_token_once settings.desk_token m _ (gives_once (NamesBatch (parameter_of (path_of m.target)))
    wanted.Batch (Refused UnknownBatch) (batch_once (parameter_of (path_of m.target))))
route_once settings seed m Vouchers =
    at_token_once settings.desk_token m _ (vouchers_once (query_of m.target))
route_once settings seed m Redemptions =
    at_token_once settings.desk_token m _ (gives_once (NamesCode (parameter_of (path_of m.target)))
    wanted.Redemptions (Refused BadCode) (code_once (parameter_of (path_of m.target))))

path_once : (settings : SettingsValue) (seed : List ℕ) (m : Message) (route : Option Route)
    → Once (AtPath settings seed m route)
path_once settings seed m None one other is also = is ∙ sym also
path_once settings seed m (Some route) one other is also =
    by_value (IsDenied (Method route)) (λ asked. AtRoute settings seed m asked) (denied_once (Method route))
    (route_once settings seed m) (with_method route m.method) one other is also

-- ---- the whole request

found_once : (path : List ℕ) (one other : Option Route) → FindsRoute path one
    → FindsRoute path other → one ≡ other
found_once path one other (inl is) (inl also) = is.1 ∙ sym also.1
found_once path one other (inl is) (inr also) = absurd (also.0 is.0)
found_once path one other (inr is) (inl also) = absurd (is.0 also.0)
found_once path one other (inr is) (inr also) = is.1 ∙ sym also.1

message_once : (settings : SettingsValue) (seed : List ℕ) (m : Result Message HeadError)
    (one other : Result Operation Rejection)
    → AtMessage settings seed m one → AtMessage settings seed m other → one ≡ other
message_once settings seed (Err error) one other is also = is ∙ sym also
message_once settings seed (Ok m) one other (route, finds, is) (found, finds2, also) =
    path_once settings seed m route one other is (subst (λ (x : Option Route). AtPath settings seed m x other)
    (sym (found_once _ route found finds finds2)) also)

pub checked_once : (settings : SettingsValue) (seed bytes : List ℕ) (one other : Result Operation Rejection)
    → IsChecked settings seed bytes one → IsChecked settings seed bytes other → one ≡ other
checked_once settings seed bytes one other (head, begins, is) (found, begins2, also) =
    message_once settings seed (message_in head bytes) one other is
    (subst (λ (h : Option RequestHead). AtMessage settings seed (message_in h bytes) other)
    (sym (heads_once bytes head found begins begins2)) also)
