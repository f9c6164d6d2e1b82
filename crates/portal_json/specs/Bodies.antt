-- The bodies of responses: JSON without spaces between its tokens, keys in byte order.
use Rattle.std.specs.Prelude.{ℕ, Bool, List, [], ◌∷◌, ◌++◌, Option, Some, None, option_map, map, codes}
use Rattle.serde_json.specs.Data.{Data, null, boolean, string, array}
use Rattle.serde_json.specs.View.{items_of}
use Rattle.serde_json.specs.Written.{compact_text}
use Rattle.portal_codes.specs.Code.{text_of}
use Rattle.portal_model.specs.declared.batches.BatchState.{BatchState}
use Rattle.portal_model.specs.declared.captive.Captive.{Captive}
use Rattle.portal_model.specs.declared.captive.OpenSession.{OpenSession}
use Rattle.portal_model.specs.declared.details.End.{End}
use Rattle.portal_model.specs.declared.details.End.TheVariants.{Closed, Time, Bytes}
use Rattle.portal_model.specs.declared.details.SessionDetails.{SessionDetails}
use Rattle.portal_model.specs.declared.record.Voucher.{Voucher}
use Rattle.portal_model.specs.declared.redemptions.Redemption.{Redemption}
use Rattle.portal_model.specs.declared.change.Answer.{Answer}
use Rattle.portal_model.specs.declared.change.Answer.TheVariants.{LoadAnswer, IssueAnswer, SellAnswer}
use Rattle.portal_model.specs.declared.change.Answer.TheVariants.{RedeemAnswer, ReportAnswer, RefundAnswer}
use Rattle.portal_model.specs.declared.change.Answer.TheVariants.{CloseAnswer}
use Rattle.portal_model.specs.declared.refusal.Refusal.{Refusal}
use Rattle.portal_model.specs.Device.{text_of_device}
use Rattle.portal_model.specs.Refusal.{word_of}
use Rattle.portal_json.specs.Objects.{integer, integer_or_null, KeyedValue, object_of}

-- the keys of a captive state, with the URL of the portal and, if there is one, of the venue (RFC 8908,
-- section 5)
abbrev pub captive_keys : Captive → List ℕ → Option (List ℕ) → List KeyedValue
captive_keys state portal_url venue_url =
    (codes "bytes-remaining", option_map integer state.bytes)
    ∷ (codes "can-extend-session", option_map boolean state.extend)
    ∷ (codes "captive", Some (boolean state.captive))
    ∷ (codes "seconds-remaining", option_map integer state.seconds)
    ∷ (codes "user-portal-url", Some (string portal_url))
    ∷ (codes "venue-info-url", option_map string venue_url)
    ∷ []

-- a captive state
abbrev pub captive_data : Captive → List ℕ → Option (List ℕ) → Data
captive_data state portal_url venue_url = object_of (captive_keys state portal_url venue_url)

-- the answer to a command
abbrev pub answer_data : Answer → Data
answer_data (LoadAnswer plans) = object_of ((codes "plans", Some (integer plans)) ∷ [])
answer_data (IssueAnswer batch count expires) = object_of (
    (codes "batch", Some (string batch)) ∷ (
      codes "count",
      Some (integer count),
    ) ∷ (codes "expires", Some (integer expires)) ∷ [])
answer_data (SellAnswer code price) = object_of (
    (codes "code", Some (string (text_of code))) ∷ (codes "price", Some (integer price)) ∷ [])
answer_data (RedeemAnswer extended session uses_left) = object_of (
    (codes "extended", Some (boolean extended)) ∷ (codes "session", Some (integer session))
    ∷ (codes "uses_left", Some (integer uses_left)) ∷ [])
answer_data (ReportAnswer still_open session used) = object_of (
    (codes "open", Some (boolean still_open)) ∷ (
      codes "session",
      Some (integer session),
    ) ∷ (codes "used", Some (integer used)) ∷ [])
answer_data (RefundAnswer amount code) = object_of (
    (codes "amount", Some (integer amount)) ∷ (codes "code", Some (string (text_of code))) ∷ [])
answer_data (CloseAnswer session) = object_of ((codes "session", Some (integer session)) ∷ [])

-- a refusal
abbrev pub error_data : Refusal → Data
error_data refusal = object_of ((codes "error", Some (string (word_of refusal))) ∷ [])

-- the state of a voucher; null for a time or an amount that it does not have
abbrev pub voucher_data : Voucher → Data
voucher_data v = object_of (
    (codes "batch", Some (string v.batch)) ∷ (codes "code", Some (string (text_of v.code)))
    ∷ (codes "expires", Some (integer v.expires))
    ∷ (codes "plan", Some (string v.plan.id)) ∷ (codes "redeemed", Some (integer v.redeemed))
    ∷ (codes "refund", Some (integer_or_null v.refund))
    ∷ (codes "sold", Some (integer_or_null v.sold)) ∷ (codes "uses", Some (integer v.plan.uses)) ∷ [])

-- the keys of an open session
abbrev pub session_keys : OpenSession → List KeyedValue
session_keys s =
    (codes "bytes-remaining", option_map integer s.bytes)
    ∷ (codes "device", Some (string (text_of_device s.device)))
    ∷ (codes "seconds-remaining", option_map integer s.seconds)
    ∷ (codes "session", Some (integer s.number)) ∷ []

-- an open session
abbrev pub session_data : OpenSession → Data
session_data s = object_of (session_keys s)

-- a list of these entries, in this order
abbrev pub array_of : {A : Type 0} → (A → Data) → List A → Data
array_of shown entries = array (items_of (map shown entries))

-- an object with a list of sessions, in this order
abbrev pub sessions_list : {A : Type 0} → (A → Data) → List A → Data
sessions_list shown sessions = object_of ((codes "sessions", Some (array_of shown sessions)) ∷ [])

-- open sessions, in the order listed
abbrev pub sessions_data : List OpenSession → Data
sessions_data sessions = sessions_list session_data sessions

-- the word for the reason for which a session has ended
abbrev pub word_of_end : End → List ℕ
word_of_end Closed = codes "closed"
word_of_end Time = codes "time"
word_of_end Bytes = codes "bytes"

-- that word, or null while the session is open
abbrev pub end_or_null : Option End → Data
end_or_null None = null
end_or_null (Some end) = string (word_of_end end)

-- the keys of the details of a session, with the device that is shown, if one is
abbrev pub details_keys : Option (List ℕ) → SessionDetails → List KeyedValue
details_keys device s =
    (codes "at", option_map integer s.at)
    ∷ (codes "bytes-remaining", option_map integer s.bytes)
    ∷ (codes "device", option_map string device)
    ∷ (codes "ended", Some (end_or_null s.ended))
    ∷ (codes "opened", Some (integer s.opened))
    ∷ (codes "plan", Some (string s.plan))
    ∷ (codes "seconds-remaining", option_map integer s.seconds)
    ∷ (codes "session", Some (integer s.number))
    ∷ (codes "used", Some (integer s.used)) ∷ []

-- the details of a session, with its device
abbrev pub details_data : SessionDetails → Data
details_data s = object_of (details_keys (Some (text_of_device s.device)) s)

-- the same without the device, for the device itself
abbrev pub own_details_data : SessionDetails → Data
own_details_data s = object_of (details_keys None s)

-- the keys of an open session in the list of details
abbrev pub open_details_keys : SessionDetails → List KeyedValue
open_details_keys s =
    (codes "bytes-remaining", option_map integer s.bytes)
    ∷ (codes "device", Some (string (text_of_device s.device)))
    ∷ (codes "opened", Some (integer s.opened))
    ∷ (codes "plan", Some (string s.plan))
    ∷ (codes "seconds-remaining", option_map integer s.seconds)
    ∷ (codes "session", Some (integer s.number)) ∷ []

-- an open session in that list
abbrev pub open_details_data : SessionDetails → Data
open_details_data s = object_of (open_details_keys s)

-- the details of open sessions, in the order listed
abbrev pub details_list_data : List SessionDetails → Data
details_list_data sessions = sessions_list open_details_data sessions

-- the keys of a batch: its size, times and plan, and how many of its vouchers were refunded, sold and used up
abbrev pub batch_keys : BatchState → List KeyedValue
batch_keys s =
    (codes "batch", Some (string s.batch.id)) ∷ (codes "count", Some (integer s.batch.size))
    ∷ (codes "expires", Some (integer s.batch.expires)) ∷ (codes "issued", Some (integer s.batch.issued))
    ∷ (codes "plan", Some (string s.batch.plan)) ∷ (codes "refunded", Some (integer s.refunded))
    ∷ (codes "sold", Some (integer s.sold)) ∷ (codes "used-up", Some (integer s.used_up)) ∷ []

-- a batch
abbrev pub batch_state_data : BatchState → Data
batch_state_data s = object_of (batch_keys s)

-- batches, in the order listed, and whether there are more
abbrev pub batches_data : List BatchState → Bool → Data
batches_data states more = object_of (
    (codes "batches", Some (array_of batch_state_data states)) ∷ (codes "more", Some (boolean more)) ∷ [])

-- a voucher in its batch; null for a time or an amount that it does not have
abbrev pub batch_voucher_data : Voucher → Data
batch_voucher_data v = object_of (
    (codes "code", Some (string (text_of v.code))) ∷ (codes "redeemed", Some (integer v.redeemed))
    ∷ (codes "refund", Some (integer_or_null v.refund)) ∷ (codes "sold", Some (integer_or_null v.sold)) ∷ [])

-- a batch with its vouchers, in the order listed
abbrev pub batch_data : BatchState → List Voucher → Data
batch_data s vouchers =
    object_of (batch_keys s ++ (codes "vouchers", Some (array_of batch_voucher_data vouchers)) ∷ [])

-- vouchers, in the order listed, and whether there are more
abbrev pub vouchers_data : List Voucher → Bool → Data
vouchers_data vouchers more = object_of (
    (codes "more", Some (boolean more)) ∷ (codes "vouchers", Some (array_of voucher_data vouchers)) ∷ [])

-- a redemption
abbrev pub redemption_data : Redemption → Data
redemption_data r = object_of (
    (codes "at", Some (integer r.at)) ∷ (codes "device", Some (string (text_of_device r.device)))
    ∷ (codes "extended", Some (boolean r.extended)) ∷ (codes "open", Some (boolean r.is_open))
    ∷ (codes "session", Some (integer r.session)) ∷ [])

-- redemptions, in the order listed, and whether there are more
abbrev pub redemptions_data : List Redemption → Bool → Data
redemptions_data redemptions more = object_of (
    (codes "more", Some (boolean more))
    ∷ (codes "redemptions", Some (array_of redemption_data redemptions)) ∷ [])

-- the text of a captive state
unfoldable pub captive_body : Captive → List ℕ → Option (List ℕ) → List ℕ
captive_body state portal_url venue_url = compact_text (captive_data state portal_url venue_url)

-- the text of the answer to a command
unfoldable pub answer_body : Answer → List ℕ
answer_body answer = compact_text (answer_data answer)

-- the text of a refusal
unfoldable pub error_body : Refusal → List ℕ
error_body refusal = compact_text (error_data refusal)

-- the text of a voucher's state
unfoldable pub voucher_body : Voucher → List ℕ
voucher_body voucher = compact_text (voucher_data voucher)

-- the text of open sessions
unfoldable pub sessions_body : List OpenSession → List ℕ
sessions_body sessions = compact_text (sessions_data sessions)

-- the text of the details of a session
unfoldable pub details_body : SessionDetails → List ℕ
details_body s = compact_text (details_data s)

-- the text of the details of the session of the device that asks
unfoldable pub own_details_body : SessionDetails → List ℕ
own_details_body s = compact_text (own_details_data s)

-- the text of the details of open sessions
unfoldable pub open_details_body : List SessionDetails → List ℕ
open_details_body sessions = compact_text (details_list_data sessions)

-- the text of batches, and of whether there are more
unfoldable pub batches_body : List BatchState → Bool → List ℕ
batches_body states more = compact_text (batches_data states more)

-- the text of a batch with its vouchers
unfoldable pub batch_body : BatchState → List Voucher → List ℕ
batch_body s vouchers = compact_text (batch_data s vouchers)

-- the text of vouchers, and of whether there are more
unfoldable pub vouchers_body : List Voucher → Bool → List ℕ
vouchers_body vouchers more = compact_text (vouchers_data vouchers more)

-- the text of redemptions, and of whether there are more
unfoldable pub redemptions_body : List Redemption → Bool → List ℕ
redemptions_body redemptions more = compact_text (redemptions_data redemptions more)
