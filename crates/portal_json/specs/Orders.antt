-- The meaning of the bodies of requests. A body is one JSON text in UTF-8 (RFC 8259). Of two members with
-- one key the last one counts, and members under other keys are ignored.
use Rattle.std.specs.Prelude.{◌≡◌, ℕ, ◌≤◌, ◌^◌, ◌⊎◌, nat_lt, if◌then◌else◌, List, codes, Option, Some, None}
use Rattle.std.specs.Prelude.{MatchOption, option_and_then, Result, Err, MatchResult, IsUtf8}
use Rattle.serde_json.specs.Data.{Data}
use Rattle.serde_json.specs.Read.{read}
use Rattle.serde_json.specs.Find.{get, as_str, as_number, as_u64}
use Rattle.portal_codes.specs.Code.{Spells}
use Rattle.portal_model.specs.IdText.{IsIdText}
use Rattle.portal_model.specs.declared.refusal.Refusal.{Refusal}
use Rattle.portal_model.specs.declared.refusal.Refusal.TheVariants.{BadRequest, BadCode, NoMemory}
use Rattle.portal_json.specs.declared.orders.BatchOrder.{BatchOrder}
use Rattle.portal_json.specs.declared.orders.ReportOrder.{ReportOrder}

-- the body is UTF-8 and JSON, and that is its value
abbrev pub ReadsJson : List ℕ → Data → Type 0
ReadsJson body value = IsUtf8 body × (read body ≡ Some value)

-- the text under a key, if the value is an object with a text there
abbrev pub text_at : List ℕ → Data → Option (List ℕ)
text_at key value = option_and_then as_str (get key value)

-- an integer of at most 9,223,372,036,854,775,807
abbrev pub signed_range : ℕ → Option ℕ
signed_range n = if nat_lt n (2 ^ 63) then Some n else None

-- the integer under a key, if there is one in that range; a number with a fraction or an exponent is none
abbrev pub number_at : List ℕ → Data → Option ℕ
number_at key value =
    option_and_then signed_range (option_and_then as_u64 (option_and_then as_number (get key value)))

-- the order in a value, or bad_request exactly if it has none
abbrev pub Exactly : {A : Type 0} → (A → Type 0) → Result A Refusal → Type 0
Exactly {A} IsOrder result =
    MatchResult result IsOrder (λ r. (r ≡ BadRequest) × ((order : A) → ¬ (IsOrder order)))

-- the code that a text spells, or bad_code exactly if it spells none
abbrev pub CodeText : List ℕ → Result (List ℕ) Refusal → Type 0
CodeText text result =
    MatchResult result (Spells text) (λ r. (r ≡ BadCode) × ((code : List ℕ) → ¬ (Spells text code)))

-- the code under `code`, or bad_request if there is no text there
abbrev pub CodeOrder : Data → Result (List ℕ) Refusal → Type 0
CodeOrder value result =
    MatchOption (text_at (codes "code") value) (result ≡ Err BadRequest) (λ text. CodeText text result)

-- The value orders that batch: two ids, and a count of 1 to 500.
pub record IsBatchOrder (value : Data) (order : BatchOrder) : Type 0 where
  pub batch : text_at (codes "batch") value ≡ Some order.batch
  pub batch_id : IsIdText order.batch
  pub plan : text_at (codes "plan") value ≡ Some order.plan
  pub plan_id : IsIdText order.plan
  pub count : number_at (codes "count") value ≡ Some order.count
  pub least : 1 ≤ order.count
  pub most : order.count ≤ 500

-- The value reports those bytes for that session.
pub record IsReportOrder (value : Data) (order : ReportOrder) : Type 0 where
  pub session : number_at (codes "session") value ≡ Some order.session
  pub bytes : number_at (codes "bytes") value ≡ Some order.bytes

-- the value closes that session
abbrev pub IsCloseOrder : Data → ℕ → Type 0
IsCloseOrder value session = number_at (codes "session") value ≡ Some session

-- the result for the body's value; or bad_request if the body has none; or out of memory
abbrev pub FromBody : {A : Type 0} → (Data → Result A Refusal → Type 0) → List ℕ → Result A Refusal → Type 0
FromBody Of body result =
    ((value : Data) × ReadsJson body value × Of value result)
    ⊎ ((((value : Data) → ¬ (ReadsJson body value)) × (result ≡ Err BadRequest)) ⊎ (result ≡ Err NoMemory))
