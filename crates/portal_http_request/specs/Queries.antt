-- The values in a path and in a query.
use Rattle.std.specs.Prelude.{◌≡◌, ℕ, ◌<◌, ◌≤◌, ◌^◌, ℤ, List, [], ◌∷◌, Option, Some, None, codes}
use Rattle.std.specs.Prelude.{option_and_then, IsUtf8, ⊤}
use Rattle.std.specs.Str.Parse.{IsNumeral, digits_value}
use Rattle.portal_codes.specs.Code.{Spells}
use Rattle.portal_model.specs.Batches.{most_batches}
use Rattle.portal_model.specs.Span.{Span, IsSpan}
use Rattle.portal_model.specs.IdText.{IsIdText}
use Rattle.portal_files.specs.DayText.{IsDayText}
use Rattle.portal_http_routes.specs.Queries.{only_of, values_of}
use Rattle.portal_http_request.specs.Callers.{NamesDevice}

-- the text is that id
abbrev pub NamesBatch : List ℕ → List ℕ → Type 0
NamesBatch text id = IsUtf8 text × IsIdText text × (id ≡ text)

-- the text spells that code
abbrev pub NamesCode : List ℕ → List ℕ → Type 0
NamesCode text code = IsUtf8 text × Spells text code

-- the text is that number of a session: decimal digits alone, with a value below 2^63
abbrev pub IsSessionNumber : List ℕ → ℕ → Type 0
IsSessionNumber text n = IsNumeral 10 text × (digits_value 10 text < 2 ^ 63) × (n ≡ digits_value 10 text)

-- the day under a key of a query, if the key is in the query exactly once
abbrev pub IsDayAt : List ℕ → Option (List ℕ) → ℤ → Type 0
IsDayAt key query day =
    (text : List ℕ) × (option_and_then (λ q. only_of (values_of key q)) query ≡ Some text)
    × IsUtf8 text × IsDayText text day

-- The days from `from` to `to`, both in the range, which is in order and at most 366 days long. Other keys
-- are ignored.
pub record AreDays (query : Option (List ℕ)) (range : Span) : Type 0 where
  pub from : IsDayAt (codes "from") query range.first
  pub to : IsDayAt (codes "to") query range.last
  pub span : IsSpan range.first range.last

-- The device under `device` in a query, if the key is in the query exactly once. Other keys are ignored.
abbrev pub IsDeviceAt : Option (List ℕ) → List ℕ → Type 0
IsDeviceAt query device =
    (text : List ℕ) × (option_and_then (λ q. only_of (values_of (codes "device") q)) query ≡ Some text)
    × NamesDevice text device

-- the values under a key of a query; none, if there is no query
abbrev pub values_at : List ℕ → Option (List ℕ) → List (List ℕ)
values_at key None = []
values_at key (Some query) = values_of key query

-- there is more than one value
abbrev pub IsRepeated : List (List ℕ) → Type 0
IsRepeated [] = ⊥
IsRepeated (value ∷ []) = ⊥
IsRepeated (value ∷ other ∷ rest) = ⊤

-- the text is that number of batches: decimal digits alone, with a value from 1 to 20
abbrev pub IsLimit : List ℕ → ℕ → Type 0
IsLimit text n = IsSessionNumber text n × (1 ≤ n) × (n ≤ most_batches)

-- How many batches are listed at most: 20, if no number is given; none, if a text is no such number, or if
-- there are more.
abbrev pub LimitAmong : List (List ℕ) → Option ℕ → Type 0
LimitAmong [] limit = limit ≡ Some most_batches
LimitAmong (text ∷ []) None = (n : ℕ) → ¬ (IsLimit text n)
LimitAmong (text ∷ []) (Some n) = IsLimit text n
LimitAmong (text ∷ other ∷ rest) limit = limit ≡ None
