-- The days of a query.
use Rattle.portal_http_request.proofs.Common.{◌≡◌, ℕ, ℤ, true, false, List, Option, Some, None, subst, sym}
use Rattle.portal_http_request.proofs.Common.{◌∙◌, codes, IsSome, option_map, option_and_then, Span, IsSpan}
use Rattle.portal_http_request.proofs.Common.{IsDayAt, AreDays}
use Rattle.std.specs.Borrow.{Bor}
use Rattle.portal_files.specs.DayText.{IsDayText}
use Rattle.portal_files.proofs.DateTexts.{names-days}
use Rattle.portal_http_routes.specs.Queries.{only_of, values_of}

pub day_once : (key : List ℕ) (query : Option (List ℕ)) (day other : ℤ) → IsDayAt key query day
    → IsDayAt key query other → day ≡ other
day_once key query day other (text, at, utf8, is) (text2, at2, utf82, also) =
    let found = sym at ∙ at2 in
    let same : text ≡ text2 = cc in (names-days text text2 day other is also).0 same

-- the text under the key is no day
pub no_day : (key : List ℕ) (query : Option (Bor (List ℕ))) (q value text : Bor (List ℕ))
    (found : Option (Bor (List ℕ)))
    → query ≡ Some q → option_map (λ v. v.now) found ≡ only_of (values_of key q.now)
    → found ≡ Some value → text.now ≡ value.now
    → ((day : ℤ) → IsDayText text.now day → ⊥) → (day : ℤ)
    → IsDayAt key (option_map (λ v. v.now) query) day → ⊥
no_day key query q value text found is_query is_found is_value same none day (t, at, utf8, named) =
    let there : only_of (values_of key q.now) ≡ Some t =
    subst (λ (o : Option (Bor (List ℕ))).
    option_and_then (λ v. only_of (values_of key v)) (option_map (λ v. v.now) o) ≡ Some t) is_query at in
    let shown : option_map (λ v. v.now) (Some value) ≡ Some t =
    subst (λ (o : Option (Bor (List ℕ))). option_map (λ v. v.now) o ≡ Some t) is_value (is_found ∙ there) in
    let is : t ≡ text.now = sym (same ∙ some_is value.now t shown) in
    none day (subst (λ (x : List ℕ). IsDayText x day) is named)
  where
    some_is : (a b : List ℕ) → ◌≡◌ {A = Option (List ℕ)} (Some a) (Some b) → a ≡ b
    some_is a b e = cc

-- there are two days, and they are no range
pub no_days : (query : Option (List ℕ)) (from to : ℤ) → IsDayAt (codes "from") query from
    → IsDayAt (codes "to") query to → (IsSpan from to → ⊥)
    → (range : Span) → AreDays query range → ⊥
no_days query from to first last none range is =
    none (subst (λ (x : ℤ). IsSpan x to) (day_once (codes "from") query range.first from is.from first)
    (subst (λ (y : ℤ). IsSpan range.first y) (day_once (codes "to") query range.last to is.to last) is.span))

-- nothing is there
pub not_there : {A : Type 0} (o : Option A) → o ≡ None → IsSome o → ⊥
not_there o none there = apart (subst (λ x. IsSome x) none there)
  where
    apart : false ≡ true → ⊥
    apart e = cc
