-- The values of a key, field by field.
use Rattle.portal_http_routes.proofs.Common.{◌≡◌, ℕ, ◌+◌, ◌<◌, Bool, true, false, cond, ◌==◌, List, [], ◌∷◌}
use Rattle.portal_http_routes.proofs.Common.{◌++◌, length, map, filter, Option, Some, None, refl, sym, ap}
use Rattle.portal_http_routes.proofs.Common.{◌∙◌, arith, bytes_eq, is_some, option_map, unwrap_or, Bor}
use Rattle.portal_http_routes.proofs.Common.{false≢true, ampersand, equals_sign, put_first, key_of, value_of}
use Rattle.portal_http_routes.proofs.Common.{only_of}
use Rattle.portal_http_routes.specs.Targets.{before, after}
use Rattle.portal_http_routes.specs.Queries.{fields_of, values_of}

-- the fields behind the first
rest_fields : Option (List ℕ) → List (List ℕ)
rest_fields None = []
rest_fields (Some rest) = fields_of rest

-- the first field, and those behind it
cut : (query : List ℕ) → fields_of query ≡ before ampersand query ∷ rest_fields (after ampersand query)
unfolding fields_of before after rest_fields
cut [] = refl
cut (b ∷ rest) = by (b == ampersand) (cut rest)
  where
    by : (test : Bool) → fields_of rest ≡ before ampersand rest ∷ rest_fields (after ampersand rest)
        → cond test ([] ∷ fields_of rest) (put_first b (fields_of rest))
        ≡ cond test [] (b ∷ before ampersand rest)
        ∷ rest_fields (cond test (Some rest) (after ampersand rest))
    by true behind = refl
    by false behind = ap (put_first b) behind

-- the values of a key in the fields that are left
abbrev pub values_left : List ℕ → Option (List ℕ) → List (List ℕ)
values_left key None = []
values_left key (Some query) = values_of key query

left_is : (key : List ℕ) (left : Option (List ℕ))
    → map value_of (filter (λ field. bytes_eq (key_of field) key) (rest_fields left)) ≡ values_left key left
unfolding values_of rest_fields
left_is key None = refl
left_is key (Some query) = refl

picked : (test : Bool) (field : List ℕ) (rest : List (List ℕ))
    → map value_of (cond test (field ∷ rest) rest)
    ≡ cond test (value_of field ∷ map value_of rest) (map value_of rest)
picked true field rest = refl
picked false field rest = refl

-- the first field has the key, or not
step : (key query : List ℕ) (test : Bool) → bytes_eq (key_of (before ampersand query)) key ≡ test
    → values_of key query
    ≡ cond test (value_of (before ampersand query) ∷ values_left key (after ampersand query))
    (values_left key (after ampersand query))
unfolding values_of
step key query test e =
    let has = λ (field : List ℕ). bytes_eq (key_of field) key in
    let rest = rest_fields (after ampersand query) in
    ap (λ (fields : List (List ℕ)). map value_of (filter has fields)) (cut query)
    ∙ picked (has (before ampersand query)) (before ampersand query) (filter has rest)
    ∙ ap (λ (b : Bool). cond b (value_of (before ampersand query) ∷ map value_of (filter has rest))
    (map value_of (filter has rest))) e
    ∙ ap (λ (values : List (List ℕ)). cond test (value_of (before ampersand query) ∷ values) values)
    (left_is key (after ampersand query))

-- ---- what was found

-- the values that were found
abbrev pub seen : Option (List ℕ) → List (List ℕ)
seen None = []
seen (Some value) = value ∷ []

-- the first value
pub first : (key query : List ℕ) (all : List (List ℕ)) → bytes_eq (key_of (before ampersand query)) key ≡ true
    → values_of key query ≡ all
    → value_of (before ampersand query) ∷ values_left key (after ampersand query) ≡ all
first key query all e total = sym (step key query true e) ∙ total

-- one value more
pub again : (key query value : List ℕ) (all : List (List ℕ))
    → bytes_eq (key_of (before ampersand query)) key ≡ true
    → value ∷ values_of key query ≡ all → only_of all ≡ None
again key query value all e total =
    ap only_of (sym total ∙ ap (λ (values : List (List ℕ)). value ∷ values) (step key query true e))

-- a field of another key
pub other : (key query : List ℕ) (before_it all : List (List ℕ))
    → bytes_eq (key_of (before ampersand query)) key ≡ false
    → before_it ++ values_of key query ≡ all → before_it ++ values_left key (after ampersand query) ≡ all
other key query before_it all e total =
    ap (λ (values : List (List ℕ)). before_it ++ values) (sym (step key query false e)) ∙ total

-- ---- the borrowed parts

-- the bytes of a borrow, where there is one
abbrev pub now_of : Option (Bor (List ℕ)) → Option (List ℕ)
now_of found = option_map (λ bytes. bytes.now) found

-- nothing was found before
pub none_before : (found : Option (Bor (List ℕ))) (rest all : List (List ℕ)) → is_some found ≡ false
    → seen (now_of found) ++ rest ≡ all → rest ≡ all
none_before None rest all none total = total
none_before (Some value) rest all none total = absurd (false≢true (sym none))

-- a value was found before
pub one_before : (found : Option (Bor (List ℕ))) (key query : List ℕ) (all : List (List ℕ))
    → is_some found ≡ true
    → bytes_eq (key_of (before ampersand query)) key ≡ true
    → seen (now_of found) ++ values_of key query ≡ all → None ≡ only_of all
one_before None key query all some e total = absurd (false≢true some)
one_before (Some value) key query all some e total = sym (again key query value.now all e total)

-- the value, or nothing
pub or_empty : (value : Option (Bor (List ℕ))) (empty out : Bor (List ℕ)) (whole : Option (List ℕ))
    → out ≡ unwrap_or value empty → empty.now ≡ []
    → now_of value ≡ whole → out.now ≡ unwrap_or whole []
or_empty None empty out whole e is same =
    ap (λ (b : Bor (List ℕ)). b.now) e ∙ is ∙ ap (λ (o : Option (List ℕ)). unwrap_or o []) same
or_empty (Some value) empty out whole e is same =
    ap (λ (b : Bor (List ℕ)). b.now) e ∙ ap (λ (o : Option (List ℕ)). unwrap_or o []) same

-- the key that was compared is that of the first field
pub compared : (key query field name : List ℕ) (result test : Bool) → field ≡ before ampersand query
    → name ≡ before equals_sign field
    → result ≡ bytes_eq name key → result ≡ test → bytes_eq (key_of (before ampersand query)) key ≡ test
compared key query field name result test front named same is =
    ap (λ (f : List ℕ). bytes_eq (before equals_sign f) key) (sym front)
    ∙ ap (λ (n : List ℕ). bytes_eq n key) (sym named) ∙ sym same ∙ is

-- ---- fewer bytes are left

-- the bytes that are left
abbrev pub bytes_left : Option (List ℕ) → ℕ
bytes_left None = 0
bytes_left (Some query) = length query + 1

pub fewer : (separator : ℕ) (query : List ℕ) → bytes_left (after separator query) < length query + 1
unfolding after
fewer separator [] = omega arith
fewer separator (b ∷ rest) = by (b == separator) (fewer separator rest)
  where
    by : (test : Bool) → bytes_left (after separator rest) < length rest + 1
        → bytes_left (cond test (Some rest) (after separator rest)) < length (b ∷ rest) + 1
    by true behind = omega arith
    by false behind = omega (arith, behind)
