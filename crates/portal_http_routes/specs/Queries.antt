-- The query of a target: its fields, each a key and a value.
use Rattle.std.specs.Prelude.{ℕ, Bool, true, false, List, [], ◌∷◌, ◌==◌, if◌then◌else◌, filter, map, Option}
use Rattle.std.specs.Prelude.{Some, None, unwrap_or, bytes_eq}
use Rattle.portal_http_routes.specs.Targets.{before, after}

-- the byte between the fields of a query
abbrev pub ampersand : ℕ
ampersand = 38

-- the byte that ends a key
abbrev pub equals_sign : ℕ
equals_sign = 61

-- the fields with one byte more at the start of the first
abbrev pub put_first : ℕ → List (List ℕ) → List (List ℕ)
put_first b [] = (b ∷ []) ∷ []
put_first b (field ∷ rest) = (b ∷ field) ∷ rest

-- the fields of a query, which is split at each ampersand
unfoldable pub fields_of : List ℕ → List (List ℕ)
fields_of [] = [] ∷ []
fields_of (b ∷ rest) = if b == ampersand then [] ∷ fields_of rest else put_first b (fields_of rest)

-- the key of a field: the bytes before its first equals sign
abbrev pub key_of : List ℕ → List ℕ
key_of field = before equals_sign field

-- the value of a field: the bytes after that sign; empty if there is no such sign
abbrev pub value_of : List ℕ → List ℕ
value_of field = unwrap_or (after equals_sign field) []

-- the values of a key in a query
unfoldable pub values_of : List ℕ → List ℕ → List (List ℕ)
values_of key query = map value_of (filter (λ field. bytes_eq (key_of field) key) (fields_of query))

-- the value, if there is exactly one
abbrev pub only_of : List (List ℕ) → Option (List ℕ)
only_of [] = None
only_of (value ∷ []) = Some value
only_of (value ∷ other ∷ rest) = None

-- whether there is a value
abbrev pub is_any : List (List ℕ) → Bool
is_any [] = false
is_any (value ∷ rest) = true
