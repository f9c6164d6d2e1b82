-- The fields of a head, by name.
use Rattle.std.specs.Prelude.{ℕ, List, [], ◌∷◌, map, filter, Bool, nat_eq, Option, Some, None, Result, Ok}
use Rattle.std.specs.Prelude.{Err}
use Rattle.std.specs.Char.{to_ascii_lowercase}
use Rattle.std.specs.Cmp.Lexicographic.{pointwise}
use Rattle.portal_http_message.specs.declared.errors.HeadError.{HeadError}
use Rattle.portal_http_message.specs.declared.errors.HeadError.TheVariants.{BadRequest}

-- the name of each field, and its value without the spaces and tabs around it
abbrev pub FieldList : Type 0
FieldList = List (List ℕ × List ℕ)

-- the names are equal without regard to case
abbrev pub is_same_name : List ℕ → List ℕ → Bool
is_same_name name other = pointwise nat_eq (map to_ascii_lowercase name) (map to_ascii_lowercase other)

-- the values of the fields of that name
unfoldable pub values_of : List ℕ → FieldList → List (List ℕ)
values_of name fields = map (λ field. field.1) (filter (λ field. is_same_name field.0 name) fields)

-- the value, if there is exactly one
abbrev pub only_of : List (List ℕ) → Option (List ℕ)
only_of [] = None
only_of (value ∷ []) = Some value
only_of (value ∷ other ∷ rest) = None

-- the value, or none; more than one value are an error
abbrev pub at_most_one_of : List (List ℕ) → Result (Option (List ℕ)) HeadError
at_most_one_of [] = Ok None
at_most_one_of (value ∷ []) = Ok (Some value)
at_most_one_of (value ∷ other ∷ rest) = Err BadRequest
