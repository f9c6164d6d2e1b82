-- The tests of Host, and the length of the body, by the fields of the head.
use Rattle.std.specs.Prelude.{ℕ, List, [], ◌∷◌, length, Bool, true, false, ◌&&◌, ◌==◌, not, nat_lt}
use Rattle.std.specs.Prelude.{if◌then◌else◌, Result, Ok, Err, codes}
use Rattle.std.specs.List.{list_all}
use Rattle.std.specs.Char.{is_ascii_digit}
use Rattle.std.specs.Str.Parse.{digits_value}
use Rattle.portal_http_message.specs.Limits.{body_limit}
use Rattle.portal_http_message.specs.declared.errors.HeadError.{HeadError}
use Rattle.portal_http_message.specs.declared.errors.HeadError.TheVariants.{BadRequest, TooLarge}
use Rattle.portal_http_message.specs.declared.errors.HeadError.TheVariants.{NotSupported}
use Rattle.portal_http_message.specs.Fields.{FieldList, values_of}

-- by the values of Host: HTTP/1.1 has exactly one, HTTP/1.0 at most one
abbrev pub is_host_count_valid : ℕ → List (List ℕ) → Bool
is_host_count_valid minor [] = minor == 0
is_host_count_valid minor (host ∷ []) = true
is_host_count_valid minor (host ∷ other ∷ rest) = false

-- there is such a field
abbrev pub has_any : List (List ℕ) → Bool
has_any [] = false
has_any (value ∷ rest) = true

-- one or more digits
abbrev pub is_number : List ℕ → Bool
is_number value = not (length value == 0) && list_all is_ascii_digit value

-- the length in a value of Content-Length
unfoldable pub length_in : List ℕ → Result ℕ HeadError
length_in value =
    if not (is_number value) then Err BadRequest
    else (if nat_lt body_limit (digits_value 10 value) then Err TooLarge else Ok (digits_value 10 value))

-- by the values of Content-Length: 0 without one, an error for more than one
abbrev pub content_length : List (List ℕ) → Result ℕ HeadError
content_length [] = Ok 0
content_length (value ∷ []) = length_in value
content_length (value ∷ other ∷ rest) = Err BadRequest

-- the declared length of the body, by the minor version and the fields
unfoldable pub declared_length : ℕ → FieldList → Result ℕ HeadError
declared_length minor fields =
    if not (is_host_count_valid minor (values_of (codes "host") fields)) then Err BadRequest
    else (if has_any (values_of (codes "transfer-encoding") fields) then Err NotSupported
    else content_length (values_of (codes "content-length") fields))
