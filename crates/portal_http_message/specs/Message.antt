-- The message in the bytes of a request.
use Rattle.std.specs.Prelude.{◌≡◌, ℕ, ◌≤◌, List, length, take, drop, map, nat_lt, if◌then◌else◌, Option, Some}
use Rattle.std.specs.Prelude.{None, option_map, Result, Ok, Err, codes}
use Rattle.std.specs.Borrow.{Bor}
use Rattle.httparse.specs.Grammar.{RequestHead, ReadsRequest, print_request}
use Rattle.httparse.specs.Spans.{name_and_value}
use Rattle.portal_http_message.specs.Limits.{head_limit, field_limit}
use Rattle.portal_http_message.specs.declared.errors.HeadError.{HeadError}
use Rattle.portal_http_message.specs.declared.errors.HeadError.TheVariants.{BadRequest}
use Rattle.portal_http_message.specs.declared.head.ParsedRequest.{ParsedRequest}
use Rattle.portal_http_message.specs.Fields.{FieldList, values_of, only_of, at_most_one_of}
use Rattle.portal_http_message.specs.Lengths.{declared_length}

-- the bytes begin with that head, which has at most `field_limit` fields
abbrev pub BeginsWith : List ℕ → RequestHead → Type 0
BeginsWith bytes head = (rest : List ℕ) × ReadsRequest bytes head rest × (length head.fields ≤ field_limit)

-- the head that the first `head_limit` bytes begin with, or none
abbrev pub HeadOf : List ℕ → Option RequestHead → Type 0
HeadOf bytes None = (head : RequestHead) → ¬ (BeginsWith (take head_limit bytes) head)
HeadOf bytes (Some head) = BeginsWith (take head_limit bytes) head

-- the names and the values of a head's fields
abbrev pub fields_of : RequestHead → FieldList
fields_of head = map name_and_value head.fields

-- the bytes that follow a head
abbrev pub bytes_after : RequestHead → List ℕ → List ℕ
bytes_after head bytes = drop (length (print_request head)) bytes

-- the declared length of the body, or the error in the fields
abbrev pub length_of : RequestHead → Result ℕ HeadError
length_of head = declared_length head.minor (fields_of head)

-- the body of the declared length in the bytes after the head
abbrev pub body_after : Result ℕ HeadError → List ℕ → Result (List ℕ) HeadError
body_after (Err error) after = Err error
body_after (Ok declared) after =
    if nat_lt (length after) declared then Err BadRequest else Ok (take declared after)

-- The message of a request.
pub record Message : Type 0 where
  pub method : List ℕ
  pub target : List ℕ
  -- the values of Portal-Token and of Portal-Device, each if there is exactly one such field
  pub token : Option (List ℕ)
  pub device : Option (List ℕ)
  -- the value of Portal-Request, the idempotency key, or none; an error if there is more than one such
  -- field
  pub number : Result (Option (List ℕ)) HeadError
  pub body : List ℕ

-- the message of a request with that head and that body, or the error of its body
abbrev pub message_with : RequestHead → Result (List ℕ) HeadError → Result Message HeadError
message_with head (Err error) = Err error
message_with head (Ok body) = Ok (record {
  method = head.method;
  target = head.target;
  token = only_of (values_of (codes "portal-token") (fields_of head));
  device = only_of (values_of (codes "portal-device") (fields_of head));
  number = at_most_one_of (values_of (codes "portal-request") (fields_of head));
  body = body;
})

-- the message in bytes that begin with that head
abbrev pub message_in : Option RequestHead → List ℕ → Result Message HeadError
message_in None bytes = Err BadRequest
message_in (Some head) bytes = message_with head (body_after (length_of head) (bytes_after head bytes))

-- the value in place of the borrow
abbrev pub value_in : Result (Option (Bor (List ℕ))) HeadError → Result (Option (List ℕ)) HeadError
value_in (Err error) = Err error
value_in (Ok value) = Ok (option_map (λ v. v.now) value)

-- the message in place of the borrowed parts
abbrev pub message_of_request : ParsedRequest → Message
message_of_request request = record {
  method = request.method.now;
  target = request.target.now;
  token = option_map (λ value. value.now) request.token;
  device = option_map (λ value. value.now) request.device;
  number = value_in request.number;
  body = request.body.now;
}

-- the same, or the error
abbrev pub message_of : Result ParsedRequest HeadError → Result Message HeadError
message_of (Err error) = Err error
message_of (Ok request) = Ok (message_of_request request)

-- the bytes parse to that result, by the head that they begin with
abbrev pub ParsesTo : List ℕ → Result ParsedRequest HeadError → Type 0
ParsesTo bytes result =
    (head : Option RequestHead) × HeadOf bytes head × (message_of result ≡ message_in head bytes)

-- the bytes in place of the borrow
abbrev pub bytes_of : Result (Bor (List ℕ)) HeadError → Result (List ℕ) HeadError
bytes_of (Err error) = Err error
bytes_of (Ok body) = Ok body.now
