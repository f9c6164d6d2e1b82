-- The rows of portal_requests as they are found and read.
use Rattle.std.specs.Prelude.{ℕ, ◌<◌, ◌^◌, List, [], ◌∷◌, option_map, IfSome}
use Rattle.std.specs.Str.{IsUtf8}
use Rattle.std.specs.String.{string_bytes}
use Rattle.portal_ledger.specs.RequestRow.{RequestRow, cells}
use Rattle.sqlite.specs.Order.{Row}
use Rattle.sqlite.specs.declared.types.Value.TheVariants.{Text}
use Rattle.portal_tables_rows.specs.declared.stored_requests.RequestKey.{RequestKey}
use Rattle.portal_tables_rows.specs.declared.stored_requests.StoredRequest.{StoredRequest}

-- the caller and the idempotency key are the table's key together
abbrev pub key_of : RequestRow → List ℕ × List ℕ
key_of k = (k.caller, k.number)

-- the key as SELECT gives it
abbrev pub key_cells : List ℕ × List ℕ → Row
key_cells key = Text key.0 ∷ Text key.1 ∷ []

-- both are UTF-8
abbrev pub AreTexts : List ℕ × List ℕ → Type 0
AreTexts key = IsUtf8 key.0 × IsUtf8 key.1

-- a row that is read: its texts are UTF-8, and the kind of its answer is below 2^32
pub record IsReadable (k : RequestRow) : Type 0 where
  pub caller : IsUtf8 k.caller
  pub number : IsUtf8 k.number
  pub method : IsUtf8 k.method
  pub path : IsUtf8 k.path
  pub kind : k.answer.kind < 2 ^ 32
  pub word : IfSome k.answer.word IsUtf8

-- a key that was read
abbrev pub key_read : RequestKey → List ℕ × List ℕ
key_read k = (string_bytes k.caller, string_bytes k.number)

-- the row of a stored request
abbrev pub request_read : StoredRequest → RequestRow
request_read r = record {
  caller = string_bytes r.caller;
  number = string_bytes r.number;
  method = string_bytes r.method;
  path = string_bytes r.path;
  body = r.body.items;
  answer = cells r.kind (option_map string_bytes r.word) r.n1 r.n2 r.n3;
}
