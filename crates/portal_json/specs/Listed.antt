-- Texts that are put together from left to right.
use Rattle.std.specs.Prelude.{ℕ, Bool, true, false, List, [], ◌∷◌, ◌++◌, Option, Some, None, codes, decimal}
use Rattle.std.specs.Prelude.{flat_map}
use Rattle.json.specs.Print.{quoted}
use Rattle.serde_json.specs.Data.{Data}
use Rattle.serde_json.specs.Written.{compact_text}
use Rattle.portal_model.specs.declared.batches.BatchState.{BatchState}

-- a number with these texts before and behind it; nothing, if there is no number
abbrev pub between : List ℕ → Option ℕ → List ℕ → List ℕ
between before None behind = []
between before (Some n) behind = before ++ (decimal n ++ behind)

-- a number, or null if there is none
abbrev pub number_or_null : Option ℕ → List ℕ
number_or_null None = codes "null"
number_or_null (Some n) = decimal n

-- a truth value
abbrev pub word_of_flag : Bool → List ℕ
word_of_flag false = codes "false"
word_of_flag true = codes "true"

-- the texts of entries, each behind a comma
abbrev pub entries_after : {A : Type 0} → (A → Data) → List A → List ℕ
entries_after shown entries = flat_map (λ x. 44 ∷ compact_text (shown x)) entries

-- the texts of entries, with commas between them
abbrev pub entries_between : {A : Type 0} → (A → Data) → List A → List ℕ
entries_between shown [] = []
entries_between shown (x ∷ xs) = compact_text (shown x) ++ entries_after shown xs

-- the text of the keys of a batch, with the brace before them, and with another text behind them
abbrev pub batch_before : List ℕ → BatchState → List ℕ
batch_before behind s =
    codes "{\"batch\":" ++ quoted s.batch.id ++ codes ",\"count\":" ++ decimal s.batch.size
    ++ codes ",\"expires\":" ++ decimal s.batch.expires ++ codes ",\"issued\":" ++ decimal s.batch.issued
    ++ codes ",\"plan\":" ++ quoted s.batch.plan ++ codes ",\"refunded\":" ++ decimal s.refunded
    ++ codes ",\"sold\":" ++ decimal s.sold ++ codes ",\"used-up\":" ++ decimal s.used_up ++ behind
