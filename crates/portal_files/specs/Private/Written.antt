-- What a CSV writer has written.
use Rattle.std.specs.Prelude.{◌≡◌, ℕ, List, [], ◌∷◌, ◌++◌, Vec, false}
use Rattle.std.specs.declared.alloc.Global.{Global}
use Rattle.csv.specs.Writing.{default_writer, row_text, writer_setup, fields_written, has_written}
use Rattle.csv.specs.Writing.{writer_under, writer_pending}
use Rattle.csv.specs.declared.writer.Writer.{Writer}
use Rattle.portal_codes.specs.Code.{text_of}
use Rattle.portal_files.specs.PrintFile.{header}

-- A writer between two lines.
pub record IsReady (w : Writer (Vec ℕ Global)) : Type 0 where
  pub setup : writer_setup w ≡ default_writer
  pub fields : fields_written w ≡ 0
  pub wrote : has_written w ≡ false

-- the text that was given to the writer
abbrev pub written_text : Writer (Vec ℕ Global) → List ℕ
written_text w = (writer_under w).items ++ writer_pending w

-- the fields that the lines of a batch share, after the code
pub record Shared : Type 0 where
  pub plan : List ℕ
  pub seconds : List ℕ
  pub bytes : List ℕ
  pub price : List ℕ
  pub expires : List ℕ

-- those of the same texts
abbrev pub shared_of : (plan seconds bytes price expires : List ℕ) → Shared
shared_of plan seconds bytes price expires =
    record { plan = plan; seconds = seconds; bytes = bytes; price = price; expires = expires }

-- a record of six fields
abbrev pub row : Shared → List ℕ → List ℕ
row s first = row_text default_writer (first ∷ s.plan ∷ s.seconds ∷ s.bytes ∷ s.price ∷ s.expires ∷ [])

-- the record of a code
abbrev pub code_row : Shared → List ℕ → List ℕ
code_row s code = row s (text_of code)

-- the names of the columns
abbrev pub header_row : List ℕ
header_row = row_text default_writer header
