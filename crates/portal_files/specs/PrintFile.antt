-- The print file of a batch.
use Rattle.std.specs.Prelude.{◌≡◌, ℕ, ◌==◌, List, [], ◌∷◌, ◌++◌, if◌then◌else◌, codes, decimal}
use Rattle.std.specs.List.{join_with_byte, flat_map}
use Rattle.jiff_tz.specs.declared.timezone.TimeZone.{TimeZone}
use Rattle.portal_codes.specs.Code.{text_of}
use Rattle.portal_model.specs.declared.plan.Plan.{Plan}
use Rattle.portal_files.specs.declared.sheet.BatchSheet.{BatchSheet}
use Rattle.portal_files.specs.Amount.{amount_text}
use Rattle.portal_files.specs.Minute.{IsMinuteText}

-- a limit; empty if there is none
abbrev pub limit_text : ℕ → List ℕ
limit_text n = if n == 0 then [] else decimal n

-- the fields of a line, with commas between them
abbrev pub csv_line : List (List ℕ) → List ℕ
csv_line fields = join_with_byte 44 fields ++ 10 ∷ []

-- the names of the columns
abbrev pub header : List (List ℕ)
header = codes "code" ∷ codes "plan" ∷ codes "seconds" ∷ codes "bytes" ∷ codes "price" ∷ codes "expires" ∷ []

-- the fields of a code of the plan, which expires at the minute of that text
abbrev pub code_fields : Plan → List ℕ → List ℕ → List (List ℕ)
code_fields plan expires code = text_of code ∷ plan.id ∷ limit_text plan.seconds ∷ limit_text plan.bytes
    ∷ amount_text plan.price ∷ expires ∷ []

-- The header, and a line for each code in order of issue.
pub record IsPrintFile (zone : TimeZone) (sheet : BatchSheet) (text : List ℕ) : Type 0 where
  pub expires : List ℕ
  pub shown : IsMinuteText zone sheet.batch.expires expires
  pub text_is : text
      ≡ csv_line header ++ flat_map (λ code. csv_line (code_fields sheet.plan expires code)) sheet.codes
