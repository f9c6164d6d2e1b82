-- What is known of the bytes of standard output and standard error, before and after a call.
use Rattle.std.specs.Prelude.{ℕ, ◌<◌, List, length, take, Option}
use Rattle.std.specs.Io.KnownBytes.{Appends}
use Rattle.std.specs.declared.io.Write.{Ghosts}

-- Both streams before a call and after it; `None` where nothing is known.
pub record Outlets : Type 0 where
  pub output : Option (List ℕ)
  pub output_after : Option (List ℕ)
  pub errors : Option (List ℕ)
  pub errors_after : Option (List ℕ)

-- The streams of two writers before a call and after it.
abbrev pub outlets : {W E : Type 0} → Ghosts W → Ghosts E → W → W → E → E → Outlets
outlets w e output output_after errors errors_after = record {
  output = w.contents output;
  output_after = w.contents output_after;
  errors = e.contents errors;
  errors_after = e.contents errors_after;
}

-- A front part of the text is written, perhaps all of it.
abbrev pub Prints : Option (List ℕ) → Option (List ℕ) → List ℕ → Type 0
Prints printed printed_after text = (written : ℕ) × Appends printed printed_after (take written text)

-- A part of the text is written, and not all of it.
abbrev pub IsCutOff : Option (List ℕ) → Option (List ℕ) → List ℕ → Type 0
IsCutOff printed printed_after text =
    (written : ℕ) × (written < length text) × Appends printed printed_after (take written text)
