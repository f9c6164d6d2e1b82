-- An answer that runs out of memory.
use Rattle.portal_commands.proofs.Common.{◌≡◌, ℕ, List, Option, Some, None, inl, inr, refl, Keeps-refl}
use Rattle.portal_commands.proofs.Common.{SettingsValue, Wire, NoMemory, AreLeftAlone, IsAnswered}
use Rattle.std.specs.Borrow.{Bor}
use Rattle.portal_server.specs.Errors.{line_of, exit_code_of}
use Rattle.portal_server.specs.Streams.{Prints}
use Rattle.portal_commands.specs.Places.{PlaceValue}

module _ (place : PlaceValue) (wire : Wire) (errors errors_after : Option (List ℕ)) (moment : ℕ)
    (seed : List ℕ) (settings : SettingsValue) (status : ℕ) where
  pub no_memory : (db : Option (Bor (List ℕ))) → AreLeftAlone wire → status ≡ exit_code_of NoMemory
      → Prints errors errors_after (line_of NoMemory)
      → IsAnswered place wire errors errors_after moment seed db settings status
  no_memory None alone is printed = inr (NoMemory, inr refl, inl refl, alone, (is, printed))
  no_memory (Some path) alone is printed =
      inr (
        record { error = NoMemory; line = None },
        (inl (inr refl), tt),
        inl (refl, refl),
        (alone, is, (errors_after, printed, Keeps-refl errors_after)),
      )
