-- One turn after another.
use Rattle.portal_server.proofs.Common.{ℕ, ◌+◌, List, ◌∷◌, Option, refl, sym, subst, add-one, ProgramError}
use Rattle.portal_server.proofs.Common.{SettingsValue, State, HostValue, IsTurn, Turns}
use Rattle.std.specs.Prelude.{Bool}

module _ (host : HostValue) (settings : SettingsValue) where
  pub turns_more : (turns : ℕ) (before mid after : host.Host) (old between_them new : State)
      (told : List (Option ProgramError)) (last : Option ProgramError) (failed fails : Bool)
      → Turns host settings turns before old told mid between_them failed
      → IsTurn host settings failed mid between_them last after new fails
      → Turns host settings (turns + 1) before old (last ∷ told) after new fails
  turns_more turns before mid after old between_them new told last failed fails so_far turn =
      subst (λ (n : ℕ). Turns host settings n before old (last ∷ told) after new fails) (sym (add-one turns))
      (mid, between_them, failed, told, last, refl, so_far, turn)
