use Rattle.portal_commands.proofs.Common.{List, ℕ, inl, inr, subst, IsSettingsFile}
use Rattle.portal_commands.specs.Troubles.{TellsFault}
use Rattle.portal_commands.proofs.place.read_settings_at.Goals as goal

pub returns-in-Err-Bad-clause-none : goal.returns-in-Err-Bad-clause-none
returns-in-Err-Bad-clause-none g c = λ same.
    let none = c.in-Err-Bad.ensures.bad c.in-Err-Bad.field-0-is in (
      c.in_ok-bytes.bytes.items,
      c.in_ok-bytes.ensures.bytes,
      subst (λ (bytes : List ℕ). (s : _) → ¬ IsSettingsFile bytes s) c.as_slice.ensures.value none,
    )

pub returns-in-Err-Bad-clause-not_read : goal.returns-in-Err-Bad-clause-not_read
returns-in-Err-Bad-clause-not_read g c =
    let none = c.in-Err-Bad.ensures.bad c.in-Err-Bad.field-0-is in
    let tells = subst (λ (bytes : List ℕ). TellsFault c.args.path.now bytes c.of_settings.result)
    c.as_slice-in-Err-Bad.ensures.value c.of_settings.ensures.at in
    inr
    (inl (
      c.of_settings.ensures.error,
      c.in_ok-bytes.bytes.items,
      c.in_ok-bytes.ensures.bytes,
      subst (λ (bytes : List ℕ). (s : _) → ¬ IsSettingsFile bytes s) c.as_slice.ensures.value none,
      tells,
    ))
