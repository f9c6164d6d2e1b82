use Rattle.portal_commands.proofs.Common.{◌≡◌, ℤ, List, ℕ, Option, Some, None, refl, subst}
use Rattle.std.specs.Prelude.{Err, IfSome, ok_or}
use Rattle.portal_files.specs.DayText.{IsDayText}
use Rattle.portal_commands.specs.declared.causes.UsageFault.{UsageFault}
use Rattle.portal_commands.proofs.Returned.{returned}
use Rattle.portal_commands.proofs.takings.read_range.Goals as goal

-- a text that names no day gives its fault
no-day : (text : List ℕ) (day : Option ℤ) (fault told : UsageFault) → Err told ≡ ok_or day fault
    → (day ≡ None → (n : ℤ) → ¬ IsDayText text n) → (told ≡ fault) × ((n : ℤ) → ¬ IsDayText text n)
no-day text None fault told e none = (cc, none refl)
no-day text (Some n) fault told e none = cc

pub returns-in_err-first : goal.returns-in_err-first
returns-in_err-first c =
    let no =
    no-day c.args.from.now c.read_day.result _ _ c.in_err-first.ensures.value c.read_day.ensures.none in
    returned c.from_residual.result c.in_err-first.field-0.0 _ _ c.from_residual.ensures (rw no.0 no.1)

pub returns-in_err-last : goal.returns-in_err-last
returns-in_err-last c =
    let no =
    no-day c.args.to.now c.read_day-2.result _ _ c.in_err-last.ensures.value c.read_day-2.ensures.none in
    let first = subst (λ day. IfSome day (IsDayText c.args.from.now)) c.in_ok-first.ensures.ok_part
    c.read_day.ensures.some in
    returned c.from_residual-in_err-last.result c.in_err-last.field-0.0 _ _
    c.from_residual-in_err-last.ensures (rw no.0 ((c.in_ok-first.first, first), no.1))
