use Rattle.portal_files.proofs.Common.{◌≡◌, w32, to_z, of_z, ap, ◌∙◌, subst, arith, ints, epoch_day}
use Rattle.portal_files.proofs.Common.{IsDateText}
use Rattle.portal_files.proofs.DateTexts.{day-found, no-day}
use Rattle.portal_files.proofs.days.read_day.Goals as goal
use Rattle.portal_files.proofs.days.read_day.Goals.{After-new}

number-is : (c : After-new) → to_z w32 (of_z w32 c.to_unix_epoch_day.result) ≡ epoch_day c.in_ok-date.date
number-is c =
    let bound = c.to_unix_epoch_day.ensures.bound in
    let same : to_z w32 (of_z w32 c.to_unix_epoch_day.result) ≡ c.to_unix_epoch_day.result =
    omega (arith, ints) in
    same ∙ c.to_unix_epoch_day.ensures.value ∙ ap epoch_day c.to_plain.ensures

shown : (c : After-new) → IsDateText c.args.text.now c.in_ok-date.date
shown c = let same : c.as_bytes.result.now ≡ c.args.text.now = c.as_bytes.ensures.value in
    subst (λ t. IsDateText t c.in_ok-date.date) same c.in_ok-date.ensures.some

pub returns-clause-some : goal.returns-clause-some
returns-clause-some c = day-found c.args.text.now c.in_ok-date.date _ c.new.result (shown c) (number-is c)
    c.new.ensures.accepts c.new.ensures.value

pub returns-clause-none : goal.returns-clause-none
returns-clause-none c =
    no-day c.args.text.now c.in_ok-date.date _ c.new.result (shown c) (number-is c) c.new.ensures.accepts
