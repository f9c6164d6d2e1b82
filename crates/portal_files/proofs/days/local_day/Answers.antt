use Rattle.portal_files.proofs.Common.{arith, ◌≡◌, w32, to_z, of_z, sym, ap, subst, ◌∙◌, ints, epoch_day}
use Rattle.portal_files.proofs.Common.{IsDay, local_day_of}
use Rattle.portal_files.proofs.ShownDays.{day-from_seconds, local-day}
use Rattle.portal_files.proofs.days.local_day.Goals as goal
use Rattle.portal_files.proofs.days.local_day.Goals.{After-to_unix_epoch_day-number}

number-is : (c : After-to_unix_epoch_day-number)
    → c.to_unix_epoch_day-number.result ≡ local_day_of c.args.settings.now.zone c.args.t
number-is c =
    c.to_unix_epoch_day-number.ensures.value
    ∙ ap epoch_day (c.to_plain.ensures ∙ c.date.ensures)
    ∙ sym (day-from_seconds c.args.settings.now.zone c.args.t c.local_time-shown.result
    c.local_time-shown.ensures.time)

pub unwrap-requires : goal.unwrap-requires
unwrap-requires c =
    let number = c.to_unix_epoch_day-number.result in
    let bound = c.to_unix_epoch_day-number.ensures.bound in
    let same : to_z w32 (of_z w32 number) ≡ number = omega (arith, ints) in
    c.new.ensures.accepts.1 (subst IsDay (sym (same ∙ number-is c.before))
    (local-day c.args.settings.now.zone c.args.t c.local_time-shown.ensures.limit))

pub returns-clause-day : goal.returns-clause-day
returns-clause-day c =
    let number = c.to_unix_epoch_day-number.result in
    let bound = c.to_unix_epoch_day-number.ensures.bound in
    let same : to_z w32 (of_z w32 number) ≡ number = omega (arith, ints) in
    rw c.unwrap.ensures at c.new.ensures.value ∙ same ∙ number-is c.before.before
