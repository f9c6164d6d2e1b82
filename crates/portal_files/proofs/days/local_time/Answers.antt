use Rattle.jiff.specs.Words.{plain_zone}
use Rattle.portal_files.proofs.ShownDays.{shown-seconds}
use Rattle.portal_files.proofs.days.local_time.Goals as goal

pub returns-clause-time : goal.returns-clause-time
returns-clause-time c =
    shown-seconds c.args.settings.now.zone (plain_zone c.zone.result) c.args.t
    c.timestamp_of.result.nanosecond c.to_datetime.result c.zone.ensures
    c.timestamp_of.ensures.at c.to_datetime.ensures
