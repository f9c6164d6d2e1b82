-- The head row after a command.
use Rattle.portal_model.specs.declared.record.Head.{Head}
use Rattle.portal_model.specs.declared.change.Changes.{Changes}
use Rattle.portal_model.specs.declared.change.Changes.TheVariants.{RedeemChange}
use Rattle.portal_model.specs.Change.{head_after}
use Rattle.portal_model.specs.Rows.{with_last_moment}
use Rattle.portal_desk_store.specs.OpenSessions.{moment_of}

-- the head row after the changes: a redemption counts, and may open a session
abbrev pub head_after_changes : Changes → Head → Head
head_after_changes (RedeemChange c) head = head_after head c.running c.at
head_after_changes changes head = with_last_moment (moment_of changes) head
