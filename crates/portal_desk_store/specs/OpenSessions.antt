-- The sessions that are open at the time of the last command of a history, the changes of a command to a list
-- of sessions, and the list that has the open ones.
use Rattle.std.specs.Prelude.{◌≡◌, ℕ, ◌<◌, cond, nat_eq, List, [], ◌∷◌, ◌++◌, map, filter, Option, Some}
use Rattle.std.specs.Prelude.{None, All}
use Rattle.std.specs.List.{AllPairs}
use Rattle.portal_model.specs.declared.record.Session.{Session}
use Rattle.portal_model.specs.declared.change.Changes.{Changes}
use Rattle.portal_model.specs.declared.change.Changes.TheVariants.{LoadChange, IssueChange, SellChange}
use Rattle.portal_model.specs.declared.change.Changes.TheVariants.{RedeemChange, ReportChange, RefundChange}
use Rattle.portal_model.specs.declared.change.Changes.TheVariants.{CloseChange}
use Rattle.portal_model.specs.Captive.{all_sessions}
use Rattle.portal_model.specs.Change.{with_report}
use Rattle.portal_model.specs.History.{History, is_open_at, last_moment, session_of}

-- a time, and sessions in ascending order of their numbers
pub record OpenAt : Type 0 where
  pub moment : ℕ
  pub sessions : List Session

-- the sessions of the history that are open at the time of its last command
abbrev pub open_at_last : History → OpenAt
open_at_last H = record {
  moment = last_moment H;
  sessions = filter (is_open_at (last_moment H)) (all_sessions H);
}

-- the time of an accepted command
abbrev pub moment_of : Changes → ℕ
moment_of (LoadChange c) = c.at
moment_of (IssueChange c) = c.at
moment_of (SellChange c) = c.at
moment_of (RedeemChange c) = c.at
moment_of (ReportChange c) = c.at
moment_of (RefundChange c) = c.at
moment_of (CloseChange c) = c.at

-- the session, replaced by `now` if both have the same number
abbrev pub replaced_if_same : Session → Session → Session
replaced_if_same now s = cond (nat_eq now.number s.number) now s

-- the sessions after a redemption: the extended one is replaced, or the opened one is appended
abbrev pub after_redemption : Option Session → Session → List Session → List Session
after_redemption (Some running) now sessions = map (replaced_if_same now) sessions
after_redemption None now sessions = sessions ++ now ∷ []

-- the sessions after the changes: one is appended, or one is replaced
abbrev pub sessions_after_changes : Changes → List Session → List Session
sessions_after_changes (RedeemChange c) sessions = after_redemption c.running c.session sessions
sessions_after_changes (ReportChange c) sessions =
    map (replaced_if_same (with_report c.bytes c.session)) sessions
sessions_after_changes (CloseChange c) sessions =
    map (replaced_if_same (record c.session { closed = Some c.at })) sessions
sessions_after_changes _ sessions = sessions

-- each session has a smaller number than those after it
abbrev pub IsAscending : List Session → Type 0
IsAscending sessions = AllPairs (λ s later. s.number < later.number) sessions

-- The list has the time of the last command of the history. Its sessions are sessions of the history, in
-- ascending order of their numbers. Those of them that are open at that time are all that are open then; the
-- others have ended, and a session that has ended is never open again.
pub record HasOpenSessions (H : History) (list : OpenAt) : Type 0 where
  pub moment : list.moment ≡ last_moment H
  pub ascending : IsAscending list.sessions
  pub known : All (λ s. session_of H s.number ≡ Some s) list.sessions
  pub open_ones : filter (is_open_at list.moment) list.sessions ≡ (open_at_last H).sessions
