-- Laws of the sessions of every legal history.
use Rattle.std.specs.Prelude.{◌≡◌, ℕ, ◌≤◌, ◌∷◌, filter, Some}
use Rattle.portal_model.specs.declared.command.Command.{Command}
use Rattle.portal_model.specs.declared.change.Changes.{Changes}
use Rattle.portal_model.specs.Captive.{all_sessions}
use Rattle.portal_model.specs.Change.{changes_of}
use Rattle.portal_model.specs.History.{entry, History, is_open_at, last_moment}
use Rattle.portal_model.specs.Verdict.{Follows, IsLegal}
use Rattle.portal_desk_store.specs.OpenSessions.{sessions_after_changes, open_at_last}

-- the sessions after an accepted command are those before it with its changes
abbrev pub ChangesGiveSessions : Type 0
ChangesGiveSessions = (H : History) → IsLegal H → (command : Command) (t : ℕ) → Follows H t command
    → (changes : Changes) → changes_of H command t ≡ Some changes
    → all_sessions (entry t command ∷ H) ≡ sessions_after_changes changes (all_sessions H)

-- the sessions that are open at a later time are among those open at the time of the last command
abbrev pub OpenWasOpen : Type 0
OpenWasOpen = (H : History) (t : ℕ) → last_moment H ≤ t
    → filter (is_open_at t) (all_sessions H) ≡ filter (is_open_at t) (open_at_last H).sessions

-- the sessions that are open after an accepted command are those open before it, with its changes, that are
-- still open
abbrev pub OpenFollows : Type 0
OpenFollows = (H : History) → IsLegal H → (command : Command) (t : ℕ) → Follows H t command
    → (changes : Changes) → changes_of H command t ≡ Some changes
    → (open_at_last (entry t command ∷ H)).sessions
    ≡ filter (is_open_at t) (sessions_after_changes changes (open_at_last H).sessions)
