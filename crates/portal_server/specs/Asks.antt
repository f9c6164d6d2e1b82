-- What a call of the server leaves of a desk.
use Rattle.std.specs.Prelude.{◌≡◌, ℕ}
use Rattle.portal_ledger.specs.Ledger.{Ledger}
use Rattle.portal_ledger.specs.States.{State, running}
use Rattle.portal_desk.specs.declared.Desk.{Ghosts}
use Rattle.portal_files.specs.SettingsFile.{SettingsValue}
use Rattle.portal_http.specs.Headline.{Survives}
use Rattle.portal_http.specs.Runs.{Run}
use Rattle.portal_server.specs.Serving.{ServesAtMost}

-- at most so many requests are served, from one state to another
abbrev pub ServesRun : SettingsValue → ℕ → State → State → Type 0
ServesRun settings count old new =
    ServesAtMost count (λ arrivals responses. Run settings old arrivals responses new)

module _ {D : Type 0} (g : Ghosts D) (old new : D) where
  -- The settings stay; and if the disk is fault-free after the call, it was so before.
  pub record KeepsSettings : Type 0 where
    pub same_settings : g.settings new ≡ g.settings old
    pub fault_free : g.is_fault_free new → g.is_fault_free old

  -- As long as the disk is fault-free, the call leads from each state that the desk represented to one that
  -- it represents then.
  abbrev pub LeadsDesk : (State → State → Type 0) → Type 0
  LeadsDesk Does = g.is_fault_free new
      → (before : State) → g.represents old before
      → (after : State) × g.represents new after × Does before after

  -- after at most so many requests and a crash, each acknowledged command is kept
  abbrev pub ServesSafely : ℕ → Type 0
  ServesSafely count = g.is_fault_free new → (L : Ledger) → g.represents old (running L)
      → ServesAtMost count (λ arrivals responses.
      Survives g.Files (g.is_crash_state new) g.holds_ledger (g.settings old) L arrivals responses)
