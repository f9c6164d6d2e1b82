-- The captive portal state of a device (RFC 8908 section 5), and the open sessions as the gateway lists
-- them.
use Rattle.std.specs.Prelude.{ℕ, ◌-◌, true, false, List, map, filter, Option, Some, None}
use Rattle.portal_model.specs.declared.record.Session.{Session}
use Rattle.portal_model.specs.declared.captive.Captive.{Captive}
use Rattle.portal_model.specs.declared.captive.OpenSession.{OpenSession}
use Rattle.portal_model.specs.History.{History, effective_moment, kept_if, is_open_at, last_session_of}
use Rattle.portal_model.specs.History.{grants_of}
use Rattle.portal_model.specs.Rows.{openings, session_opened}

-- what is left of a limit, if there is one
abbrev pub left_below : ℕ → Option ℕ → Option ℕ
left_below done None = None
left_below done (Some limit) = Some (limit - done)

-- the captive state of a device with that open session, or with none
abbrev pub remaining_of_session : ℕ → Option Session → Captive
remaining_of_session t None = record { captive = true; seconds = None; bytes = None; extend = None }
remaining_of_session t (Some s) = record {
  captive = false;
  seconds = left_below t s.ends;
  bytes = left_below s.used s.allowance;
  extend = Some s.extend;
}

-- the captive state at t of a device whose last session is that one, or which had none
abbrev pub captive_state : ℕ → Option Session → Captive
captive_state t last = remaining_of_session t (kept_if (is_open_at t) last)

-- the captive state of a device after a history, for a request at t
abbrev pub captive_of : History → List ℕ → ℕ → Captive
captive_of H device t = captive_state (effective_moment H t) (last_session_of H device)

-- an open session as the gateway lists it at t
abbrev pub open_session : ℕ → Session → OpenSession
open_session t s = record {
  bytes = left_below s.used s.allowance;
  device = s.device;
  seconds = left_below t s.ends;
  number = s.number;
}

-- the sessions of a history, by their numbers
abbrev pub all_sessions : History → List Session
all_sessions H = map (session_opened H) (openings (grants_of H))

-- the sessions that are open after a history, for a request at t
abbrev pub open_sessions_of : History → ℕ → List OpenSession
open_sessions_of H t =
    let t' = effective_moment H t in
    map (open_session t') (filter (is_open_at t') (all_sessions H))
