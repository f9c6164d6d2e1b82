-- The details of a session, be it open or ended.
use Rattle.std.specs.Prelude.{◌≡◌, ◌↔◌, ℕ, cond, true, is_some, List, map, filter, Option, Some, None}
use Rattle.std.specs.Prelude.{option_map}
use Rattle.portal_model.specs.declared.record.Session.{Session}
use Rattle.portal_model.specs.declared.details.End.{End}
use Rattle.portal_model.specs.declared.details.End.TheVariants.{Closed, Time, Bytes}
use Rattle.portal_model.specs.declared.details.SessionDetails.{SessionDetails}
use Rattle.portal_model.specs.declared.details.SessionKey.{SessionKey}
use Rattle.portal_model.specs.declared.details.SessionKey.TheVariants.{Last, Number}
use Rattle.portal_model.specs.History.{History, effective_moment, is_below, is_open_at, session_of}
use Rattle.portal_model.specs.History.{last_session_of}
use Rattle.portal_model.specs.Captive.{all_sessions, left_below}

-- the first reason for which a session has ended at t: it was closed, its time is over, or its bytes are used
abbrev pub end_at : ℕ → Session → Option End
end_at t s = cond (is_some s.closed) (Some Closed)
    (cond (is_below t s.ends) (cond (is_below s.used s.allowance) None (Some Bytes)) (Some Time))

-- the time of that end; no row keeps the time at which the bytes were used
abbrev pub end_moment : Option End → Session → Option ℕ
end_moment None s = None
end_moment (Some Closed) s = s.closed
end_moment (Some Time) s = s.ends
end_moment (Some Bytes) s = None

-- the details of a session at t
abbrev pub details_at : ℕ → Session → SessionDetails
details_at t s = record {
  at = end_moment (end_at t s) s;
  bytes = left_below s.used s.allowance;
  device = s.device;
  ended = end_at t s;
  opened = s.opened;
  plan = s.plan;
  seconds = left_below t s.ends;
  number = s.number;
  used = s.used;
}

-- the details of the session of that number after a history, for a request at t
abbrev pub session_details_of : History → ℕ → ℕ → Option SessionDetails
session_details_of H number t = option_map (details_at (effective_moment H t)) (session_of H number)

-- the details of the last session of the device after a history, for a request at t
abbrev pub last_details_of : History → List ℕ → ℕ → Option SessionDetails
last_details_of H device t = option_map (details_at (effective_moment H t)) (last_session_of H device)

-- the details of the session of that number, or of the last one of that device
abbrev pub details_of : History → SessionKey → ℕ → Option SessionDetails
details_of H (Number number) t = session_details_of H number t
details_of H (Last device) t = last_details_of H device t

-- the details of the sessions that are open after a history, for a request at t
abbrev pub open_details_of : History → ℕ → List SessionDetails
open_details_of H t =
    let t' = effective_moment H t in
    map (details_at t') (filter (is_open_at t') (all_sessions H))

-- a session is open exactly if it has not ended
abbrev pub OpenUntilEnd : Type 0
OpenUntilEnd = (s : Session) (t : ℕ) → (end_at t s ≡ None) ↔ (is_open_at t s ≡ true)
