-- What a host returns, and what is made of it: one turn after another.
use Rattle.std.specs.Prelude.{◌≡◌, ◌⊎◌, ℕ, ◌≤◌, ◌/◌, zero, suc, min, Bool, true, false, List, [], ◌∷◌, Option}
use Rattle.std.specs.Prelude.{Some, None, Result, Ok, Err}
use Rattle.std.specs.IoError.{error_kind}
use Rattle.std.specs.declared.io.Error.{Error}
use Rattle.std.specs.declared.io.ErrorKind.TheVariants.{InvalidData}
use Rattle.std.specs.declared.time.Duration.{Duration}
use Rattle.std.specs.Duration.{as_nanos}
use Rattle.std.specs.declared.io.Read.{Ghosts as ReadOf}
use Rattle.std.specs.declared.io.Write.{Ghosts as WriteOf}
use Rattle.portal_files.specs.SettingsFile.{SettingsValue}
use Rattle.portal_ledger.specs.States.{State}
use Rattle.portal_model.specs.declared.refusal.Refusal.TheVariants.{Stopped}
use Rattle.portal_desk.specs.Calls.{is_stopped_state}
use Rattle.portal_server.specs.declared.error.ProgramError.{ProgramError}
use Rattle.portal_server.specs.declared.error.ProgramError.TheVariants.{Network, Refused}
use Rattle.portal_http.specs.declared.exchanges.Done.{Done}
use Rattle.portal_http.specs.declared.exchanges.Cut.{Cut}
use Rattle.portal_http.specs.Exchanges.{Wire, between, EndsExchange}
use Rattle.portal_http.specs.Runs.{ServesInOrder}
use Rattle.portal_server.specs.declared.host.Host.{Ghosts as HostOf}
use Rattle.portal_server.specs.Serving.{said_of}

-- The time for a result of the clock: its whole seconds, or the greatest time if they are past it; 0 if the
-- clock is set before 1970.
abbrev pub IsMomentOf : Result Duration Error → ℕ → Type 0
IsMomentOf (Ok since) moment = moment ≡ min (as_nanos since / 1000000000) 253370764799
IsMomentOf (Err io_error) moment = (error_kind io_error ≡ InvalidData) × (moment ≡ 0)

-- The assumptions about a host. From the host before a call to the host after it: which connection it
-- accepted, or that one failed before; which time its clock gave and which seed was drawn; which connection
-- it closed; and that it waited a second. Also what is known of the bytes that a peer has still to send,
-- and of those that were sent to it.
pub record HostValue : Type 1 where
  pub Host : Type 0
  pub Reader : Type 0
  pub Writer : Type 0
  pub accepts : Host → Option (Reader × Writer) → Host → Type 0
  pub stamps : Host → Result (ℕ × List ℕ) ProgramError → Host → Type 0
  pub closes : Host → Reader → Writer → Host → Type 0
  pub pauses : Host → Host → Type 0
  pub unread : Reader → Option (List ℕ)
  pub sent : Writer → Option (List ℕ)

-- that of a host, of the bytes that its peers send, and of those that are sent to them
abbrev pub host_of : {Host Reader Writer : Type 0} → HostOf Host Reader Writer → ReadOf Reader
    → WriteOf Writer → HostValue
host_of host reader writer = record {
  Host = _;
  Reader = _;
  Writer = _;
  accepts = host.accepts;
  stamps = host.stamps;
  closes = host.closes;
  pauses = host.pauses;
  unread = reader.remaining;
  sent = writer.contents;
}

-- what a reader has still to give and a writer was given, each before a call and after it
abbrev pub wire_of : {R W : Type 0} → ReadOf R → WriteOf W → R → R → W → W → Wire
wire_of r w reader reader_after writer writer_after =
    between (r.remaining reader) (r.remaining reader_after) (w.contents writer) (w.contents writer_after)

-- A peer that was accepted is served: the clock is read and a seed drawn; then there is one exchange with
-- it, at that time and with that seed; and then its connection is closed. `said` is what is printed for it:
-- that it broke off, if it did.
abbrev pub ServesPeer : (host : HostValue) → SettingsValue → host.Host → host.Reader → host.Writer → State
    → Option ProgramError → host.Host → State → Type 0
ServesPeer host settings before reader writer old said after new =
    (moment : ℕ) × (seed : List ℕ) × (stamped : host.Host) × (reader_after : host.Reader)
    × (writer_after : host.Writer) × (ended : Result Done Cut)
    × host.stamps before (Ok (moment, seed)) stamped
    × EndsExchange (between (host.unread reader) (host.unread reader_after) (host.sent writer)
    (host.sent writer_after))
    moment seed (λ arrivals responses. ServesInOrder settings old arrivals responses new) ended
    × (said ≡ said_of ended)
    × host.closes stamped reader_after writer_after after

-- a second is waited if accepting failed in the turn before too
abbrev pub Pauses : (host : HostValue) → Bool → host.Host → host.Host → Type 0
Pauses host true before after = host.pauses before after
Pauses host false before after = after ≡ before

-- One turn, after one in which accepting failed or did not: accepting fails, which is printed, and only a
-- pause follows; or a peer is accepted and served. And whether accepting failed.
abbrev pub IsTurn : (host : HostValue) → SettingsValue → Bool → host.Host → State → Option ProgramError
    → host.Host → State → Bool → Type 0
IsTurn host settings has_failed before old said after new fails =
    ((fails ≡ true) × (new ≡ old) × (said ≡ Some Network) × (broken : host.Host)
    × host.accepts before None broken × Pauses host has_failed broken after)
    ⊎ ((fails ≡ false) × (peer : host.Reader × host.Writer) × (accepted : host.Host)
    × host.accepts before (Some peer) accepted
    × ServesPeer host settings accepted peer.0 peer.1 old said after new)

-- So many turns, one after another, and whether accepting failed in the last one. What is printed for
-- each is listed, the newest first.
abbrev pub Turns : (host : HostValue) → SettingsValue → ℕ → host.Host → State → List (Option ProgramError)
    → host.Host → State → Bool → Type 0
Turns host settings zero before old said after new fails =
    (after ≡ before) × (new ≡ old) × (said ≡ []) × (fails ≡ false)
Turns host settings (suc more) before old said after new fails =
    (mid : host.Host) × (between_them : State) × (failed : Bool) × (told : List (Option ProgramError))
    × (last : Option ProgramError)
    × (said ≡ last ∷ told)
    × Turns host settings more before old told mid between_them failed
    × IsTurn host settings failed mid between_them last after new fails

-- a peer was accepted, and then the clock or the source of seeds failed
abbrev pub FailsAt : (host : HostValue) → host.Host → ProgramError → host.Host → Type 0
FailsAt host before error after =
    (peer : host.Reader × host.Writer) × (accepted : host.Host) × host.accepts before (Some peer) accepted
    × host.stamps accepted (Err error) after

-- How the turns ended: all were taken; or fewer, as the desk has stopped or the host failed. If the host
-- failed, nothing is printed for the peer that it had accepted.
abbrev pub TakesTurns : (host : HostValue) → SettingsValue → ℕ → host.Host → State
    → List (Option ProgramError) → Result (Unit {0}) ProgramError → host.Host → State → Type 0
TakesTurns host settings count before old said (Ok done) after new =
    (fails : Bool) × Turns host settings count before old said after new fails
TakesTurns host settings count before old said (Err error) after new =
    (few : ℕ) × (last : host.Host) × (fails : Bool) × (told : List (Option ProgramError)) × (few ≤ count)
    × Turns host settings few before old told last new fails
    × (((error ≡ Refused Stopped) × (is_stopped_state new ≡ true) × (after ≡ last) × (said ≡ told))
    ⊎ (FailsAt host last error after × (said ≡ None ∷ told)))
