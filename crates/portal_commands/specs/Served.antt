-- The requests that a run of the program served, with its responses, read off what its contract tells.
use Rattle.std.proofs.Common.{inl, inr}
use Rattle.std.specs.Prelude.{ℕ, ◌++◌, zero, suc, List, [], ◌∷◌, Bool, Option, Result, Ok, Err}
use Rattle.portal_server.specs.declared.error.ProgramError.{ProgramError}
use Rattle.portal_server.specs.Streams.{Outlets}
use Rattle.portal_files.specs.SettingsFile.{SettingsValue}
use Rattle.portal_ledger.specs.States.{State}
use Rattle.portal_http.specs.Arrived.{Arrived}
use Rattle.portal_http.specs.declared.exchanges.Done.{Done}
use Rattle.portal_http.specs.declared.exchanges.Cut.{Cut}
use Rattle.portal_http.specs.declared.exchanges.Cause.{Cause}
use Rattle.portal_http.specs.declared.exchanges.Cause.TheVariants.{Read, NoRoom, Write}
use Rattle.portal_http.specs.Exchanges.{Wire, between, CutsOff, EndsExchange}
use Rattle.portal_http.specs.Runs.{ServesInOrder}
use Rattle.portal_server.specs.Command.{PrintsTurns, EndsTurns}
use Rattle.portal_server.specs.Turns.{HostValue, IsTurn, Turns, TakesTurns}
use Rattle.portal_commands.specs.declared.serving.ServeOptions.{ServeOptions}
use Rattle.portal_commands.specs.Serving.{NetworkValue, ServesAt}

-- Requests that were executed, and the responses to them.
pub record Served : Type 0 where
  pub arrivals : List Arrived
  pub responses : List (List ℕ)

abbrev pub none_served : Served
none_served = record { arrivals = []; responses = [] }

abbrev pub one_served : ℕ → List ℕ → List ℕ → List ℕ → Served
one_served moment seed bytes response = record {
  arrivals = record { moment = moment; seed = seed; bytes = bytes } ∷ [];
  responses = response ∷ [];
}

-- First these, then those.
abbrev pub both_served : Served → Served → Served
both_served first next =
    record { arrivals = first.arrivals ++ next.arrivals; responses = first.responses ++ next.responses }

-- In an exchange: the request that was read, if it was executed.
module _ (wire : Wire) (moment : ℕ) (seed : List ℕ) (IsRun : List Arrived → List (List ℕ) → Type 0) where
  abbrev pub served_before_cut : (cause : Cause) (written whole : ℕ)
      → CutsOff wire moment seed IsRun cause written whole → Served
  served_before_cut Read written whole off = none_served
  served_before_cut NoRoom written whole off = none_served
  served_before_cut Write written whole (response, size, less, (received, reads, run, out)) =
      one_served moment seed received.bytes response

  abbrev pub served_in_exchange : (ended : Result Done Cut)
      → EndsExchange wire moment seed IsRun ended → Served
  served_in_exchange (Ok done) (response, status, size, (received, reads, run, out)) =
      one_served moment seed received.bytes response
  served_in_exchange (Err cut) off = served_before_cut cut.cause cut.written cut.whole off

-- By a server: in one exchange after another.
module _ (host : HostValue) (settings : SettingsValue) where
  abbrev pub served_in_turn : (has_failed : Bool) (before : host.Host) (old : State)
      (said : Option ProgramError) (after : host.Host) (new : State) (fails : Bool)
      → IsTurn host settings has_failed before old said after new fails → Served
  served_in_turn has_failed before old said after new fails (inl broken) = none_served
  served_in_turn has_failed before old said after new fails (inr (
    works,
    peer,
    accepted,
    accepts,
    (moment, seed, stamped, reader_after, writer_after, ended, stamps, exchange, same, closes),
  )) =
      served_in_exchange (between (host.unread peer.0) (host.unread reader_after) (host.sent peer.1)
      (host.sent writer_after)) moment seed
      (λ arrivals responses. ServesInOrder settings old arrivals responses new) ended exchange

  abbrev pub served_in_turns : (turns : ℕ) (before : host.Host) (old : State)
      (said : List (Option ProgramError)) (after : host.Host) (new : State) (fails : Bool)
      → Turns host settings turns before old said after new fails → Served
  served_in_turns zero before old said after new fails nothing = none_served
  served_in_turns (suc more) before old said after new fails (
    mid,
    between_them,
    failed,
    told,
    last,
    same,
    so_far,
    turn,
  ) =
      both_served (served_in_turns more before old told mid between_them failed so_far)
      (served_in_turn failed mid between_them last after new fails turn)

  abbrev pub served_until : (count : ℕ) (before : host.Host) (old : State) (said : List (Option ProgramError))
      (ended : Result (Unit {0}) ProgramError) (after : host.Host) (new : State)
      → TakesTurns host settings count before old said ended after new → Served
  served_until count before old said (Ok done) after new (fails, turns) =
      served_in_turns count before old said after new fails turns
  served_until count before old said (Err error) after new (few, last, fails, told, less, turns, ends) =
      served_in_turns few before old told last new fails turns

  abbrev pub served_after_line : (port count : ℕ) (o : Outlets) (before : host.Host) (old : State)
      (ended : Result (Unit {0}) ProgramError) (after : host.Host) (new : State)
      → PrintsTurns host settings port count o before old ended after new → Served
  served_after_line port count o before old ended after new (inl (line, said, prints, turns)) =
      served_until count before old said ended after new turns
  served_after_line port count o before old ended after new (inr lost) = none_served

  abbrev pub served_by_turns : (port count : ℕ) (o : Outlets) (before : host.Host) (old : State)
      (ended : Result (Unit {0}) ProgramError) (after : host.Host) (new : State)
      → EndsTurns host settings port count o before old ended after new → Served
  served_by_turns port count o before old (Ok done) after new turns =
      served_after_line port count o before old (Ok done) after new turns
  served_by_turns port count o before old (Err error) after new (printed, turns, line) =
      served_after_line port count (record o { errors_after = printed }) before old
      (Err error) after new turns

-- At a port: none, if it was not bound.
abbrev pub served_at : (network : NetworkValue) (at : ServeOptions) (settings : SettingsValue) (o : Outlets)
    (status : ℕ) (old new : State) → ServesAt network at settings o status old new → Served
served_at network at settings o status old new (inl unbound) = none_served
served_at network at settings o status old new (inr (before, after, ended, listens, exits, turns)) =
    served_by_turns network.host settings at.port at.count o before old ended after new turns
