-- What is assumed of a place and of a network, by the traits that a function names.
use Rattle.std.specs.declared.io.Read.{Ghosts as ReadOf}
use Rattle.std.specs.declared.io.Write.{Ghosts as WriteOf}
use Rattle.portal_desk.specs.declared.Desk.{Ghosts as DeskOf}
use Rattle.portal_server.specs.declared.host.Host.{Ghosts as HostOf}
use Rattle.portal_server.specs.Turns.{host_of}
use Rattle.portal_commands.specs.declared.network.Network.{Ghosts as NetworkOf}
use Rattle.portal_commands.specs.declared.place.Place.{Ghosts as PlaceOf}
use Rattle.portal_commands.specs.Places.{PlaceValue}
use Rattle.portal_commands.specs.Serving.{NetworkValue}

-- A place, and the desks over its files.
abbrev pub place_value : {P Stored Fresh Left : Type 0} → PlaceOf P Stored Fresh Left
    → DeskOf Stored → P → PlaceValue
place_value place desk at = record {
  Desk = _;
  Left = _;
  Tables = desk.Files;
  is_fault_free = desk.is_fault_free;
  represents = desk.represents;
  audits = desk.audits;
  is_crash_state = desk.is_crash_state;
  tables_hold_ledger = desk.holds_ledger;
  reads = place.reads at;
  holds_ledger = place.holds_ledger at;
  finds = place.finds at;
  opens = place.opens at;
  closes = place.closes;
  fails_to_read = place.fails_to_read at;
  refuses = place.refuses at;
  still_holds = place.still_holds at;
  fails_to_close = place.fails_to_close;
  fails_to_make = place.fails_to_make;
}

-- A network, and the hosts at its ports.
abbrev pub network_of : {N Bound Reader Writer : Type 0}
    → NetworkOf N Bound Reader Writer → HostOf Bound Reader Writer → ReadOf Reader
    → WriteOf Writer → N → NetworkValue
network_of network host reader writer at =
    record { host = host_of host reader writer; listens = network.listens at; refuses = network.refuses at }
