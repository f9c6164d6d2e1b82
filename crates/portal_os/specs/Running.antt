-- What is assumed of the machine: its files, and its loopback address.
use Rattle.std.specs.Prelude.{⊤}
use Rattle.std.specs.declared.io.Read.{Ghosts as ReadOf}
use Rattle.std.specs.declared.io.Write.{Ghosts as WriteOf}
use Rattle.sqlite_disk.specs.declared.Disk.{Ghosts}
use Rattle.sqlite_wal.specs.Recovery.{Image}
use Rattle.sqlite_store.specs.declared.store.FileStore.{FileStore}
use Rattle.portal_desk.specs.declared.Desk.{Ghosts as DeskOf}
use Rattle.portal_desk_store.specs.declared.desks.StoreDesk.{StoreDesk}
use Rattle.portal_tables.specs.Images.{ImageHoldsLedger}
use Rattle.portal_server.specs.declared.host.Host.{Ghosts as HostOf}
use Rattle.portal_server.specs.declared.loopback.Loopback.{Loopback}
use Rattle.portal_server.specs.declared.loopback.Socket.{Ghosts as SocketOf}
use Rattle.portal_server.specs.Loopback.{BindsLoopback}
use Rattle.portal_server.specs.Turns.{host_of}
use Rattle.portal_commands.specs.Places.{IsFileError, PlaceValue}
use Rattle.portal_commands.specs.Serving.{NetworkValue}
use Rattle.portal_os.specs.Left.{RemainsHold}
use Rattle.portal_os.specs.Opening.{IsClosed, IsFoundFor, IsUnclosed, OpensTo, RefusesFiles}

-- Files that hold this image, and the desks over them. Nothing more is assumed of a settings file: any bytes
-- may be read, and a read may fail with any error.
abbrev pub host_place : {D : Type 0} (g : Ghosts D) → Image → DeskOf (StoreDesk (FileStore D g)) → PlaceValue
host_place g image desk = record {
  Desk = _;
  Left = _;
  Tables = desk.Files;
  is_fault_free = desk.is_fault_free;
  represents = desk.represents;
  audits = desk.audits;
  is_crash_state = desk.is_crash_state;
  tables_hold_ledger = desk.holds_ledger;
  reads = λ path bytes. ⊤;
  holds_ledger = λ path. ImageHoldsLedger image;
  finds = λ path. IsFoundFor image;
  opens = λ path. OpensTo image;
  closes = λ closed left. IsClosed closed left;
  fails_to_read = λ path trouble. ⊤;
  refuses = λ left path purpose trouble. RefusesFiles image purpose left trouble.error;
  still_holds = λ left path. RemainsHold left;
  fails_to_close = λ unclosed left path trouble. IsUnclosed unclosed left;
  fails_to_make = IsFileError;
}

-- The hosts at the ports of the loopback address, any of which may be bound or not. Which listener may be
-- bound at an address is what is assumed of the socket.
abbrev pub host_network : {H Reader Writer B : Type 0} → HostOf (Loopback H) Reader Writer → ReadOf Reader
    → WriteOf Writer → SocketOf B → B → NetworkValue
host_network host reader writer socket at = record {
  host = host_of host reader writer;
  listens = λ port bound. BindsLoopback (socket.binds at) port bound.listener;
  refuses = λ port. ⊤;
}
