-- The words of other crates that the proofs cite, passed on from one place.
pub use Rattle.std.proofs.Common.{List, Option, None, Some, [], add-one, ap, arith, inl, inr, length, refl}
pub use Rattle.std.proofs.Common.{subst, sym, take, ℕ, ◌++◌, ◌+◌, ◌∙◌, ◌∷◌, ◌≡◌, ◌≤◌}
pub use Rattle.std.proofs.KnownBytes.{Keeps-refl}
pub use Rattle.portal_server.specs.declared.error.ProgramError.{ProgramError}
pub use Rattle.portal_files.specs.SettingsFile.{SettingsValue}
pub use Rattle.portal_http.specs.Arrived.{Arrived}
pub use Rattle.portal_http.specs.Runs.{Run, ServesInOrder}
pub use Rattle.portal_ledger.specs.States.{MayBeFound, State, running}
pub use Rattle.portal_server.specs.Serving.{ComeWith, EndsLoop, PrintsOfConnection, PrintsOfConnections}
pub use Rattle.portal_server.specs.Serving.{ServesAtMost}
pub use Rattle.portal_server.specs.Turns.{HostValue, IsTurn, Turns, host_of}
