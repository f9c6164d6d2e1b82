-- The words of other crates that the proofs cite, passed on from one place.
pub use Rattle.std.proofs.Common.{List, None, Ok, Option, Some, [], ap, arith, inl, inr, refl, rules, subst}
pub use Rattle.std.proofs.Common.{sym, true≢false, ℕ, ℤ, ◌∙◌, ◌≡◌}
pub use Rattle.std.proofs.KnownBytes.{Appends-nil, Keeps-refl}
pub use Rattle.portal_desk.specs.Calls.{is_stopped_state}
pub use Rattle.portal_server.specs.declared.error.ProgramError.TheVariants.{NoMemory}
pub use Rattle.portal_files.specs.SettingsFile.{IsSettingsFile, SettingsValue}
pub use Rattle.portal_http.specs.Exchanges.{Wire, between}
pub use Rattle.portal_http.specs.Runs.{ServesInOrder}
pub use Rattle.portal_ledger.specs.Calls.{ReadsThat}
pub use Rattle.portal_ledger.specs.States.{State, running, stopped}
pub use Rattle.portal_commands.specs.Answering.{AreLeftAlone, EndsAnswering, IsAnswered, exit_code_for}
pub use Rattle.portal_commands.specs.Asking.{IsBatchFile, IsRangeText}
