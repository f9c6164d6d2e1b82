-- The words of other crates that the proofs about sessions cite, passed on from one place.
pub use Rattle.std.proofs.Common.{Bool, List, None, Option, Some, [], ap, cond, false, inl, inr, length, refl}
pub use Rattle.std.proofs.Common.{subst, sym, take, true, ℕ, ◌++◌, ◌∙◌, ◌∷◌, ◌≡◌, ◌⊎◌}
pub use Rattle.std.specs.Prelude.{Err, Ok, Result}
pub use Rattle.portal_files.specs.SettingsFile.{SettingsValue}
pub use Rattle.portal_http.specs.Arrived.{Arrived}
pub use Rattle.portal_http.specs.Headline.{Acknowledges, IsInDoubt, Leads, Replies, is_ok, with_command}
pub use Rattle.portal_http.specs.Executions.{IsKeptByExecution, ServerSession, without_desk, with_desk}
pub use Rattle.portal_ledger.specs.Ledger.{Accepted, IsSound, Ledger, held_in, history_of, kept_with}
pub use Rattle.portal_ledger.specs.Ledger.{newly_accepted, repeat_in, repeat_of, accepted_at}
pub use Rattle.portal_ledger.specs.States.{State, running, stopped}
pub use Rattle.portal_model.specs.declared.refusal.Refusal.{Refusal}
