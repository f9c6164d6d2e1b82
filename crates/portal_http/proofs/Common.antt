-- The words of other crates that the proofs cite, passed on from one place.
pub use Rattle.std.proofs.Common.{Bool, List, None, Option, Some, [], ap, append_assoc, arith, drop, false}
pub use Rattle.std.proofs.Common.{get_or, inl, inr, length, nat_eq, nat_le, refl, subst, suc, sym, take, true}
pub use Rattle.std.proofs.Common.{ℕ, ◌++◌, ◌+◌, ◌-◌, ◌<◌, ◌∙◌, ◌∷◌, ◌≡◌, ◌≤◌, ◌⊎◌}
pub use Rattle.std.specs.Io.KnownBytes.{Appends}
pub use Rattle.std.specs.Prelude.{Err, IfErr, MatchOption, Ok, Result, Vec, codes, option_map, string_bytes}
pub use Rattle.std.specs.Prelude.{⊤, ◌≢◌}
pub use Rattle.std.specs.declared.alloc.Global.{Global}
pub use Rattle.portal_http_request.specs.Checks.{IsChecked, IsOfRequest, OrMemory}
pub use Rattle.portal_http_request.specs.declared.rejection.Rejection.{Rejection}
pub use Rattle.portal_http_request.specs.declared.operation.Operation.{Operation}
pub use Rattle.portal_http_request.specs.declared.operation.Operation.TheVariants.{Act, OpenSessions, Sheet}
pub use Rattle.portal_http_request.specs.declared.operation.Operation.TheVariants.{Takings}
pub use Rattle.portal_desk.specs.Calls.{CannotAnswer, CannotKeep, RefusesUnknown, Prepares, PreparesMarked}
pub use Rattle.portal_desk.specs.Calls.{Refuses, Repeats, StaysStopped, RefusalGivesStop}
pub use Rattle.portal_desk.specs.Sheets.{sheet_of, takings_over}
pub use Rattle.portal_files.specs.SettingsFile.{SettingsValue}
pub use Rattle.portal_http_message.specs.Bytes.{IsResponse, last_lines, media_type_of, phrase_of}
pub use Rattle.portal_http_message.specs.declared.responses.ContentType.TheVariants.{CaptiveJson, Csv, Json}
pub use Rattle.portal_http_message.specs.declared.responses.ContentType.TheVariants.{PlainText}
pub use Rattle.portal_http.specs.Arrived.{Arrived}
pub use Rattle.portal_http.specs.Headline.{Acknowledges, IsAccepted, IsFound, IsInDoubt, Leads}
pub use Rattle.portal_http.specs.Headline.{AcknowledgedIsUnique, Replies, Survives, is_ok, with_command}
pub use Rattle.portal_http.specs.Replies.{IsCommand, IsRefusal, IsReply, IsQueryReply, IsVerdict}
pub use Rattle.portal_http.specs.Runs.{Run, ServesInOrder, Step, Stops, bytes_of_responses}
pub use Rattle.portal_http.specs.Serving.{Finishes, ServesCommand, ServesOperation, GivesRefusal}
pub use Rattle.portal_ledger.specs.Ledger.{Accepted, IsSound, Ledger, held_in, history_of, newly_accepted}
pub use Rattle.portal_ledger.specs.Ledger.{repeat_in, accepted_at}
pub use Rattle.portal_ledger.specs.Fingerprint.{Fingerprint}
pub use Rattle.portal_ledger.specs.States.{MayBeFound, State, running, stopped}
pub use Rattle.portal_model.specs.Change.{answer_of}
pub use Rattle.portal_model.specs.History.{History, voucher_of}
pub use Rattle.portal_model.specs.Refusal.{status_of}
pub use Rattle.portal_model.specs.Verdict.{verdict}
pub use Rattle.portal_model.specs.declared.change.Answer.{Answer}
pub use Rattle.portal_model.specs.declared.command.Command.{Command}
pub use Rattle.portal_model.specs.declared.refusal.Refusal.{Refusal}
pub use Rattle.portal_model.specs.declared.refusal.Refusal.TheVariants.{NoMemory, Stopped, UnknownBatch}
pub use Rattle.portal_model.specs.declared.refusal.Refusal.TheVariants.{UnknownCode}
