-- The words of other crates that the proofs cite, passed on from one place.
pub use Rattle.std.proofs.Common.{Bool, Err, List, None, Ok, Option, Result, Some, [], ap, arith, codes, cond}
pub use Rattle.std.proofs.Common.{drop, false, inl, inr, length, lit≤, refl, subst, sym, take, true, ℕ, ◌++◌}
pub use Rattle.std.proofs.Common.{◌+◌, ◌<◌, ◌∙◌, ◌∷◌, ◌≡◌, ◌≤◌, ◌⊎◌}
pub use Rattle.std.proofs.lemmas.List.Elements.{All-append, All-cons, All-nil}
pub use Rattle.std.specs.Option.{option_or, option_to_list}
pub use Rattle.std.specs.Prelude.{All, bytes_eq, find, option_and_then, option_map, replicate, ◌&&◌}
pub use Rattle.portal_model_laws.proofs.Basics.{and-true, by_map, bytes_refl, bytes_same, cond-true, or-none}
pub use Rattle.portal_model_laws.proofs.Basics.{or-some, some-of-map, some-same, true-and}
pub use Rattle.portal_ledger.specs.Ledger.{Accepted, IsKeyFree, IsSound, Ledger, MayFollow, answer_in}
pub use Rattle.portal_ledger.specs.Ledger.{held_in, history_of, is_under, kept_with, newly_accepted}
pub use Rattle.portal_ledger.specs.Ledger.{repeat_in, repeat_of, request_among, request_kept, request_row}
pub use Rattle.portal_ledger.specs.Ledger.{requests_of, accepted_at}
pub use Rattle.portal_ledger.specs.Fingerprint.{IsPaddedKey, IsKeyText, Fingerprint, key_with_zeros}
pub use Rattle.portal_ledger.specs.Fingerprint.{is_key_character, same_caller, same_key, same_request}
pub use Rattle.portal_ledger.specs.RequestRow.{AnswerCells, IsAnswerTyped, IsKeptTyped, RequestRow, cells_of}
pub use Rattle.portal_ledger.specs.RequestRow.{boolean}
pub use Rattle.portal_ledger.specs.States.{MayBeFound, State, running, stopped}
pub use Rattle.portal_ledger.specs.declared.caller.Caller.{Caller}
pub use Rattle.portal_ledger.specs.declared.caller.Caller.TheVariants.{Desk, Gateway, Guest}
pub use Rattle.portal_ledger.specs.declared.request.KeptRequest.{KeptRequest}
pub use Rattle.portal_model.proofs.Padding.{characters-utf8, take-front, zeros-after}
pub use Rattle.portal_model.specs.Change.{answer_of, changes_of}
pub use Rattle.portal_model.specs.History.{History, batch_of, effective_moment, head_of, last_moment}
pub use Rattle.portal_model.specs.History.{last_session_of, plan_of, session_of, voucher_of}
pub use Rattle.portal_model.specs.Verdict.{IsTyped, any_held, close_verdict, greatest_moment, issue_verdict}
pub use Rattle.portal_model.specs.Verdict.{redeem_verdict, refund_verdict, report_verdict, sell_verdict}
pub use Rattle.portal_model.specs.Verdict.{verdict}
pub use Rattle.portal_model.specs.declared.change.Answer.{Answer}
pub use Rattle.portal_model.specs.declared.change.Changes.{Changes}
pub use Rattle.portal_model.specs.declared.command.Command.{Command}
pub use Rattle.portal_model.specs.declared.refusal.Refusal.{Refusal}
