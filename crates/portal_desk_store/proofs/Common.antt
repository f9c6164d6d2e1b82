-- The words of other crates that the proofs cite, passed on from one place.
pub use Rattle.std.proofs.Common.{Bool, IsTrue, List, None, Option, Some, [], ap, append-nil, append_assoc}
pub use Rattle.std.proofs.Common.{arith, cond, drop, false, get_or, inl, inr, length, lit≤, map, negsuc, pos}
pub use Rattle.std.proofs.Common.{refl, rules, set, subst, suc, sym, take, true, zero, ℕ, ℤ, ◌*ℤ◌, ◌++◌, ◌+ℤ◌}
pub use Rattle.std.proofs.Common.{◌+◌, ◌-ℤ◌, ◌<◌, ◌∙◌, ◌∷◌, ◌≡◌, ◌≤ℤ◌, ◌≤◌, ◌⊎◌}
pub use Rattle.std.proofs.lemmas.Bool.Decides.{nat_tests}
pub use Rattle.std.proofs.lemmas.Int.{ints}
pub use Rattle.std.proofs.lemmas.List.Elements.{All-head, All-map, All-tail, All-weaker, filter-append}
pub use Rattle.std.specs.Option.{option_to_list}
pub use Rattle.std.specs.Prelude.{All, Err, IfErr, IfOk, IfSome, IsErrAnd, IsPermutation, MatchResult, Ok}
pub use Rattle.std.specs.Prelude.{Result, count_by, filter, is_none, max, nat_eq, nat_le, nat_lt, option_map}
pub use Rattle.std.specs.Prelude.{sum_by, unwrap_or, ◌&&◌, ◌↔◌, ◌≢◌}
pub use Rattle.portal_desk.specs.Calls.{CannotAnswer, CannotKeep, KeepsStop, Prepares, PreparesMarked}
pub use Rattle.portal_desk.specs.Calls.{RefusalGivesStop, Returns, is_stopped_state}
pub use Rattle.portal_desk.specs.Sheets.{takings_over}
pub use Rattle.portal_files.specs.LocalDay.{local_day_of}
pub use Rattle.portal_model_laws.proofs.Basics.{and-true, cond-false, cond-true, false_if, map-changed_all}
pub use Rattle.portal_model_laws.proofs.Basics.{map-same, nat_eq-other, nat_eq-refl, nat_eq-same, not_both}
pub use Rattle.portal_model_laws.proofs.Basics.{some-of-map, some-same, true-and}
pub use Rattle.portal_model_laws.proofs.Openings.{IsFirst, new-first, openings_first, report_session}
pub use Rattle.portal_model_laws.proofs.Openings.{session_at, still-first}
pub use Rattle.portal_model_laws.proofs.Placing.{granted, kept-some, number-le, number-of, redeem_leads}
pub use Rattle.portal_model_laws.specs.FromRows.{held_among}
pub use Rattle.portal_ledger.specs.Calls.{FailsToKeep, Fits, Keeps, ReadsOf}
pub use Rattle.portal_ledger.specs.Ledger.{Accepted, Ledger, accepted_at, history_of, repeat_in, repeat_of}
pub use Rattle.portal_ledger.specs.Fingerprint.{Fingerprint}
pub use Rattle.portal_ledger.specs.States.{State, running, stopped}
pub use Rattle.portal_ledger.specs.declared.marked.MarkedChanges.{MarkedChanges}
pub use Rattle.portal_model.specs.Captive.{all_sessions, open_session, open_sessions_of}
pub use Rattle.portal_model.specs.Change.{answer_of, changes_of, load_change, plan_among, redeem_change}
pub use Rattle.portal_model.specs.Change.{redemption, session_after, with_report}
pub use Rattle.portal_model.specs.History.{Grant, History, IssuedVoucher, amount_left, effective_moment}
pub use Rattle.portal_model.specs.History.{entry, grant_at, grants_of, greatest_session, head_of, is_below}
pub use Rattle.portal_model.specs.History.{is_open_at, issued_of, kept_if, last_moment, last_number}
pub use Rattle.portal_model.specs.History.{last_session_of, plan_of, session_of, uses_of, voucher_of}
pub use Rattle.portal_model.specs.History.{voucher_row}
pub use Rattle.portal_model.specs.Rows.{openings, plans_of, session_opened}
pub use Rattle.portal_model.specs.Verdict.{Follows, IsLegal, IsTyped, IsWellFormed, any_held, greatest_moment}
pub use Rattle.portal_model.specs.Verdict.{load_verdict, redeem_verdict, verdict}
pub use Rattle.portal_model.specs.declared.change.Answer.{Answer}
pub use Rattle.portal_model.specs.declared.change.Changes.{Changes}
pub use Rattle.portal_model.specs.declared.change.Changes.TheVariants.{CloseChange, ReportChange}
pub use Rattle.portal_model.specs.declared.command.Command.{Command}
pub use Rattle.portal_model.specs.declared.command.Command.TheVariants.{Close, Issue, Load, Redeem, Refund}
pub use Rattle.portal_model.specs.declared.command.Command.TheVariants.{Report, Sell}
pub use Rattle.portal_model.specs.declared.plan.Plan.{Plan}
pub use Rattle.portal_model.specs.declared.record.Session.{Session}
pub use Rattle.portal_model.specs.declared.record.Voucher.{Voucher}
pub use Rattle.portal_model.specs.declared.refusal.Refusal.{Refusal}
pub use Rattle.portal_desk_store.specs.OpenSessions.{HasOpenSessions, IsAscending, OpenAt, after_redemption}
pub use Rattle.portal_desk_store.specs.OpenSessions.{moment_of, open_at_last, replaced_if_same}
pub use Rattle.portal_desk_store.specs.OpenSessions.{sessions_after_changes}
pub use Rattle.portal_desk_store.specs.DeskRepresents.{DeskIsFaultFree, DeskRepresents, MovesDesk}
pub use Rattle.portal_desk_store.specs.DeskRepresents.{settings_of, stop_flag}
pub use Rattle.portal_desk_store.specs.Judging.{Decides, Judges}
pub use Rattle.portal_desk_store.specs.Paid.{paid_days}
pub use Rattle.portal_desk_store.specs.Rest.{KeepsRest}
pub use Rattle.portal_desk_store.specs.Steps.{MovesFromLedger, MovesTables}
pub use Rattle.portal_desk_store.specs.declared.desks.StoreDesk.{StoreDesk}
pub use Rattle.portal_tables.specs.PaymentLists.{AreRefunds, AreSales, is_paid_within, payment_of}
pub use Rattle.portal_tables.specs.TablesRepresent.{IsFaultFree, IsStopped}
pub use Rattle.portal_tables.specs.declared.errors.StoreFault.{StoreFault}
pub use Rattle.portal_tables.specs.declared.errors.StoreFault.TheVariants.{Memory}
pub use Rattle.portal_tables.specs.declared.tables.Tables.{Tables}
pub use Rattle.sqlite.specs.Held.{Held, state}
pub use Rattle.sqlite_trees.specs.declared.store.Store.{Ghosts}
