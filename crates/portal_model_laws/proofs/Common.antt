-- The words of other crates that the proofs cite, passed on from one place.
pub use Rattle.std.proofs.Common.{Bool, List, None, Option, Some, [], ap, arith, codes, cond, false, filter}
pub use Rattle.std.proofs.Common.{get_or, inl, inr, leb-false, length, lit<, lit≤, map, max, neg_ℤ, not, pos}
pub use Rattle.std.proofs.Common.{refl, subst, sym, true, zero-add, ℕ, ◌*◌, ◌++◌, ◌+ℤ◌, ◌+◌, ◌-ℤ◌, ◌-◌, ◌<◌}
pub use Rattle.std.proofs.Common.{◌∙◌, ◌∷◌, ◌≡◌, ◌≢◌, ◌≤ℤ◌, ◌≤◌, ◌⊎◌}
pub use Rattle.std.proofs.lemmas.Bool.Decides.{nat_tests}
pub use Rattle.std.proofs.lemmas.Int.{ints}
pub use Rattle.std.proofs.lemmas.List.{append-nil, length-map, map-append}
pub use Rattle.std.proofs.lemmas.List.Elements.{All-append, All-cons, All-filter, All-head, All-map, All-nil}
pub use Rattle.std.proofs.lemmas.List.Elements.{All-tail, All-weaker, filter-append, filter_map-append}
pub use Rattle.std.proofs.lemmas.List.Folds.{find-append, list_any-append}
pub use Rattle.std.proofs.lemmas.List.Sums.{sum_by-append, sum_by-cons, sum_by_push}
pub use Rattle.std.proofs.lemmas.Slice.Eq.{bytes_eq-Decides}
pub use Rattle.std.specs.List.{cons_option, filter_map, list_any, range_with_len}
pub use Rattle.std.specs.Option.{option_or, option_to_list}
pub use Rattle.std.specs.Prelude.{All, IfSome, bytes_eq, count_by, find, is_none, is_some, nat_abs, nat_eq}
pub use Rattle.std.specs.Prelude.{nat_le, nat_lt, option_and_then, option_map, sum_by, unwrap_or, ◌&&◌, ◌||◌}
pub use Rattle.portal_codes.specs.Code.{IsCode}
pub use Rattle.portal_model.specs.Change.{plans_to_add, answer_of, changes_of, close_change, head_after}
pub use Rattle.portal_model.specs.Change.{issue_change, load_change, plan_among, raised_by, redeem_change}
pub use Rattle.portal_model.specs.Change.{redemption, refund_change, report_change, with_report, sell_change}
pub use Rattle.portal_model.specs.Change.{session_after, sessions_after}
pub use Rattle.portal_model.specs.Device.{IsDevice}
pub use Rattle.portal_model.specs.History.{Grant, History, IssuedVoucher, Place, RefundEntry, amount_left}
pub use Rattle.portal_model.specs.History.{batch_of, batch_row, closed_of, codes_of, effective_moment, entry}
pub use Rattle.portal_model.specs.History.{expiry, grant_at, grants_of, greatest_session, head_of, is_below}
pub use Rattle.portal_model.specs.History.{is_open_at, issued_at, issued_of, kept_if, last_moment}
pub use Rattle.portal_model.specs.History.{last_number, last_session_of, limit_or_none, members, oldest}
pub use Rattle.portal_model.specs.History.{place_of, places_from, plan_of, refund_of, refund_entry_at}
pub use Rattle.portal_model.specs.History.{session_in, session_of, session_row, sold_of, used_of, uses_of}
pub use Rattle.portal_model.specs.History.{voucher_of, voucher_row}
pub use Rattle.portal_model.specs.IdText.{IsIdText}
pub use Rattle.portal_model.specs.Rows.{CountRow, GrantRow, Rows, SessionRow, TotalRow, VoucherRow}
pub use Rattle.portal_model.specs.Rows.{allowance_from, batch_among, batches_of, closed_if, count_among}
pub use Rattle.portal_model.specs.Rows.{count_from, count_of_place, counted_if, counts_of, grant_rows}
pub use Rattle.portal_model.specs.Rows.{voucher_of_rows, session_of_rows, last_among, rows_after_changes}
pub use Rattle.portal_model.specs.Rows.{with_last_moment, new_counts, new_grant, new_session, new_vouchers}
pub use Rattle.portal_model.specs.Rows.{openings, places_of, plans_of, refunded_if, remaining_of, row_among}
pub use Rattle.portal_model.specs.Rows.{row_of_grant, row_of_opening, row_of_place, rows_of, session_among}
pub use Rattle.portal_model.specs.Rows.{session_from, session_opened, sessions_of, sold_if, total_among}
pub use Rattle.portal_model.specs.Rows.{total_from, total_of_opening, total_row, totalled_if, totals_after}
pub use Rattle.portal_model.specs.Rows.{totals_of, used_if, vouchers_of}
pub use Rattle.portal_model.specs.Verdict.{Follows, IsLegal, any_held, close_verdict, differs, else_verdict}
pub use Rattle.portal_model.specs.Verdict.{greatest_allowance, greatest_count, greatest_moment, is_past}
pub use Rattle.portal_model.specs.Verdict.{issue_verdict, place_verdict, redeem_verdict, refund_verdict}
pub use Rattle.portal_model.specs.Verdict.{report_verdict, same_limits, sell_verdict, has_duplicate}
pub use Rattle.portal_model.specs.Verdict.{voucher_refusal}
pub use Rattle.portal_model.specs.declared.change.Changes.{Changes}
pub use Rattle.portal_model.specs.declared.change.Changes.TheVariants.{CloseChange, IssueChange, RefundChange}
pub use Rattle.portal_model.specs.declared.change.Changes.TheVariants.{SellChange, ReportChange}
pub use Rattle.portal_model.specs.declared.command.Command.{Command}
pub use Rattle.portal_model.specs.declared.command.Command.TheVariants.{Close, Issue, Load, Redeem, Refund}
pub use Rattle.portal_model.specs.declared.command.Command.TheVariants.{Report, Sell}
pub use Rattle.portal_model.specs.declared.plan.Plan.{Plan}
pub use Rattle.portal_model.specs.declared.record.Batch.{Batch}
pub use Rattle.portal_model.specs.declared.record.Head.{Head}
pub use Rattle.portal_model.specs.declared.record.Session.{Session}
pub use Rattle.portal_model.specs.declared.record.Voucher.{Voucher}
