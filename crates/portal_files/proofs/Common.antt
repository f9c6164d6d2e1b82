-- The words of other crates that the proofs cite, passed on from one place.
pub use Rattle.std.proofs.Common.{Bool, Bor, Equal, Err, Greater, IfOk, IsSome, Less, List, None, Ok, Option}
pub use Rattle.std.proofs.Common.{Ordering, Result, Some, Vec, [], ap, append-nil, append_assoc, arith, codes}
pub use Rattle.std.proofs.Common.{cond, drop, false, get_or, inl, inr, is_eq, is_ok, is_some, length}
pub use Rattle.std.proofs.Common.{length-append, lit≤, map, nat_cmp, nat_le, negsuc, not, of_z, option_map}
pub use Rattle.std.proofs.Common.{pos, refl, replicate, rules, string_bytes, subst, suc, sym, take, to_z}
pub use Rattle.std.proofs.Common.{true, w16, w32, w64, w8, zero, ℕ, ℤ, ◌%◌, ◌*ℤ◌, ◌*◌, ◌++◌, ◌+ℤ◌, ◌+◌, ◌-ℤ◌}
pub use Rattle.std.proofs.Common.{◌-◌, ◌/◌, ◌<ℤ◌, ◌<◌, ◌^◌, ◌||◌, ◌↔◌, ◌∙◌, ◌∷◌, ◌≡◌, ◌≤ℤ◌, ◌≤◌}
pub use Rattle.std.proofs.lemmas.Bool.{false≢true}
pub use Rattle.std.proofs.lemmas.Int.{by_lt_z, ints}
pub use Rattle.std.proofs.lemmas.List.Elements.{All-head, All-tail}
pub use Rattle.std.proofs.lemmas.Result.{IfErr-weaker, IfOk-weaker}
pub use Rattle.std.specs.Fmt.{format_spec}
pub use Rattle.std.specs.Int.{int_div_euclid}
pub use Rattle.std.specs.List.{AllZip, concat, flat_map, list_all, list_any, repeat}
pub use Rattle.std.specs.Ordering.{int_eq, match_ordering}
pub use Rattle.std.specs.Prelude.{All, IfErr, IfSome, String, bytes_eq, count_by, decimal, filter}
pub use Rattle.std.specs.Prelude.{if◌then◌else◌, int_lt, option_and_then, sum_by, unwrap_or, ◌&&◌, ◌==◌}
pub use Rattle.jiff.specs.Placed.{IsPosixZone}
pub use Rattle.jiff.specs.Words.{date_text, epoch_day}
pub use Rattle.jiff_core.specs.Timestamp.{IsOffsetSeconds}
pub use Rattle.jiff_core.specs.declared.civil.date.Date.{Date}
pub use Rattle.jiff_core.specs.declared.civil.datetime.DateTime.{DateTime}
pub use Rattle.jiff_tz.specs.PosixReader.{read_whole}
pub use Rattle.jiff_tz.specs.PosixText.{DstText, TzText, dst_view, tz_view}
pub use Rattle.jiff_tz.specs.declared.timezone.TimeZone.{TimeZone}
pub use Rattle.jiff_tz.specs.declared.timezone.TimeZone.TheVariants.{Fixed, Posix, Tzif, UTC, Unknown}
pub use Rattle.portal_codes.specs.Code.{IsCode, character_of, text_of}
pub use Rattle.portal_files.specs.Amount.{amount_text, left_in, right_in, two_digits}
pub use Rattle.portal_files.specs.DayText.{IsDateText, IsDayText, IsPair}
pub use Rattle.portal_files.specs.LocalDay.{local_day_of, local_seconds}
pub use Rattle.portal_files.specs.Minute.{IsMinuteText, minute_text}
pub use Rattle.portal_files.specs.PlansFile.{ArePlanTables, IsPlanData, IsPlanTable, IsPlansFile}
pub use Rattle.portal_files.specs.PlansFile.{member_count}
pub use Rattle.portal_files.specs.PrintFile.{IsPrintFile, code_fields, header, limit_text, csv_line}
pub use Rattle.portal_files.specs.Private.Written.{IsReady, Shared, code_row, header_row, shared_of}
pub use Rattle.portal_files.specs.Private.Written.{written_text}
pub use Rattle.portal_files.specs.SettingsFile.{IsSettingsFile, IsSettingsTable, IsTextAt, IsVenueAt}
pub use Rattle.portal_files.specs.SettingsFile.{IsZoneAt, SettingsValue, is_url, key_count}
pub use Rattle.portal_files.specs.Takings.{ArePaid, RuleFixesDays, TakingsAreAdded, TakingsLocalDay}
pub use Rattle.portal_files.specs.Takings.{TakingsRefundDay, paid_on, sum_of}
pub use Rattle.portal_model.specs.IdText.{IsIdText}
pub use Rattle.portal_model.specs.Payments.{Payment, by_day, payment, refunds_of, sales_of}
pub use Rattle.portal_model.specs.Span.{IsDay}
pub use Rattle.portal_model.specs.Terms.{AreTerms, IsPlanOf}
pub use Rattle.portal_model.specs.Verdict.{has_duplicate_id}
pub use Rattle.portal_model.specs.declared.plan.Plan.{Plan}
pub use Rattle.portal_model.specs.declared.takings.DayTakings.{DayTakings}
pub use Rattle.toml.proofs.Views.{items_view-push, table_get}
pub use Rattle.toml.specs.Data.{Data, Items, Members, array, as_array, as_bool, as_str, boolean, get_member}
pub use Rattle.toml.specs.Data.{integer, item, member, no_items, no_members, push_item, string, table}
pub use Rattle.toml.specs.Parse.{parse_document}
pub use Rattle.toml.specs.View.{array_view, items_view, members_view, table_view, view}
pub use Rattle.toml.specs.declared.value.Value.{Value}
