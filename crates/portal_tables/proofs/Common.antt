-- The words of other crates that the proofs cite, passed on from one place.
pub use Rattle.std.proofs.Common.{All, Bool, Bor, BuildHasherDefault, Err, FoldHasher, Global, IfNone, IfSome}
pub use Rattle.std.proofs.Common.{IsErrAnd, IsTrue, Less, List, None, Ok, Option, Ordering, Result, Some, Vec}
pub use Rattle.std.proofs.Common.{[], add-one, ap, append-nil, ap₂, arith, bytes_eq, codes, cond, count_by}
pub use Rattle.std.proofs.Common.{eq-eqb, false, filter, find, get_or, get_or-take, inl, inr, is_lt, is_none}
pub use Rattle.std.proofs.Common.{is_some, length, lit<, lit≤, map, max, nat_cmp, nat_eq, nat_lt, ne_eqb, not}
pub use Rattle.std.proofs.Common.{option_and_then, option_map, pos, refl, rules, slice_index, subst, suc}
pub use Rattle.std.proofs.Common.{sum_by, sym, take, true, true≢false, unwrap_or, zero, zero-add, ℕ, ◌%◌}
pub use Rattle.std.proofs.Common.{◌&&◌, ◌*◌, ◌++◌, ◌+◌, ◌-ℤ◌, ◌-◌, ◌<◌, ◌^◌, ◌||◌, ◌∙◌, ◌∷◌, ◌≡◌, ◌≢◌, ◌≤◌}
pub use Rattle.std.proofs.Common.{◌⊎◌}
pub use Rattle.std.proofs.Math.Logic.{∥∥₁_elim, ∥∥₁_map}
pub use Rattle.std.proofs.lemmas.Bool.{cases_Bool, cases_eq}
pub use Rattle.std.proofs.lemmas.Bool.Decides.{Decides-eqb, nat_tests}
pub use Rattle.std.proofs.lemmas.Int.{ints}
pub use Rattle.std.proofs.lemmas.List.{length-map, length-take, map-append, take_all, take_more}
pub use Rattle.std.proofs.lemmas.List.Elements.{All-filter, All-from_recursion, All-head, All-map, All-tail}
pub use Rattle.std.proofs.lemmas.List.Elements.{All-weaker, filter_map-append, recursion_from_All}
pub use Rattle.std.proofs.lemmas.List.Sums.{sum_by-cons}
pub use Rattle.std.proofs.lemmas.Result.{IfErr-weaker, IfOk-weaker, err_from_is_err_and}
pub use Rattle.std.proofs.lemmas.Slice.Eq.{bytes_eq-Decides}
pub use Rattle.std.specs.HashMap.{HashMap, get_by}
pub use Rattle.std.specs.List.{AllByRecursion, cons_option, filter_map, list_any, range_with_len}
pub use Rattle.std.specs.List.Sorted.{IsPermutation, IsSorted}
pub use Rattle.std.specs.Option.{option_or}
pub use Rattle.portal_codes.specs.Code.{IsCode, text_of}
pub use Rattle.portal_model_laws.proofs.Numbers.{keys_apart, rows_are_numbered}
pub use Rattle.portal_model_laws.proofs.Openings.{IsFirst, openings_first, session_at}
pub use Rattle.portal_model_laws.proofs.Sessions.{counts_are_sums, last_session_is_row, session_is_row}
pub use Rattle.portal_model_laws.proofs.Sessions.{totals_are_sums}
pub use Rattle.portal_model_laws.proofs.Typed.{rows_are_typed}
pub use Rattle.portal_tables_rows.specs.Migrations.{HasMigrated, MayMigrate, version_number, migrated_rows}
pub use Rattle.portal_tables_rows.specs.Creation.{are_names_free, new_store}
pub use Rattle.portal_tables_rows.specs.SchemaVersions.{QueryAnswers, IsOneRow, GivesSchemaVersion}
pub use Rattle.portal_tables_rows.specs.SchemaVersions.{is_any_name_taken, is_usable_schema}
pub use Rattle.portal_tables_rows.specs.SchemaVersions.{hangs_on_ours, is_entangled, is_indexed}
pub use Rattle.portal_tables_rows.specs.declared.schema_versions.OldSchema.{OldSchema}
pub use Rattle.portal_tables_rows.specs.declared.schema_versions.OldSchema.TheVariants.{Fifth, First, Fourth}
pub use Rattle.portal_tables_rows.specs.declared.schema_versions.OldSchema.TheVariants.{Sixth}
pub use Rattle.portal_tables_rows.specs.declared.schema_versions.OldSchema.TheVariants.{Second}
pub use Rattle.portal_tables_rows.specs.declared.schema_versions.OldSchema.TheVariants.{Third}
pub use Rattle.portal_ledger.proofs.Ledgers.{kept_under, the_held_is_row, the_sound_is_legal}
pub use Rattle.portal_ledger.specs.Ledger.{Accepted, IsSound, Ledger, all_rows_of, answer_in, held_in}
pub use Rattle.portal_ledger.specs.Ledger.{history_of, is_under, kept_with, request_kept, requests_of}
pub use Rattle.portal_ledger.specs.Fingerprint.{IsCaller, Fingerprint, same_caller, same_key}
pub use Rattle.portal_ledger.specs.RequestRow.{IsKeptTyped, RequestRow, row_of_request, text_of_caller}
pub use Rattle.portal_ledger.specs.States.{MayBeFound, running, stopped}
pub use Rattle.portal_ledger.specs.declared.marked.MarkedChanges.{MarkedChanges}
pub use Rattle.portal_ledger.specs.declared.request.KeptRequest.{KeptRequest}
pub use Rattle.portal_tables_rows.proofs.SameCode.{code_test, same_code}
pub use Rattle.portal_tables_rows.proofs.WholeReading.{first_held, first_there}
pub use Rattle.portal_tables_rows.specs.Lists.{Lists, ListsAs, ListsOpen, by_place, by_refund, by_sale}
pub use Rattle.portal_tables_rows.specs.Lists.{is_left, is_open_row, is_within, refund_read}
pub use Rattle.portal_tables_rows.specs.Lists.{refund_columns, sale_read, sale_columns}
pub use Rattle.portal_tables_rows.specs.Sums.{rows_for_sums}
pub use Rattle.portal_tables_rows.specs.declared.lists.SaleValue.{SaleValue}
pub use Rattle.portal_model.specs.Captive.{all_sessions}
pub use Rattle.portal_model.specs.Change.{answer_of, changes_of, close_change, head_after, issue_change}
pub use Rattle.portal_model.specs.Change.{plan_among, redeem_change, refund_change, report_change}
pub use Rattle.portal_model.specs.Change.{with_report, sell_change, session_after}
pub use Rattle.portal_model.specs.Device.{IsDevice, SpellsDevice, text_of_device}
pub use Rattle.portal_model.specs.History.{Grant, History, IssuedVoucher, batch_of, codes_of, entry}
pub use Rattle.portal_model.specs.History.{grants_of, head_of, is_below, is_open_at, issued_of, kept_if}
pub use Rattle.portal_model.specs.History.{last_session_of, limit_or_none, members, oldest, plan_of}
pub use Rattle.portal_model.specs.History.{session_of, session_row, voucher_of, voucher_row}
pub use Rattle.portal_model.specs.Rows.{CountRow, GrantRow, Rows, SessionRow, TotalRow, VoucherRow}
pub use Rattle.portal_model.specs.Rows.{allowance_from, batch_among, batches_of, closed_if, count_among}
pub use Rattle.portal_model.specs.Rows.{count_from, count_of_place, counted_if, counts_of, voucher_of_rows}
pub use Rattle.portal_model.specs.Rows.{session_of_rows, last_among, last_session_from, rows_after_changes}
pub use Rattle.portal_model.specs.Rows.{new_counts, new_grant, new_vouchers, openings, places_of, plans_of}
pub use Rattle.portal_model.specs.Rows.{refunded_if, remaining_of, row_among, row_of_opening, row_of_place}
pub use Rattle.portal_model.specs.Rows.{rows_of, total_of_opening}
pub use Rattle.portal_model.specs.Rows.{session_among, session_from, session_opened, sessions_of, sold_if}
pub use Rattle.portal_model.specs.Rows.{total_among, total_from, total_row, totalled_if, totals_of, used_if}
pub use Rattle.portal_model.specs.Rows.{voucher_from, vouchers_of}
pub use Rattle.portal_model.specs.Verdict.{Follows, IsLegal, IsTyped, has_duplicate}
pub use Rattle.portal_model.specs.declared.change.Answer.{Answer}
pub use Rattle.portal_model.specs.declared.change.Changes.{Changes}
pub use Rattle.portal_model.specs.declared.plan.Plan.{Plan}
pub use Rattle.portal_model.specs.declared.record.Batch.{Batch}
pub use Rattle.portal_model.specs.declared.record.Session.{Session}
pub use Rattle.portal_tables_rows.proofs.OthersLemmas.{others_none}
pub use Rattle.portal_tables_rows.specs.Commands.{after_changes, after_command, after_command_with}
pub use Rattle.portal_tables_rows.specs.Commands.{after_remainder, with_kept_request}
pub use Rattle.portal_tables_rows.specs.Contents.{Contents, HeadRow, WholeSession, total_of}
pub use Rattle.portal_tables_rows.specs.First.{HasFirst}
pub use Rattle.portal_tables_rows.specs.Holds.{HasTables, Holds, HoldsIn, CrashStateHoldsRows, TablePlaces}
pub use Rattle.portal_tables_rows.specs.Holds.{TablesExist, this_schema_version}
pub use Rattle.portal_tables_rows.specs.Others.{KeepsOthers, CrashStateHasOthers}
pub use Rattle.portal_tables_rows.specs.Read.{head_read, session_read, session_total, voucher_count}
pub use Rattle.portal_tables_rows.specs.Read.{voucher_read, whole_session_read}
pub use Rattle.portal_tables_rows.specs.Steps.{CommitsRows, MayCommitRows, with_ends_if, ends_row}
pub use Rattle.portal_tables_rows.specs.Steps.{with_moment, with_use}
pub use Rattle.portal_tables_rows.specs.declared.rows.RowError.{RowError}
pub use Rattle.portal_tables_rows.specs.declared.rows.SessionValue.{SessionValue}
pub use Rattle.portal_tables_rows.specs.declared.rows.VoucherValue.{VoucherValue}
pub use Rattle.portal_tables_rows.specs.declared.column_values.Total.{Total}
pub use Rattle.portal_tables_sql.proofs.FindLemmas.{has_image, ok_both, ok_then}
pub use Rattle.portal_tables_sql.proofs.HarmlessLemmas.{as_before, both}
pub use Rattle.portal_tables_sql.proofs.Keys.{agree, has_mapped}
pub use Rattle.portal_tables_sql.proofs.LooksLemmas.{fails_then, fails_weaker, looks_weaker, reads_fails}
pub use Rattle.portal_tables_sql.proofs.LooksLemmas.{reads_none, reads_then, reads_weaker, same_now}
pub use Rattle.portal_tables_sql.proofs.LooksLemmas.{still_open}
pub use Rattle.portal_tables_sql.proofs.RepresentsLemmas.{again_at, at_open, left_still, shows_under}
pub use Rattle.portal_tables_sql.proofs.RepresentsLemmas.{still_at}
pub use Rattle.portal_tables_sql.specs.Finds.{FindsLast}
pub use Rattle.portal_tables_sql.specs.Looks.{Fails, Looks, ReadsOnly}
pub use Rattle.portal_tables_sql.specs.Represents.{CrashStateHolds, Represents}
pub use Rattle.portal_tables_sql.specs.States.{IsAsBefore, IsUndone}
pub use Rattle.portal_tables.specs.Attaching.{KeepsOrMigrates, FailsToAttach, HeadIsNoView, IsMigrated}
pub use Rattle.portal_tables.specs.Attaching.{IsCarried, IsCompleted, IsExactCause, IsKnown, AreTablesReady}
pub use Rattle.portal_tables.specs.Attaching.{IsCauseIn, CrashStateCarries, MayAttach, MayBeMigrated}
pub use Rattle.portal_tables.specs.Attaching.{AttachesOthers, HasNoActionOnOurs, Stays, GivesKnownVersion}
pub use Rattle.portal_tables.specs.Attaching.{HasNoTableOnOurs, MayBeCarried}
pub use Rattle.portal_tables.specs.PaymentLists.{AreOrderedSales, AreRefunds, AreSales, is_paid_within}
pub use Rattle.portal_tables.specs.PaymentLists.{payment_of}
pub use Rattle.portal_tables.specs.Older.{HaveNoFingerprints, CrashStateHoldsEither, HoldsLedgerIn}
pub use Rattle.portal_tables.specs.Prices.{ArePrices, payment_at, price_among}
pub use Rattle.portal_tables.specs.HoldsLedger.{IsRowOf, OfLedger, OfHistory, ReadsHistory, HoldsHistory}
pub use Rattle.portal_tables.specs.HoldsLedger.{HoldsLedger, all_contents_of, contents_of, count_kept}
pub use Rattle.portal_tables.specs.HoldsLedger.{grant_kept, head_kept, session_kept, voucher_kept}
pub use Rattle.portal_tables.specs.StoreHolds.{IsNoNameTaken, IsAnyNameTaken, HoldsOlder, StoreHolds}
pub use Rattle.portal_tables.specs.declared.attaching.Refused.{Refused}
pub use Rattle.portal_tables.specs.declared.errors.StoreFault.{StoreFault}
pub use Rattle.sqlite.proofs.ListingLemmas.{empty_is_sound}
pub use Rattle.sqlite.proofs.StateLemmas.{survives_then, survives_weaker}
pub use Rattle.sqlite.specs.Effect.{Database, IsDatabase}
pub use Rattle.sqlite.specs.Files.{AreFoundIn, HoldsDatabase, IsCleanLeft, IsNothing, IsOpened, LeavesFiles}
pub use Rattle.sqlite.specs.Files.{NamesSize, SaysSums, file_state, image_of, over_files}
pub use Rattle.sqlite.specs.Held.{Held, state}
pub use Rattle.sqlite.specs.Schema.{Schema}
pub use Rattle.sqlite.specs.State.{HasCleanDisk, IsUnchanged, State, Survives}
pub use Rattle.sqlite.specs.Tree.{IsAscending, Trees}
pub use Rattle.sqlite_rules.proofs.ListLemmas.{all_has, has_filtered}
pub use Rattle.sqlite_rules.specs.Lists.{Has}
pub use Rattle.sqlite_store.specs.FileStore.{faults, is_shielded, recovers, view}
pub use Rattle.sqlite_store.specs.Laws.{settled_at}
pub use Rattle.sqlite_trees.proofs.ListLemmas.{IsPermutation-filter, all_weaker, along_permutation}
pub use Rattle.sqlite_trees.proofs.ListLemmas.{ascending-filter, filter-filter, filter_all, filter_none}
pub use Rattle.sqlite_trees.proofs.ListLemmas.{pull_back}
pub use Rattle.sqlite_wal.specs.Files.{image_at, outcomes}
pub use Rattle.sqlite_wal.specs.Recovery.{Image, IsIgnored, pages_after}
