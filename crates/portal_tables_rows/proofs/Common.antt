-- The words of other crates that the proofs cite, passed on from one place.
pub use Rattle.std.proofs.Common.{All, Bool, Equal, Err, Global, Greater, IfErr, IfOk, IfSome, IsErrAnd}
pub use Rattle.std.proofs.Common.{IsSome, IsTrue, Less, List, None, Ok, OnErr, OnOk, Option, Ordering, Result}
pub use Rattle.std.proofs.Common.{Some, Vec, [], add-one, add-suc, add-zero, add_assoc, ap, append-nil}
pub use Rattle.std.proofs.Common.{append_assoc, ap₂, arith, bytes_eq, codes, cond, count_by, drop, eq-eqb}
pub use Rattle.std.proofs.Common.{false, filter, find, fold, get_or, if◌then◌else◌, inl, inr, is_eq, is_ge}
pub use Rattle.std.proofs.Common.{is_le, is_lt, length, length-take, lit<, lit≤, map, max, nat_cmp, nat_eq}
pub use Rattle.std.proofs.Common.{nat_le, nat_lt, ne_eqb, negsuc, one-add, option_map, pos, refl, rules}
pub use Rattle.std.proofs.Common.{slice_get, slice_index_or, subst, subst₂, suc, sum_by, sym, take, tests}
pub use Rattle.std.proofs.Common.{true, true≢false, unwrap_or, w64, zero, zero-add, ℕ, ℤ, ◌&&◌, ◌++◌, ◌+◌}
pub use Rattle.std.proofs.Common.{◌-◌, ◌/◌, ◌<◌, ◌==◌, ◌^◌, ◌||◌, ◌↔◌, ◌∙◌, ◌∷◌, ◌≡◌, ◌≤◌, ◌⊎◌}
pub use Rattle.std.proofs.lemmas.Int.{ints, to_z_pos}
pub use Rattle.std.proofs.lemmas.List.{get_or-map, length-map, map-append, take-append-drop, take_all}
pub use Rattle.std.proofs.lemmas.List.{take_more}
pub use Rattle.std.proofs.lemmas.Result.{IfOk-weaker, err_from_is_err_and}
pub use Rattle.std.proofs.lemmas.Slice.Eq.{bytes_eq-Decides, slice_eq-Decides}
pub use Rattle.std.specs.List.Sorted.{IsPermutation, IsSorted, IsStrictlyIncreasing}
pub use Rattle.std.proofs.lemmas.Bool.{cases_Bool, eqb-true}
pub use Rattle.std.proofs.lemmas.Bool.Decides.{Decides-eqb, Decides-int_eq, nat_tests}
pub use Rattle.std.proofs.lemmas.Iterator.{YieldsList-from_slice}
pub use Rattle.std.proofs.lemmas.Iterator.Search.{all_from_yields_List}
pub use Rattle.std.proofs.lemmas.List.Elements.{All-push, filter-append}
pub use Rattle.std.proofs.lemmas.List.Folds.{list_all-map, list_any-append}
pub use Rattle.std.proofs.lemmas.List.Sorted.{IsPermutation-map, IsPermutation-sym, IsPermutation-trans}
pub use Rattle.std.proofs.lemmas.List.Sorted.{length_permutation, ranks_by, sorted_far}
pub use Rattle.std.specs.HashMap.{get}
pub use Rattle.std.specs.HashSet.{contains}
pub use Rattle.std.specs.List.{AllByRecursion, list_all, list_any, position_from, range_with_len}
pub use Rattle.std.specs.Prelude.{option_and_then}
pub use Rattle.portal_codes.specs.Code.{IsCode, Spells, text_of}
pub use Rattle.portal_ledger.specs.RequestRow.{AnswerCells, RequestRow, row_of_request, text_of_caller}
pub use Rattle.portal_model.specs.Device.{IsDevice, SpellsDevice, text_of_device}
pub use Rattle.portal_model.specs.Rows.{CountRow, GrantRow, SessionRow, TotalRow, VoucherRow, count_from}
pub use Rattle.portal_model.specs.Rows.{new_counts, new_vouchers, total_from, total_row}
pub use Rattle.portal_model.specs.declared.plan.Plan.{Plan}
pub use Rattle.portal_tables_rows.specs.Audit.{Agrees, AreReadRows, HasCounters, IsAudited, has_count}
pub use Rattle.portal_tables_rows.specs.Audit.{is_counted, total_in}
pub use Rattle.portal_tables_rows.specs.Contents.{Contents, HeadRow, batch_cells, count_cells, flag}
pub use Rattle.portal_tables_rows.specs.Contents.{grant_cells, grant_stored, head_cells, head_stored}
pub use Rattle.portal_tables_rows.specs.Contents.{plan_cells, request_cells, session_cells, session_stored}
pub use Rattle.portal_tables_rows.specs.Contents.{signed_or_null, text_or_null, total_cells, total_stored}
pub use Rattle.portal_tables_rows.specs.Contents.{voucher_cells}
pub use Rattle.portal_tables_rows.specs.Contents.{WholeSession, WholeVoucher, count_of, total_of}
pub use Rattle.portal_tables_rows.specs.Contents.{whole_session_cells, whole_session_stored}
pub use Rattle.portal_tables_rows.specs.Contents.{whole_voucher_cells}
pub use Rattle.portal_tables_rows.specs.Creation.{AreNamesFree, Builds, IsCreated, Makes, MayBuild}
pub use Rattle.portal_tables_rows.specs.Creation.{are_names_free, new_store, no_rows}
pub use Rattle.portal_tables_rows.specs.First.{HasApart, HasBare, HasFirst, HoldsApart, HoldsBare}
pub use Rattle.portal_tables_rows.specs.First.{HoldsFirst}
pub use Rattle.portal_tables_rows.specs.Foreign.{AreOfOwn, AreOwn, BlamesForeign, IsOfOwn, IsOwnBatch}
pub use Rattle.portal_tables_rows.specs.Foreign.{IsOwnCount, IsOwnGrant, IsOwnHead, IsOwnPlan, IsOwnRefund}
pub use Rattle.portal_tables_rows.specs.Foreign.{IsOwnSession, IsOwnTotal, IsOwnVoucher, IsOwnWholeSession}
pub use Rattle.portal_tables_rows.specs.Foreign.{IsOwnWholeVoucher, IsPrintedCode, IsPrintedDevice}
pub use Rattle.portal_tables_rows.specs.Foreign.{NotForeign}
pub use Rattle.portal_tables_rows.specs.Holds.{CrashStateHoldsRows, HasTables, HasTablesIn, Holds}
pub use Rattle.portal_tables_rows.specs.Holds.{HoldsIn, HoldsTables, IsTableAt, StoresRows, TablePlace}
pub use Rattle.portal_tables_rows.specs.Holds.{AreSessions, AreVouchers, TablePlaces, layout_of}
pub use Rattle.portal_tables_rows.specs.Holds.{TablesExist, this_schema_version}
pub use Rattle.portal_tables_rows.specs.Keyed.{has_keys}
pub use Rattle.portal_tables_rows.specs.Lists.{IsOwnSale, Lists, ListsAs, ListsOpen, by_place, by_refund}
pub use Rattle.portal_tables_rows.specs.Lists.{by_sale, is_open_row, is_within, refund_columns}
pub use Rattle.portal_tables_rows.specs.Lists.{refund_read, sale_cells, sale_columns, sale_read}
pub use Rattle.portal_tables_rows.specs.Migrations.{AreCountedOf, AreInOrder, AreTotaledOf, CommitsFrom}
pub use Rattle.portal_tables_rows.specs.Migrations.{HasMigrated, IsReadFree, MayCommitFrom, MayMigrate}
pub use Rattle.portal_tables_rows.specs.Migrations.{Rebuilds, after_migration, copied_tables, counts_read}
pub use Rattle.portal_tables_rows.specs.Migrations.{counts_summed, migrated_rows, tables_of, totals_read}
pub use Rattle.portal_tables_rows.specs.Migrations.{totals_summed, version_number, with_copied}
pub use Rattle.portal_tables_rows.specs.Migrations.{with_later_tables, with_whole, with_whole_sessions}
pub use Rattle.portal_tables_rows.specs.Migrations.{with_whole_vouchers}
pub use Rattle.portal_tables_rows.specs.Others.{CrashStateHasOthers, KeepsOthers, is_own}
pub use Rattle.portal_tables_rows.specs.Read.{count_part, count_read, head_read, old_session_read}
pub use Rattle.portal_tables_rows.specs.Read.{old_voucher_read, session_part, session_read, session_total}
pub use Rattle.portal_tables_rows.specs.Read.{total_part, voucher_count, voucher_read, whole_session_read}
pub use Rattle.portal_tables_rows.specs.Read.{whole_voucher_read}
pub use Rattle.portal_tables_rows.specs.Requests.{key_of, request_read}
pub use Rattle.portal_tables_sql.specs.Tables.{Apart, IsTableIn, Layout, Together}
pub use Rattle.portal_tables_sql.specs.Tables.{batches, batches_name, counts, counts_name, create_batches}
pub use Rattle.portal_tables_sql.specs.Tables.{create_counts, create_grants, create_head, create_plans}
pub use Rattle.portal_tables_sql.specs.Tables.{create_requests, create_sessions, create_totals}
pub use Rattle.portal_tables_sql.specs.Tables.{create_vouchers, grants, grants_name, head, head_name, plans}
pub use Rattle.portal_tables_sql.specs.Tables.{plans_name, requests, requests_name, sessions, sessions_name}
pub use Rattle.portal_tables_sql.specs.Tables.{totals, totals_name, vouchers, vouchers_name}
pub use Rattle.portal_tables_rows.specs.SchemaVersions.{GivesSchemaVersion, IsNoQuery, IsOneRow, QueryAnswers}
pub use Rattle.portal_tables_rows.specs.SchemaVersions.{has_index_on, is_any_name_taken, is_indexed}
pub use Rattle.portal_tables_rows.specs.SchemaVersions.{schema_version_text}
pub use Rattle.portal_tables_rows.specs.Selects.{ReadsMany, ReadsRow, ReadsTables}
pub use Rattle.portal_tables_rows.specs.Steps.{CommitsRows, MakesRows, MayCommitRows, Writes, count_row}
pub use Rattle.portal_tables_rows.specs.Steps.{ends_row, first_head, granted_row, new_voucher, opened_row}
pub use Rattle.portal_tables_rows.specs.Steps.{with_batch, with_close, with_count, with_counts, with_ends}
pub use Rattle.portal_tables_rows.specs.Steps.{with_grant, with_head, with_moment, with_numbers, with_plan}
pub use Rattle.portal_tables_rows.specs.Steps.{with_plans, with_redeemed, with_refund, with_request}
pub use Rattle.portal_tables_rows.specs.Steps.{with_sale, with_schema_version, with_session, with_total}
pub use Rattle.portal_tables_rows.specs.Steps.{new_whole_voucher, opened_whole, with_use, with_voucher}
pub use Rattle.portal_tables_rows.specs.Steps.{with_vouchers, with_whole_session, with_whole_voucher}
pub use Rattle.portal_tables_rows.specs.Sums.{AreUses, IsKeptSum, given_to, grant_read, nothing_given}
pub use Rattle.portal_tables_rows.specs.Sums.{rows_for_sums, uses_in}
pub use Rattle.portal_tables_rows.specs.declared.column_values.Total.{Total}
pub use Rattle.portal_tables_rows.specs.declared.grants.GrantValue.{GrantValue}
pub use Rattle.portal_tables_rows.specs.declared.rows.CountValue.{CountValue}
pub use Rattle.portal_tables_rows.specs.declared.rows.OldSession.{OldSession}
pub use Rattle.portal_tables_rows.specs.declared.rows.OldVoucher.{OldVoucher}
pub use Rattle.portal_tables_rows.specs.declared.rows.SessionValue.{SessionValue}
pub use Rattle.portal_tables_rows.specs.declared.rows.RowError.{RowError}
pub use Rattle.portal_tables_rows.specs.declared.rows.VoucherValue.{VoucherValue}
pub use Rattle.portal_tables_rows.specs.declared.schema_versions.OldSchema.TheVariants.{First, Fourth, Second}
pub use Rattle.portal_tables_rows.specs.declared.schema_versions.OldSchema.TheVariants.{Fifth, Sixth, Third}
pub use Rattle.portal_tables_rows.specs.declared.schema_versions.OldSchema.{OldSchema}
pub use Rattle.portal_tables_rows.specs.declared.sums.Given.{Given}
pub use Rattle.portal_tables_sql.proofs.AskLemmas.{means_simple, simple_asks}
pub use Rattle.portal_tables_sql.proofs.FindLemmas.{equal_is, first_of_one, found_none, found_some, has_along}
pub use Rattle.portal_tables_sql.proofs.FindLemmas.{has_image, where_key}
pub use Rattle.portal_tables_sql.proofs.Frame.{on_err}
pub use Rattle.portal_tables_sql.proofs.HarmlessLemmas.{both, counts_of, unacted_of}
pub use Rattle.portal_tables_sql.proofs.InsideLemmas.{inside_by, on_failed}
pub use Rattle.portal_tables_sql.proofs.Keys.{agree, exact_null, exact_signed, finds_last, finds_no_last}
pub use Rattle.portal_tables_sql.proofs.Keys.{finds_none, finds_some, has_mapped, number_itself, number_test}
pub use Rattle.portal_tables_sql.proofs.Keys.{rows_shown, same_number, same_text, text_itself, text_test}
pub use Rattle.portal_tables_sql.proofs.LooksLemmas.{fails_then, looks_read, looks_then, looks_weaker}
pub use Rattle.portal_tables_sql.proofs.LooksLemmas.{reads_fails, reads_then, same_now, still_open}
pub use Rattle.portal_tables_sql.proofs.Lookup.{IsSelect, all_columns, by, column_is, field_at}
pub use Rattle.portal_tables_sql.proofs.Lookup.{first_selected, key_tests, literal_tests, orders_by}
pub use Rattle.portal_tables_sql.proofs.Lookup.{orders_down, select_from, selected}
pub use Rattle.portal_tables_sql.proofs.Makes.{IsCreate, makes_inside}
pub use Rattle.portal_tables_sql.proofs.Queries.{drafted, equals, over, simple, unlimited}
pub use Rattle.portal_tables_sql.proofs.RowLemmas.{same_rows}
pub use Rattle.portal_tables_sql.proofs.Scan.{IsScan, env, keys_of, passes, scan_all, shown_of}
pub use Rattle.portal_tables_sql.proofs.Selects.{core_of, down, from_table, insert_into, select_means}
pub use Rattle.portal_tables_sql.proofs.Selects.{select_of, up, update_where, where_is}
pub use Rattle.portal_tables_sql.proofs.Storing.{appended, bound_number, bound_signed, cast_int, cast_null}
pub use Rattle.portal_tables_sql.proofs.Storing.{cast_or_null, cast_signed_or_null, opens_keyed}
pub use Rattle.portal_tables_sql.proofs.Storing.{opens_numbered, put_in, rows_set, truth_is}
pub use Rattle.portal_tables_sql.proofs.TableExistsLemmas.{now_stands, still_stands}
pub use Rattle.portal_tables_sql.proofs.Texts.{IsPlainSelect, IsText, Means, means_is, program_of}
pub use Rattle.portal_tables_sql.specs.Asks.{AnswersCells, Anything, Asks, IsSimple, OnlyAsks}
pub use Rattle.portal_tables_sql.specs.Finds.{Finds, FindsLast, IsSelection, by_column, columns, fields}
pub use Rattle.portal_tables_sql.specs.Finds.{has_key, rows_in}
pub use Rattle.portal_tables_sql.specs.Harmless.{any_autoincrement}
pub use Rattle.portal_tables_sql.specs.Looks.{Looks, ReadsOnly}
pub use Rattle.portal_tables_sql.specs.Made.{HasItsSequence, HasMade}
pub use Rattle.portal_tables_sql.specs.States.{IsUndone}
pub use Rattle.portal_tables_sql.specs.Stored.{Stores, less_rowid, number, or_null, put_by, whole_row}
pub use Rattle.portal_tables_sql.specs.TableExists.{IsUnacted, IsUnactedBy, TableExists}
pub use Rattle.sqlite.proofs.Callers.{IsPlain, command_of, reads_as, survives_begin}
pub use Rattle.sqlite.proofs.StateLemmas.{survives_then, survives_weaker}
pub use Rattle.sqlite.specs.Change.{created, next_tree}
pub use Rattle.sqlite.specs.Command.TheVariants.{Insert, Rows, Select, Update}
pub use Rattle.sqlite.specs.Command.{Command}
pub use Rattle.sqlite.specs.Effect.{Database, IsDatabase, RefusesToRead}
pub use Rattle.sqlite.specs.Held.{Held, state}
pub use Rattle.sqlite.specs.Listing.{IsSourceOf, if_select, is_select, listing_schema, misses_table}
pub use Rattle.sqlite.specs.Listing.{reads_listing, understood}
pub use Rattle.sqlite.specs.Order.{Row, column, value_cmp}
pub use Rattle.sqlite.specs.Program.{overlay}
pub use Rattle.sqlite.specs.Query.{IsAnswer}
pub use Rattle.sqlite.specs.Schema.{Schema}
pub use Rattle.sqlite.specs.Source.TheVariants.{Values}
pub use Rattle.sqlite.specs.State.{Executes, ExecutesInside, FailsToShow, HasCleanDisk, IsUnchanged}
pub use Rattle.sqlite.specs.State.{KeepsCommit, Shown, Shows, State, Survives, store_error}
pub use Rattle.sqlite.specs.Steps.{FailsToCommit}
pub use Rattle.sqlite.specs.Store.{Ghosts}
pub use Rattle.sqlite.specs.Table.{Table}
pub use Rattle.sqlite.specs.Term.{Term, col, eval, eval_all, holds, lit, op2}
pub use Rattle.sqlite.specs.Tree.{IsTable, Trees, put_row, rowid}
pub use Rattle.sqlite.specs.declared.error.Error.{Error}
pub use Rattle.sqlite.specs.declared.types.Value.TheVariants.{Int, Null, Text}
pub use Rattle.sqlite.specs.declared.types.Value.{Value}
pub use Rattle.sqlite_catalog.proofs.AlterLemmas.{place_has}
pub use Rattle.sqlite_resolve.specs.declared.compiled.Compiled.{Compiled}
pub use Rattle.sqlite_resolve.specs.declared.error.CompileError.{CompileError}
pub use Rattle.sqlite_rules.proofs.ListLemmas.{all_from, all_has, contains_had, has_at, has_filtered}
pub use Rattle.sqlite_rules.specs.Lists.{Has}
pub use Rattle.sqlite_schema.specs.Names.{column_named, is_key, place_of, table_named, view_named}
pub use Rattle.sqlite_schema.specs.declared.schema.Index.{Index}
pub use Rattle.sqlite_schema.specs.declared.schema.Reference.{Reference}
pub use Rattle.sqlite_sql.specs.declared.ops.CompareOp.TheVariants.{Ge, Le}
pub use Rattle.sqlite_trees.proofs.ListLemmas.{filter-map, map-map, pull_back}
pub use Rattle.sqlite_value.proofs.OrderLemmas.{then-Equal, value_cmp-Int, value_cmp-Null, value_cmp-Text}
pub use Rattle.sqlite_value.proofs.OrderLemmas.{value_cmp-apart, value_cmp_total}
pub use Rattle.sqlite_value.specs.declared.keys.Collation.TheVariants.{Binary}
pub use Rattle.sqlite_value.specs.declared.keys.Key.{Key}
pub use Rattle.sqlite_value.specs.declared.keys.Order.{Order}
