-- The words of other crates that the proofs cite, passed on from one place.
pub use Rattle.std.proofs.Common.{Bool, Equal, Err, Greater, IfErr, IfOk, IfSome, IsErrAnd, IsTrue, Less}
pub use Rattle.std.proofs.Common.{List, None, Ok, OnErr, OnOk, Option, Ordering, Result, Some, [], add-one}
pub use Rattle.std.proofs.Common.{ap, append-nil, ap₂, arith, bytes_eq, codes, cond, drop, eq-eqb, false}
pub use Rattle.std.proofs.Common.{filter, find, fold, get_or, if◌then◌else◌, inl, inr, int_cmp, is_eq, is_lt}
pub use Rattle.std.proofs.Common.{is_some, length, map, max, nat_eq, nat_le, nat_lt, ne_eqb, negsuc, not}
pub use Rattle.std.proofs.Common.{option_map, pos, refl, slice_get, slice_range, subst, subst₂, suc, sym}
pub use Rattle.std.proofs.Common.{take, true, true≢false, unwrap_or, zero, zero-add, ℕ, ℤ, ◌&&◌, ◌++◌, ◌+ℤ◌}
pub use Rattle.std.proofs.Common.{◌+◌, ◌-◌, ◌/◌, ◌<ℤ◌, ◌<◌, ◌==◌, ◌^◌, ◌||◌, ◌∙◌, ◌∷◌, ◌≡◌, ◌≤◌, ◌⊎◌}
pub use Rattle.std.proofs.lemmas.Bool.{cases_Bool, false_from_ne_true, not-true, or_parts}
pub use Rattle.std.proofs.lemmas.Bool.Decides.{Decides-eqb, nat_tests}
pub use Rattle.std.proofs.lemmas.Cmp.{tied_itself}
pub use Rattle.std.proofs.lemmas.Int.{ints}
pub use Rattle.std.proofs.lemmas.List.{get_or-map, length-map}
pub use Rattle.std.proofs.lemmas.List.Sorted.{Contains-permutation, IsPermutation-cons, IsPermutation-map}
pub use Rattle.std.proofs.lemmas.List.Sorted.{IsPermutation-middle, IsPermutation-refl, IsPermutation-sym}
pub use Rattle.std.proofs.lemmas.List.Sorted.{IsPermutation-trans, IsStrictWeakOrder-flip, ranks_by}
pub use Rattle.std.proofs.lemmas.List.Sorted.{sorted_far}
pub use Rattle.std.specs.List.{AllByRecursion, filter_map, list_all, list_any, position_from, range_with_len}
pub use Rattle.std.specs.List.Sorted.{IsPermutation, IsSorted}
pub use Rattle.std.specs.Option.{option_or}
pub use Rattle.std.specs.Prelude.{option_and_then}
pub use Rattle.portal_tables_sql.specs.Finds.{FindsLast, IsSelection, by_column, columns, fields, has_key}
pub use Rattle.portal_tables_sql.specs.Finds.{rows_in}
pub use Rattle.portal_tables_sql.specs.States.{IsAsBefore, IsUndone, KeepsNow}
pub use Rattle.portal_tables_sql.specs.Stored.{AreRows, Stores, less_rowid, number, or_null, put_by}
pub use Rattle.portal_tables_sql.specs.TableExists.{IsUnacted, IsUnactedBy, TableExists}
pub use Rattle.sqlite.proofs.Callers.{command_of, finds_again, never_commits, one_step, reads_as, runs_as}
pub use Rattle.sqlite.proofs.Callers.{statement_of}
pub use Rattle.sqlite.proofs.StateLemmas.{survives_then, survives_weaker, unchanged}
pub use Rattle.sqlite.specs.Cast.{cast, cast_row}
pub use Rattle.sqlite.specs.Command.TheVariants.{CreateIndex, CreateTable, Insert, Nothing, Select, Update}
pub use Rattle.sqlite.specs.Does.{AtPlace, OnRows, Tally, lacks_sequence}
pub use Rattle.sqlite.specs.Effect.{Database, IsDatabase, value_rows}
pub use Rattle.sqlite.specs.Held.{Held, state}
pub use Rattle.sqlite.specs.Listing.{misses_table, reads_listing}
pub use Rattle.sqlite.specs.Ops.{is_null}
pub use Rattle.sqlite.specs.Order.{Row, column, value_cmp}
pub use Rattle.sqlite.specs.Program.{overlay}
pub use Rattle.sqlite.specs.Query.{IsAnswer, Join, Output, Query, end, inner, key_cmp, output, output_cmp}
pub use Rattle.sqlite.specs.Query.{page}
pub use Rattle.sqlite.specs.Rowids.TheVariants.{Chosen, Given}
pub use Rattle.sqlite.specs.Schema.{Schema}
pub use Rattle.sqlite.specs.Source.TheVariants.{Values}
pub use Rattle.sqlite.specs.State.{CommitsShowing, Executes, ExecutesInside, HasCleanDisk, IsLive}
pub use Rattle.sqlite.specs.State.{IsRolledBack, IsUnchanged, KeepsCommit, Shows, State, Survives, Writes}
pub use Rattle.sqlite.specs.State.{mode_of}
pub use Rattle.sqlite.specs.Table.{Table}
pub use Rattle.sqlite.specs.Term.{Env, Term, col, eval, eval_all, holds, lit, op2}
pub use Rattle.sqlite.specs.Tree.{IsTable, Trees, rowid}
pub use Rattle.sqlite.specs.declared.error.Error.{Error}
pub use Rattle.sqlite.specs.declared.types.Value.TheVariants.{Blob, Int, Null, Real, Text}
pub use Rattle.sqlite_ast.specs.declared.Core.{Core, out-Core, roll-Core}
pub use Rattle.sqlite_ast.specs.declared.Select.{out-Select, roll-Select}
pub use Rattle.sqlite_ast.specs.declared.Source.{Source, out-Source, roll-Source}
pub use Rattle.sqlite_ast.specs.declared.Statement.{Statement}
pub use Rattle.sqlite_catalog.proofs.AlterLemmas.{place_has}
pub use Rattle.sqlite_catalog.specs.Listing.{IsSound, IsTableRow, is_table_row}
pub use Rattle.sqlite_draft.specs.Query.{query_of}
pub use Rattle.sqlite_draft.specs.declared.query.Draft.{Draft}
pub use Rattle.sqlite_resolve.specs.Compile.{first, index_defined_by, is_attached, returning, small}
pub use Rattle.sqlite_resolve.specs.Compile.{table_defined_by, timed, with_command}
pub use Rattle.sqlite_resolve.specs.Lowering.{Checked, and_then}
pub use Rattle.sqlite_resolve.specs.Scope.{Name}
pub use Rattle.sqlite_resolve.specs.Select.{named, paging}
pub use Rattle.sqlite_resolve.specs.declared.compiled.Compiled.{Compiled}
pub use Rattle.sqlite_resolve.specs.declared.error.CompileError.TheVariants.{Exists, Unsupported}
pub use Rattle.sqlite_resolve.specs.declared.error.CompileError.{CompileError}
pub use Rattle.sqlite_rules.proofs.ListLemmas.{all_from, all_has, contains_had, has_contained, has_filtered}
pub use Rattle.sqlite_rules.proofs.ListLemmas.{has_got, has_kept, test_has}
pub use Rattle.sqlite_rules.proofs.TableLemmas.{int_is, put_all_adds, put_all_has, put_all_keeps}
pub use Rattle.sqlite_rules.specs.Calls.{ids_of}
pub use Rattle.sqlite_rules.specs.Edit.{Applies, are_fresh, id_in, is_taken, next_rowid, put_all, taken_by}
pub use Rattle.sqlite_rules.specs.Edit.{with_rowid, without_all}
pub use Rattle.sqlite_rules.specs.Lists.{Has}
pub use Rattle.sqlite_schema.specs.Names.{index_named, place_of, same_name, table_named, view_named}
pub use Rattle.sqlite_schema.specs.Rules.{ParentKey, declared_order, key_in, key_places, parent_key}
pub use Rattle.sqlite_schema.specs.declared.command.Command.{Command}
pub use Rattle.sqlite_schema.specs.declared.schema.Action.TheVariants.{Cascade, NoAction, Restrict}
pub use Rattle.sqlite_schema.specs.declared.schema.Action.TheVariants.{SetDefault, SetNull}
pub use Rattle.sqlite_schema.specs.declared.schema.Index.{Index}
pub use Rattle.sqlite_schema.specs.declared.schema.Keys.TheVariants.{Deferred, Enforced, Off}
pub use Rattle.sqlite_schema.specs.declared.schema.Reference.{Reference}
pub use Rattle.sqlite_sql.specs.declared.ops.CompareOp.TheVariants.{Eq, Ge, Le}
pub use Rattle.sqlite_trees.proofs.ListLemmas.{along_permutation, filter-map, map-map, pull_back}
pub use Rattle.sqlite_trees.proofs.TreeLemmas.{IsTable-put_row, all-put_row}
pub use Rattle.sqlite_trees.specs.Objects.{catalog_tree}
pub use Rattle.sqlite_trees.specs.View.{is_int}
pub use Rattle.sqlite_typing.specs.Types.{accepts_program}
pub use Rattle.sqlite_value.proofs.OrderLemmas.{then-Equal, value_cmp-Int, value_cmp-Null, value_cmp-Text}
pub use Rattle.sqlite_value.proofs.OrderLemmas.{value_cmp_total}
pub use Rattle.sqlite_value.specs.declared.keys.Collation.TheVariants.{Binary}
pub use Rattle.sqlite_value.specs.declared.keys.Collation.{Collation}
pub use Rattle.sqlite_value.specs.declared.keys.Key.{Key}
