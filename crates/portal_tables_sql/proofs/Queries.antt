-- The queries that the texts compile to: one table, with terms in WHERE, terms of the result, and an order.
use Rattle.portal_tables_sql.proofs.Common.{ℕ, ℤ, pos, negsuc, List, [], ◌∷◌, false, None, Int, Term, lit}
use Rattle.portal_tables_sql.proofs.Common.{op2, Query, Join, inner, end, Eq, Key, Binary, Draft}
use Rattle.sqlite_sql.specs.declared.ops.BinaryOp.TheVariants as by
use Rattle.sqlite_draft.specs.declared.join.Step.TheVariants.{Inner}
use Rattle.sqlite_draft.specs.Join.{chain}

abbrev pub simple : Join → List Term → List Term → List (Term × Key) → ℤ → Query
simple from filter project order limit = record {
  from = from;
  filter = filter;
  group = None;
  project = project;
  distinct = false;
  collations = [];
  order = order;
  limit = lit (Int limit);
  offset = lit (Int (pos 0));
}

abbrev pub unlimited : ℤ
unlimited = negsuc 0

abbrev pub equals : Term → Term → Term
equals = op2 (by.Compare Eq Binary)

-- the columns of the rows of one table that pass a test
abbrev pub over : ℕ → List Term → List Term → Query
over tree filter project = simple (inner tree end) filter project [] unlimited

-- the same as a draft
abbrev pub drafted : ℕ → List Term → List Term → List (Term × Key) → ℤ → Draft
drafted tree filter project order limit = record {
  from = chain (Inner tree ∷ []);
  filter = filter;
  group = None;
  project = project;
  distinct = false;
  collations = [];
  order = order;
  limit = lit (Int limit);
  offset = lit (Int (pos 0));
}
