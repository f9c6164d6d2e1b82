-- Values that are found by a key, and rows that are selected in an order.
use Rattle.std.specs.Prelude.{◌≡◌, ◌≤◌, ℕ, List, map, filter, length, Bool, Option, Some, None, IsPermutation}
use Rattle.std.specs.List.{range_with_len}
use Rattle.std.specs.List.Sorted.{IsSorted}
use Rattle.std.specs.Ordering.{is_eq}
use Rattle.std.specs.declared.cmp.Ordering.{Ordering}
use Rattle.sqlite.specs.declared.types.Value.{Value}
use Rattle.sqlite.specs.Order.{Row, column, value_cmp}
use Rattle.sqlite.specs.Tree.{Trees}
use Rattle.sqlite.specs.Table.{Table}
use Rattle.sqlite_schema.specs.Names.{place_of}
use Rattle.sqlite_rules.specs.Lists.{Has}

-- a value with the key, or None if no value has it
abbrev pub Finds : {P K : Type 0} → (P → K) → K → List P → Option P → Type 0
Finds {P = P} key k values None = (p : P) → Has values p → key p ≡ k → ⊥
Finds key k values (Some p) = Has values p × (key p ≡ k)

-- the value with the greatest number among those with the key, or None
abbrev pub FindsLast : {P K : Type 0} → (P → K) → K → (P → ℕ) → List P → Option P → Type 0
FindsLast {P = P} key k number values None = (p : P) → Has values p → key p ≡ k → ⊥
FindsLast {P = P} key k number values (Some p) =
    Has values p × (key p ≡ k) × ((q : P) → Has values q → key q ≡ k → number q ≤ number p)

-- the values of the columns of a stored row, in the order of the table
abbrev pub fields : Table → Row → Row
fields table row = map (λ at. column row (place_of table at)) (range_with_len 0 (length table.columns))

-- the rows of a table, as SELECT gives them
abbrev pub rows_in : Table → Trees → List Row
rows_in table db = map (fields table) (db table.tree)

-- the first columns of a row of a result
abbrev pub columns : ℕ → Row → Row
columns count row = map (column row) (range_with_len 0 count)

-- the column is the key, as SQL compares values
abbrev pub has_key : ℕ → Value → Row → Bool
has_key at key row = is_eq (value_cmp (column row at) key)

-- the rows that pass the test, in this order
pub record IsSelection (p : Row → Bool) (cmp : Row → Row → Ordering) (rows out : List Row) : Type 0 where
  pub same : IsPermutation (filter p rows) out
  pub sorted : IsSorted cmp out

-- by the value in a column
abbrev pub by_column : ℕ → Row → Row → Ordering
by_column at a b = value_cmp (column a at) (column b at)
