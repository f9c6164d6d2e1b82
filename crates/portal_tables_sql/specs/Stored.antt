-- The rows of a tree as values.
use Rattle.std.specs.Prelude.{◌≡◌, ℕ, pos, List, [], ◌∷◌, map, drop, Option, IsTrue}
use Rattle.std.specs.Ordering.{match_ordering}
use Rattle.std.specs.List.{AllByRecursion}
use Rattle.sqlite.specs.declared.types.Value.{Value}
use Rattle.sqlite.specs.declared.types.Value.TheVariants.{Int}
use Rattle.sqlite.specs.Order.{Row, value_cmp}
use Rattle.sqlite.specs.Values.{or_null as nullable}
use Rattle.sqlite.specs.Tree.{rowid, IsTable}
use Rattle.sqlite.specs.View.{is_int}

-- the cell of an integer
abbrev pub number : ℕ → Value
number n = Int (pos n)

-- the number, or NULL
abbrev pub or_null : Option ℕ → Value
or_null = nullable number

-- the rowids rise, and are integers
pub record AreRows (rows : List Row) : Type 0 where
  pub rise : IsTable rows
  pub keyed : AllByRecursion (λ r. IsTrue (is_int (rowid r))) rows

-- the rows of a tree, without what `cut` removes, are these
pub record Keeps (cut : Row → Row) (rows shown : List Row) : Type 0 where
  pub are : AreRows rows
  pub is : map cut rows ≡ shown

-- they are those of the values
abbrev pub Stores : {P : Type 0} → (Row → Row) → (P → Row) → List Row → List P → Type 0
Stores cut stored rows values = Keeps cut rows (map stored values)

-- the row with its rowid
abbrev pub whole_row : Row → Row
whole_row r = r

-- the row without its rowid
abbrev pub less_rowid : Row → Row
less_rowid = drop 1

-- the list with the value at its place by number, which it takes from a value with the same number
abbrev pub put_by : {X : Type 0} → (X → ℕ) → X → List X → List X
put_by key new [] = new ∷ []
put_by key new (x ∷ xs) = match_ordering (value_cmp (number (key x)) (number (key new)))
    (x ∷ put_by key new xs) (new ∷ xs) (new ∷ x ∷ xs)
