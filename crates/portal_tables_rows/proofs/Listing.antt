-- From the rows of a result to the values that were read of them, in their order.
use Rattle.portal_tables_rows.proofs.Common.{◌≡◌, ◌+◌, arith, ℕ, pos, List, [], ◌∷◌, map, filter}
use Rattle.portal_tables_rows.proofs.Common.{take, Bool, true, false, ◌&&◌, nat_le}
use Rattle.portal_tables_rows.proofs.Common.{Option, Some, None, refl, sym, ap, ap₂, subst, ◌∙◌, Ordering}
use Rattle.portal_tables_rows.proofs.Common.{nat_cmp, is_ge, is_le, IsSorted, nat_tests, ints, get_or-map}
use Rattle.portal_tables_rows.proofs.Common.{length-map, Null, Row, value_cmp, Ge}
use Rattle.portal_tables_rows.proofs.Common.{Le, Binary, value_cmp-Int, value_cmp-Null, value_cmp-apart}
use Rattle.portal_tables_rows.proofs.Common.{map-map, filter-map, pull_back, number, or_null, IsSelection}
use Rattle.portal_tables_rows.proofs.Common.{columns, Lists, ListsAs, is_within}
use Rattle.portal_tables_rows.proofs.Common.{sale_cells}
use Rattle.portal_tables_rows.specs.Lists.{ListsFirst}
use Rattle.std.proofs.lemmas.List.{take-map}
use Rattle.std.specs.Option.{option_cmp}
use Rattle.sqlite.specs.declared.types.Value.{Value}
use Rattle.sqlite.specs.Ops.{binary, is_true, from_truth}
use Rattle.sqlite_sql.specs.declared.ops.BinaryOp.TheVariants as by_op

-- ---- the order of SQL, at numbers, at texts, and where a number may be missing

pub number_order : (a b : ℕ) → value_cmp (number a) (number b) ≡ nat_cmp a b
number_order a b = value_cmp-Int (pos a) (pos b) ∙ grind (arith, ints, nat_tests)

pub option_order : (a b : Option ℕ) → value_cmp (or_null a) (or_null b) ≡ option_cmp nat_cmp a b
option_order None None = value_cmp-Null Null
option_order None (Some b) = value_cmp-Null (number b)
option_order (Some a) None = value_cmp-apart (number a) Null (λ e. cc)
option_order (Some a) (Some b) = number_order a b

-- ---- WHERE column >= a AND column <= b

abbrev pub sql_within : Value → Value → Value → Bool
sql_within v low high = is_true (binary (by_op.Compare Ge Binary) v low)
    && (is_true (binary (by_op.Compare Le Binary) v high) && true)

pub truth_back : (b : Bool) → is_true (from_truth (Some b)) ≡ b
truth_back true = refl
truth_back false = refl

not_below : (a b : ℕ) → is_ge (nat_cmp a b) ≡ nat_le b a
not_below a b = grind (arith, nat_tests)

not_above : (a b : ℕ) → is_le (nat_cmp a b) ≡ nat_le a b
not_above a b = grind (arith, nat_tests)

pub and_true : (b : Bool) → (b && true) ≡ b
and_true true = refl
and_true false = refl

pub within_is : (o : Option ℕ) (from to : ℕ)
    → sql_within (or_null o) (number from) (number to) ≡ is_within from to o
unfolding binary
within_is None from to = refl
within_is (Some at) from to =
    ap₂ ◌&&◌ (truth_back _ ∙ ap is_ge (number_order at from) ∙ not_below at from)
    (and_true _ ∙ truth_back _ ∙ ap is_le (number_order at to) ∙ not_above at to)

-- ---- rows and values

or_null_exact : (a b : Option ℕ) → or_null a ≡ or_null b → a ≡ b
or_null_exact None None e = refl
or_null_exact None (Some b) e = absurd (cc)
or_null_exact (Some a) None e = absurd (cc)
or_null_exact (Some a) (Some b) e = cc

pub exact_sale : (a b : List ℕ × Option ℕ) → sale_cells a ≡ sale_cells b → a ≡ b
exact_sale a b e =
    let first : a.0 ≡ b.0 = cc in
    let second : or_null a.1 ≡ or_null b.1 = cc in
    ap₂ (λ x y. (x, y)) first (or_null_exact a.1 b.1 second)

pub sorted_from_map : {A B : Type 0} (f : A → B) (cmp : B → B → Ordering) (xs : List A)
    → IsSorted cmp (map f xs) → IsSorted (λ a b. cmp (f a) (f b)) xs
sorted_from_map f cmp xs h k d low within =
    rw (get_or-map f xs (k + 1) d (f d) within, get_or-map f xs k d (f d) (omega arith)) at
    (h k (f d) low (rw (length-map) within))

module _ {P : Type 0} (cells : P → Row) (passes : P → Bool) (cmp : P → P → Ordering) (values : List P) where
  -- the rows that a query selects are the cells of the values that pass
  pub cells_listed : (test : Row → Bool) (order : Row → Row → Ordering)
      → ((x : P) → test (cells x) ≡ passes x) → ((a b : P) → order (cells a) (cells b) ≡ cmp a b)
      → (rows : List Row) → IsSelection test order (map cells values) rows
      → ListsAs cells passes cmp values rows
  cells_listed test order tests orders rows s =
      let passing : filter test (map cells values) ≡ map cells (filter passes values) =
      filter-map test cells values ∙ (λ i. map cells (filter (λ x. tests x i) values)) in
      let back =
      pull_back cells (filter test (map cells values)) rows s.same (filter passes values) passing in
      let sorted = sorted_from_map cells order back.0 (subst (IsSorted order) back.2 s.sorted) in
      record {
        listed = back.0;
        lists = record {
          same = back.1;
          sorted = subst (λ (c : P → P → Ordering). IsSorted c back.0) (λ i a b. orders a b i) sorted;
        };
        shows = back.2;
      }

  exact_list : ((a b : P) → cells a ≡ cells b → a ≡ b) → (xs ys : List P)
      → map cells xs ≡ map cells ys → xs ≡ ys
  exact_list exact [] [] e = refl
  exact_list exact [] (y ∷ ys) e = absurd (cc)
  exact_list exact (x ∷ xs) [] e = absurd (cc)
  exact_list exact (x ∷ xs) (y ∷ ys) e =
      let first : cells x ≡ cells y = cc in
      let rest : map cells xs ≡ map cells ys = cc in
      ap₂ ◌∷◌ (exact x y first) (exact_list exact xs ys rest)

  -- the values that were read of the rows
  read_values : (count : ℕ) → ((p : P) → columns count (cells p) ≡ cells p)
      → ((a b : P) → cells a ≡ cells b → a ≡ b) → (rows : List Row) (l : ListsAs cells passes cmp values rows)
      → (kept : List P) → map cells kept ≡ map (columns count) rows → kept ≡ l.listed
  read_values count all exact rows l kept are =
      let shown : map (columns count) rows ≡ map cells l.listed = ap (map (columns count)) l.shows
      ∙ map-map (columns count) cells l.listed ∙ (λ i. map (λ p. all p i) l.listed) in
      exact_list exact kept l.listed (are ∙ shown)

  pub read_listed : (count : ℕ) → ((p : P) → columns count (cells p) ≡ cells p)
      → ((a b : P) → cells a ≡ cells b → a ≡ b) → (rows : List Row) → ListsAs cells passes cmp values rows
      → (kept : List P) → map cells kept ≡ map (columns count) rows → Lists passes cmp values kept
  read_listed count all exact rows l kept are =
      subst (Lists passes cmp values) (sym (read_values count all exact rows l kept are)) l.lists

  -- the first of them
  pub read_first : (count : ℕ) → ((p : P) → columns count (cells p) ≡ cells p)
      → ((a b : P) → cells a ≡ cells b → a ≡ b) → (limit : ℕ) (all_rows rows : List Row)
      → ListsAs cells passes cmp values all_rows → rows ≡ take limit all_rows
      → (kept : List P) → map cells kept ≡ map (columns count) rows → ListsFirst limit passes cmp values kept
  read_first count all exact limit all_rows rows l first kept are =
      let firsts = take limit l.listed in
      let shown : map (columns count) rows ≡ map cells firsts =
      ap (map (columns count)) (first ∙ ap (take limit) l.shows ∙ take-map cells limit l.listed)
      ∙ map-map (columns count) cells firsts ∙ (λ i. map (λ p. all p i) firsts) in
      record { all = l.listed; lists = l.lists; first = exact_list exact kept firsts (are ∙ shown) }
