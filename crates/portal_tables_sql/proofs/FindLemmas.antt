-- From the result of a query to what a reader finds.
use Rattle.portal_tables_sql.proofs.Common.{◌≡◌, inl, inr, ◌&&◌, ℕ, List, [], ◌∷◌, map, filter, slice_get}
use Rattle.portal_tables_sql.proofs.Common.{Bool, true, false, Some, None, Result, Ok, Err, IfOk, refl, sym}
use Rattle.portal_tables_sql.proofs.Common.{ap, subst, ◌∙◌, arith, is_eq, is_lt, take, IsPermutation}
use Rattle.portal_tables_sql.proofs.Common.{IsSorted, IsPermutation-map, IsPermutation-sym, sorted_far}
use Rattle.portal_tables_sql.proofs.Common.{ranks_by, IsStrictWeakOrder-flip, Null, Int, Real, Text, Blob}
use Rattle.portal_tables_sql.proofs.Common.{column, is_null, Eq, Key, Binary, value_cmp-Null, value_cmp_total}
use Rattle.portal_tables_sql.proofs.Common.{Has, has_filtered, has_kept, has_got, contains_had, filter-map}
use Rattle.portal_tables_sql.proofs.Common.{along_permutation, IsSelection, by_column}
use Rattle.sqlite.specs.declared.types.Value.{Value}
use Rattle.sqlite.specs.Order.{Row, value_cmp}
use Rattle.sqlite.specs.Ops.{binary, is_true, from_truth}
use Rattle.sqlite_sql.specs.declared.ops.BinaryOp.TheVariants as by
use Rattle.portal_tables_sql.proofs.Scan.{IsScan}

pub ok_then : {X E : Type 0} {P Q : X → Type 0} (r : Result X E) → ((x : X) → P x → Q x) → IfOk r P → IfOk r Q
ok_then (Ok x) f h = f x h
ok_then (Err e) f h = tt

pub ok_both : {X E : Type 0} {P Q R : X → Type 0} (r : Result X E) → ((x : X) → P x → Q x → R x)
    → IfOk r P → IfOk r Q → IfOk r R
ok_both (Ok x) f p q = f x p q
ok_both (Err e) f p q = tt

-- ---- a test of WHERE

abbrev pub sql_equal : Value → Value → Bool
sql_equal a b = is_true (binary (by.Compare Eq Binary) a b)

back : (b : Bool) → is_true (from_truth (Some b)) ≡ b
back true = refl
back false = refl

pub equal_is : (v k : Value) → is_null k ≡ false → sql_equal v k ≡ is_eq (value_cmp v k)
unfolding binary
equal_is Null Null some = cc
equal_is Null (Int n) some = sym (ap is_eq (value_cmp-Null (Int n)))
equal_is Null (Real x) some = sym (ap is_eq (value_cmp-Null (Real x)))
equal_is Null (Text t) some = sym (ap is_eq (value_cmp-Null (Text t)))
equal_is Null (Blob b) some = sym (ap is_eq (value_cmp-Null (Blob b)))
equal_is (Int n) k some = rw some (back _)
equal_is (Real x) k some = rw some (back _)
equal_is (Text t) k some = rw some (back _)
equal_is (Blob b) k some = rw some (back _)

pub and_true : (b : Bool) → (b && true) ≡ b
and_true true = refl
and_true false = refl

-- the one term of WHERE asks for a key
pub where_key : (v k : Value) → is_null k ≡ false → (sql_equal v k && true) ≡ is_eq (value_cmp v k)
where_key v k some = and_true _ ∙ equal_is v k some

-- ---- lists

pub has_along : {X : Type 0} (x : X) (xs ys : List X) → IsPermutation xs ys → Has xs x → Has ys x
has_along x = along_permutation (λ xs ys. Has xs x → Has ys x) (λ xs h. h)
    (λ y xs ys f. λ h. elim h [ inl e ↦ inl e | inr h ↦ inr (f h) ])
    (λ y z xs. λ h. elim h [ inl e ↦ inr (inl e) | inr h ↦ elim h [ inl e ↦ inl e | inr h ↦ inr (inr h) ] ])
    (λ xs ys zs f g h. g (f h))

pub has_image : {A B : Type 0} (f : A → B) (xs : List A) (y : B) → Has (map f xs) y
    → (x : A) × Has xs x × (y ≡ f x)
has_image f [] y h = absurd h
has_image f (x ∷ xs) y (inl e) = (x, inl refl, e)
has_image f (x ∷ xs) y (inr h) = let it = has_image f xs y h in (it.0, inr it.1, it.2)

pub not_true : (b : Bool) → (b ≡ true → ⊥) → b ≡ false
not_true true h = absurd (h refl)
not_true false h = refl

-- ---- the rows that pass are those of the table, by its columns

pub scan_rows : (passes p : Row → Bool) (f keys : Row → Row) (by : List Key) (rows out : List Row)
    → ((r : Row) → passes r ≡ p (f r)) → IsScan passes f keys by rows out
    → IsPermutation (filter p (map f rows)) out
scan_rows passes p f keys by rows out same s =
    let moved : IsPermutation (map f (filter passes rows)) (map f s.ordered) =
    IsPermutation-map f _ _ s.same in
    let tests : map f (filter passes rows) ≡ filter p (map f rows) =
    (λ i. map f (filter (λ r. same r i) rows)) ∙ sym (filter-map p f rows) in
    subst (IsPermutation (filter p (map f rows))) (sym s.shown)
    (subst (λ xs. IsPermutation xs (map f s.ordered)) tests moved)

module _ (p : Row → Bool) (rows out : List Row) (answer : IsPermutation (filter p rows) out) where
  pub found_some : (at : ℕ) (row : Row) → slice_get out at ≡ Some row → Has rows row × (p row ≡ true)
  found_some at row got = has_filtered p rows row
      (has_along row out (filter p rows) (IsPermutation-sym _ _ answer) (has_got out at row got))

  pub found_none : slice_get out 0 ≡ None → (row : Row) → Has rows row → p row ≡ false
  found_none none row has = not_true (p row)
      (λ yes. none_in out none (has_along row (filter p rows) out answer (has_kept p rows row has yes)))
    where
      none_in : (ys : List Row) → slice_get ys 0 ≡ None → Has ys row → ⊥
      none_in [] is h = h
      none_in (y ∷ ys) is h = cc

-- ---- the first of an order

-- no row of a list in falling order is above its first
falls : (at : ℕ) (row : Row) (all : List Row) → IsSorted (λ a b. by_column at b a) (row ∷ all) → (other : Row)
    → Has (row ∷ all) other → is_lt (by_column at row other) ≡ false
falls at row all sorted other has =
    let it = contains_had (row ∷ all) other has in
    subst (λ r. is_lt (by_column at row r) ≡ false) it.2 (sorted_far (λ a b. is_lt (by_column at b a))
    (IsStrictWeakOrder-flip _ (ranks_by value_cmp_total (λ r. column r at))) (row ∷ all) sorted 0 it.0
    other (omega arith) it.1)

module _ (p : Row → Bool) (at : ℕ) (rows all : List Row)
    (answer : IsSelection p (λ a b. by_column at b a) rows all) where
  pub greatest : (row other : Row) → slice_get all 0 ≡ Some row → Has rows other → p other ≡ true
      → is_lt (by_column at row other) ≡ false
  greatest row other first has passes = go all first answer.sorted
      (has_along other (filter p rows) all answer.same (has_kept p rows other has passes))
    where
      go : (xs : List Row) → slice_get xs 0 ≡ Some row → IsSorted (λ a b. by_column at b a) xs → Has xs other
          → is_lt (by_column at row other) ≡ false
      go [] got sorted h = absurd h
      go (x ∷ xs) got sorted h = let same : x ≡ row = cc in
          subst (λ r. is_lt (by_column at r other) ≡ false) same (falls at x xs sorted other h)

-- LIMIT 1 gives the first of them
pub first_of_one : (all : List Row) → slice_get (take 1 all) 0 ≡ slice_get all 0
first_of_one [] = refl
first_of_one (x ∷ xs) = refl
