-- From the rows of a result to the values that a table holds.
use Rattle.portal_tables_sql.proofs.Common.{◌≡◌, inl, inr, ℕ, ◌≤◌, ℤ, pos, List, [], ◌∷◌, map, filter}
use Rattle.portal_tables_sql.proofs.Common.{slice_get, take, Bool, true, false, Option, Some, None, IsTrue}
use Rattle.portal_tables_sql.proofs.Common.{refl, sym, ap, ap₂, subst, ◌∙◌, is_eq, is_lt, Ordering, Less}
use Rattle.portal_tables_sql.proofs.Common.{Equal, Greater, true≢false, arith, bytes_eq, nat_eq}
use Rattle.portal_tables_sql.proofs.Common.{AllByRecursion, IsPermutation, nat_tests, Decides-eqb}
use Rattle.portal_tables_sql.proofs.Common.{tied_itself, ints, Int, Text, column, value_cmp-Text}
use Rattle.portal_tables_sql.proofs.Common.{value_cmp-Int, value_cmp_total, is_int, Has, number, or_null}
use Rattle.portal_tables_sql.proofs.Common.{FindsLast, columns, has_key, by_column, IsSelection}
use Rattle.std.proofs.lemmas.Slice.Eq.{bytes_eq-Decides}
use Rattle.std.proofs.lemmas.Map.Lookups.{exact_bytes}
use Rattle.sqlite.specs.declared.types.Value.{Value}
use Rattle.sqlite.specs.Order.{Row, value_cmp}
use Rattle.sqlite.specs.Tree.{rowid}
use Rattle.sqlite.specs.Values.{or_null as nullable}
use Rattle.portal_tables_sql.specs.Finds.{Finds}
use Rattle.portal_tables_sql.proofs.FindLemmas.{found_some, found_none, has_image, first_of_one, greatest}

-- ---- keys

equal_tied : (o : Ordering) → is_eq o ≡ true → o ≡ Equal
equal_tied Less h = cc
equal_tied Equal h = refl
equal_tied Greater h = cc

pub same_text : (a b : List ℕ) → is_eq (value_cmp (Text a) (Text b)) ≡ true → a ≡ b
same_text a b h = exact_bytes a b (equal_tied _ (ap is_eq (sym (value_cmp-Text a b)) ∙ h))

pub text_itself : (a : List ℕ) → is_eq (value_cmp (Text a) (Text a)) ≡ true
text_itself a = ap is_eq (tied_itself value_cmp_total (Text a))

pub same_number : (a b : ℕ) → is_eq (value_cmp (number a) (number b)) ≡ true → a ≡ b
same_number a b h = let k = rw (value_cmp-Int (pos a) (pos b)) at (equal_tied _ h) in
    grind (arith, ints, nat_tests)

pub number_itself : (a : ℕ) → is_eq (value_cmp (number a) (number a)) ≡ true
number_itself a = ap is_eq (tied_itself value_cmp_total (number a))

-- two tests that hold together are one
pub agree : (x y : Bool) → (x ≡ true → y ≡ true) → (y ≡ true → x ≡ true) → x ≡ y
agree true y f g = sym (f refl)
agree false true f g = g refl
agree false false f g = refl

-- SQL's comparison of texts and of numbers as tests on them
pub text_test : (a b : List ℕ) → is_eq (value_cmp (Text a) (Text b)) ≡ bytes_eq b a
text_test a b =
    agree _ _ (λ on. (bytes_eq-Decides b a).1 (sym (same_text a b on)))
    (λ on. let e = (bytes_eq-Decides b a).0 on in subst (λ t. is_eq (value_cmp (Text a) (Text t)) ≡ true)
    (sym e) (text_itself a))

pub number_test : (a b : ℕ) → is_eq (value_cmp (number a) (number b)) ≡ nat_eq b a
number_test a b =
    agree _ _ (λ on. (Decides-eqb b a).1 (sym (same_number a b on)))
    (λ on. let e = (Decides-eqb b a).0 on in subst (λ t. is_eq (value_cmp (number a) (number t)) ≡ true)
    (sym e) (number_itself a))

pub not_above : (a b : ℕ) → is_lt (value_cmp (number a) (number b)) ≡ false → b ≤ a
not_above a b h = let k = rw (value_cmp-Int (pos a) (pos b)) at h in grind (arith, ints, nat_tests)

-- ---- the rows that SELECT gives are the cells of the values

module _ {P : Type 0} (cut : Row → Row) (stored shown : P → Row) (row_of : ℤ → P → Row)
    (opens : (r : Row) (p : P) → IsTrue (is_int (rowid r)) → cut r ≡ stored p → (n : ℤ) × (r ≡ row_of n p))
    (show : Row → Row)
    (shows : (n : ℤ) (p : P) → show (row_of n p) ≡ shown p) where
  pub rows_shown : (rows : List Row) (ps : List P) → AllByRecursion (λ r. IsTrue (is_int (rowid r))) rows
      → map cut rows ≡ map stored ps → map show rows ≡ map shown ps
  rows_shown [] [] keyed is = refl
  rows_shown [] (p ∷ ps) keyed is = absurd (cc)
  rows_shown (r ∷ rows) [] keyed is = absurd (cc)
  rows_shown (r ∷ rows) (p ∷ ps) keyed is =
      let first : cut r ≡ stored p = cc in
      let rest : map cut rows ≡ map stored ps = cc in
      let o = opens r p keyed.0 first in
      ap₂ ◌∷◌ (ap show o.1 ∙ shows o.0 p) (rows_shown rows ps keyed.1 rest)

-- ---- finding by a key

pub has_mapped : {A B : Type 0} (f : A → B) (xs : List A) (x : A) → Has xs x → Has (map f xs) (f x)
has_mapped f [] x h = absurd h
has_mapped f (y ∷ xs) x (inl e) = inl (ap f e)
has_mapped f (y ∷ xs) x (inr h) = inr (has_mapped f xs x h)

module _ {P K : Type 0} (cells : P → Row) (at : ℕ) (key : P → K) (k : K) (cell : K → Value)
    (keyed : (p : P) → column (cells p) at ≡ cell (key p))
    (same : (a b : K) → is_eq (value_cmp (cell a) (cell b)) ≡ true → a ≡ b)
    (itself : (a : K) → is_eq (value_cmp (cell a) (cell a)) ≡ true)
    (n : ℕ) (all : (p : P) → columns n (cells p) ≡ cells p)
    (exact : (a b : P) → cells a ≡ cells b → a ≡ b) (ps : List P) where
  has_its_key : (p : P) → has_key at (cell k) (cells p) ≡ true → key p ≡ k
  has_its_key p h = same (key p) k (ap (λ v. is_eq (value_cmp v (cell k))) (sym (keyed p)) ∙ h)

  key_has : (p : P) → key p ≡ k → has_key at (cell k) (cells p) ≡ true
  key_has p e = ap (λ v. is_eq (value_cmp v (cell k))) (keyed p ∙ ap cell e) ∙ itself k

  the_value : (row : Row) (x : P) → Has (map cells ps) row → cells x ≡ columns n row
      → Has ps x × (row ≡ cells x)
  the_value row x has read =
      let it = has_image cells ps row has in
      let e : it.0 ≡ x = exact it.0 x (sym (read ∙ ap (columns n) it.2 ∙ all it.0)) in
      (subst (Has ps) e it.1, it.2 ∙ ap cells e)

  module _ (rows : List Row) (answer : IsPermutation (filter (has_key at (cell k)) (map cells ps)) rows) where
    pub finds_some : (row : Row) (x : P) → slice_get rows 0 ≡ Some row → cells x ≡ columns n row
        → Finds key k ps (Some x)
    finds_some row x got read =
        let it = found_some (has_key at (cell k)) (map cells ps) rows answer 0 row got in
        let v = the_value row x it.0 read in
        (v.0, has_its_key x (subst (λ r. has_key at (cell k) r ≡ true) v.1 it.1))

    pub finds_none : slice_get rows 0 ≡ None → Finds key k ps None
    finds_none none p has e = true≢false (sym (key_has p e) ∙ found_none (has_key at (cell k)) (map cells ps)
        rows answer none (cells p) (has_mapped cells ps p has))

  -- with ORDER BY a number DESC LIMIT 1
  module _ (order : ℕ) (number_of : P → ℕ)
      (ordered : (p : P) → column (cells p) order ≡ number (number_of p)) (sel rows : List Row)
      (answer : IsSelection (has_key at (cell k)) (λ a b. by_column order b a) (map cells ps) sel)
      (one : rows ≡ take 1 sel) where
    pub finds_last : (row : Row) (x : P) → slice_get rows 0 ≡ Some row → cells x ≡ columns n row
        → FindsLast key k number_of ps (Some x)
    finds_last row x got read =
        let first : slice_get sel 0 ≡ Some row =
        sym (first_of_one sel) ∙ ap (λ xs. slice_get xs 0) (sym one) ∙ got in
        let it = found_some (has_key at (cell k)) (map cells ps) sel answer.same 0 row first in
        let v = the_value row x it.0 read in (
          v.0,
          has_its_key x (subst (λ r. has_key at (cell k) r ≡ true) v.1 it.1),
          λ q has e.
              let low = greatest (has_key at (cell k)) order (map cells ps) sel answer row (cells q) first
              (has_mapped cells ps q has) (key_has q e) in
              not_above (number_of x) (number_of q) (ap is_lt
              (ap₂ value_cmp (sym (ap (λ r. column r order) v.1 ∙ ordered x)) (sym (ordered q))) ∙ low),
        )

    pub finds_no_last : slice_get rows 0 ≡ None → FindsLast key k number_of ps None
    finds_no_last none p has e =
        let first : slice_get sel 0 ≡ None =
        sym (first_of_one sel) ∙ ap (λ xs. slice_get xs 0) (sym one) ∙ none in
        true≢false (sym (key_has p e) ∙ found_none (has_key at (cell k)) (map cells ps) sel answer.same first
        (cells p) (has_mapped cells ps p has))

-- ---- NULL

pub exact_null : (a b : Option ℕ) → or_null a ≡ or_null b → a ≡ b
exact_null None None e = refl
exact_null None (Some y) e = absurd (cc)
exact_null (Some x) None e = absurd (cc)
exact_null (Some x) (Some y) e = let same : x ≡ y = cc in ap Some same

pub exact_signed : (a b : Option ℤ) → nullable Int a ≡ nullable Int b → a ≡ b
exact_signed None None e = refl
exact_signed None (Some y) e = absurd (cc)
exact_signed (Some x) None e = absurd (cc)
exact_signed (Some x) (Some y) e = let same : x ≡ y = cc in ap Some same
