-- Of a list that rises by a number, one order is sorted by it.
use Rattle.portal_tables.proofs.Common.{◌≡◌, ℕ, ◌+◌, ◌<◌, ◌≤◌, zero, suc, List, [], ◌∷◌, ◌++◌, map, filter}
use Rattle.portal_tables.proofs.Common.{Bool, true, false, not, refl, ap, ap₂, subst, ◌∙◌, arith, add-one}
use Rattle.portal_tables.proofs.Common.{nat_cmp, is_lt, nat_lt, AllByRecursion, range_with_len, IsPermutation}
use Rattle.portal_tables.proofs.Common.{IsSorted, nat_tests, recursion_from_All, All-from_recursion}
use Rattle.portal_tables.proofs.Common.{IsAscending, all_weaker, filter_all, filter_none}
use Rattle.portal_tables.proofs.Common.{IsPermutation-filter, ascending-filter}
use Rattle.std.proofs.lemmas.List.Sorted.{length_permutation, All-permutation}

not_less : (a b : ℕ) → is_lt (nat_cmp a b) ≡ false → b ≤ a
not_less a b h = grind (arith, nat_tests)

less_test : (a b : ℕ) → a < b → nat_lt a b ≡ true
less_test a b h = grind (arith, nat_tests)

less_is : (a b : ℕ) → nat_lt a b ≡ true → a < b
less_is a b h = grind (arith, nat_tests)

not_itself : (a : ℕ) → nat_lt a a ≡ false
not_itself a = grind (arith, nat_tests)

module _ {X : Type 0} (key : X → ℕ) where
  -- each number is below those after it; no number is above those after it
  abbrev Rises : List X → Type 0
  Rises = IsAscending (λ a b. key a < key b)

  abbrev Climbs : List X → Type 0
  Climbs = IsAscending (λ a b. key a ≤ key b)

  first_least : (x : X) (ys : List X) → IsSorted (λ a b. nat_cmp (key a) (key b)) (x ∷ ys) → Climbs ys
      → AllByRecursion (λ y. key x ≤ key y) ys
  first_least x [] sorted up = tt
  first_least x (y ∷ ys) sorted up =
      let first : key x ≤ key y = not_less (key y) (key x) (sorted 0 x (omega arith) (omega arith)) in (
        first,
        all_weaker (λ z. key y ≤ key z) (λ z. key x ≤ key z) (λ z later. omega (arith, first, later)) ys up.0,
      )

  climbs : (xs : List X) → IsSorted (λ a b. nat_cmp (key a) (key b)) xs → Climbs xs
  climbs [] sorted = tt
  climbs (x ∷ xs) sorted =
      let tail : IsSorted (λ a b. nat_cmp (key a) (key b)) xs =
      λ k d p q. rw add-one (rw add-one at (sorted (suc k) d (omega arith) (omega arith))) in
      let up = climbs xs tail in
      (first_least x xs sorted up, up)

  abbrev is_above : X → X → Bool
  is_above x z = nat_lt (key x) (key z)

  -- a list that climbs is what is not above x, and then what is
  split : (x : X) (ys : List X) → Climbs ys
      → ys ≡ filter (λ z. not (is_above x z)) ys ++ filter (is_above x) ys
  split x [] up = refl
  split x (y ∷ ys) up = go (is_above x y) refl (split x ys up.1)
    where
      go : (b : Bool) → is_above x y ≡ b → ys ≡ filter (λ z. not (is_above x z)) ys ++ filter (is_above x) ys
          → y ∷ ys ≡ filter (λ z. not (is_above x z)) (y ∷ ys) ++ filter (is_above x) (y ∷ ys)
      go false e more = rw e (ap (λ l. y ∷ l) more)
      go true e more =
          let above = all_weaker (λ z. key y ≤ key z) (λ z. is_above x z ≡ true) (λ z later. less_test (key x)
          (key z) (let first = less_is (key x) (key y) e in omega (arith, first, later))) ys up.0 in
          rw (
            e,
            filter_none (λ z. not (is_above x z)) ys (all_weaker (λ z. is_above x z ≡ true)
                (λ z. not (is_above x z) ≡ false) (λ z h. ap not h) ys above),
            filter_all (is_above x) ys above,
          )

  one : (x : X) (ys : List X) → IsPermutation (x ∷ []) ys → ys ≡ x ∷ []
  one x [] same = absurd (omega (arith, length_permutation _ _ same))
  one x (y ∷ []) same = ap (λ z. z ∷ []) (recursion_from_All (λ z. z ≡ x) (y ∷ []) (All-permutation
      (λ z. z ≡ x) (x ∷ []) (y ∷ []) same (All-from_recursion (λ z. z ≡ x) (x ∷ []) (refl, tt)))).0
  one x (y ∷ z ∷ ys) same = absurd (omega (arith, length_permutation _ _ same))

  -- its head is all that is not above the head, and the rest follows by induction
  same_order : (xs ys : List X) → Rises xs → IsPermutation xs ys → Climbs ys → ys ≡ xs
  same_order [] [] strict same up = refl
  same_order [] (y ∷ ys) strict same up = absurd (omega (arith, length_permutation _ _ same))
  same_order (x ∷ xs) ys strict same up =
      let here : is_above x x ≡ false = not_itself (key x) in
      let above = all_weaker (λ z. key x < key z) (λ z. is_above x z ≡ true)
      (λ z h. less_test (key x) (key z) h) xs strict.0 in
      let first : filter (λ z. not (is_above x z)) (x ∷ xs) ≡ x ∷ [] =
      rw (
        here,
        filter_none (λ z. not (is_above x z)) xs (all_weaker (λ z. is_above x z ≡ true)
            (λ z. not (is_above x z) ≡ false) (λ z h. ap not h) xs above),
      ) in
      let later : filter (is_above x) (x ∷ xs) ≡ xs = rw (here, filter_all (is_above x) xs above) in
      let head = one x _ (subst (λ l. IsPermutation l (filter (λ z. not (is_above x z)) ys)) first
      (IsPermutation-filter (λ z. not (is_above x z)) _ _ same)) in
      let tail = same_order xs _ strict.1 (subst (λ l. IsPermutation l (filter (is_above x) ys))
      later (IsPermutation-filter (is_above x) _ _ same))
      (ascending-filter (λ a b. key a ≤ key b) (is_above x) ys up) in
      split x ys up ∙ ap₂ ◌++◌ head tail

  -- ---- a list with numbers without a gap

  past : (low from count : ℕ) (xs : List X) → low < from → map key xs ≡ range_with_len from count
      → AllByRecursion (λ x. low < key x) xs
  past low from count [] h is = tt
  past low from zero (x ∷ xs) h is = absurd (cc)
  past low from (suc count) (x ∷ xs) h is =
      let first : key x ≡ from = cc in
      let rest : map key xs ≡ range_with_len (from + 1) count = cc in
      (omega (arith, first, h), past low (from + 1) count xs (omega (arith, h)) rest)

  rises : (from count : ℕ) (xs : List X) → map key xs ≡ range_with_len from count → Rises xs
  rises from count [] is = tt
  rises from zero (x ∷ xs) is = absurd (cc)
  rises from (suc count) (x ∷ xs) is =
      let first : key x ≡ from = cc in
      let rest : map key xs ≡ range_with_len (from + 1) count = cc in
      (past (key x) (from + 1) count xs (omega (arith, first)) rest, rises (from + 1) count xs rest)

  -- it is the one sorted order of its elements
  pub in_order : (from count : ℕ) (xs ys : List X) → map key xs ≡ range_with_len from count
      → IsPermutation xs ys → IsSorted (λ a b. nat_cmp (key a) (key b)) ys → ys ≡ xs
  in_order from count xs ys is same sorted = same_order xs ys (rises from count xs is) same (climbs ys sorted)

  -- a list that rises is the one sorted order of its elements
  pub in_one_order : (xs ys : List X) → IsAscending (λ a b. key a < key b) xs → IsPermutation xs ys
      → IsSorted (λ a b. nat_cmp (key a) (key b)) ys → ys ≡ xs
  in_one_order xs ys strict same sorted = same_order xs ys strict same (climbs ys sorted)

pub filter_true : {X : Type 0} (xs : List X) → filter (λ _. true) xs ≡ xs
filter_true [] = refl
filter_true (x ∷ xs) = ap (λ ys. x ∷ ys) (filter_true xs)
