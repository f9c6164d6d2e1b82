-- Two sorted lists with the same elements are one list, where the order tells the elements apart.
use Rattle.std.proofs.Common.{◌≡◌, ℕ, ◌+◌, ◌<◌, ◌≤◌, false, List, [], ◌∷◌, length, get_or, refl}
use Rattle.std.proofs.Common.{Ordering, Less, Equal, Greater, sym, ap, subst, ◌∙◌, arith, suc, zero}
use Rattle.std.proofs.Common.{cond, true≢false}
use Rattle.std.specs.Prelude.{All, IsPermutation, IsSorted, sum_by}
use Rattle.std.specs.Cmp.{IsTotalOrder, tied_itself}
use Rattle.std.specs.Ordering.{is_eq, is_lt, ordering_reverse}
use Rattle.std.proofs.lemmas.List.Elements.{All-head, All-tail}
use Rattle.std.proofs.lemmas.List.Sorted.{ranks_by, sorted_far, sum_by-IsPermutation}
use Rattle.std.proofs.lemmas.List.Sums.{sum_by-cons}

module _ {X : Type 0} where
  -- the lists have each element equally often, as sums over them say
  abbrev pub HaveSameSums : List X → List X → Type 0
  HaveSameSums xs ys = (f : X → ℕ) → sum_by f xs ≡ sum_by f ys

  -- a sum that is not 0 has a summand that is not
  summand : (f : X → ℕ) (xs : List X) → 1 ≤ sum_by f xs
      → (j : ℕ) × (j < length xs) × ((d : X) → 1 ≤ f (get_or xs j d))
  summand f [] h = absurd (omega arith)
  summand f (x ∷ xs) h = go (f x) refl (λ e. summand f xs (omega (arith, sum_by-cons f x xs, h, e)))
    where
      go : (n : ℕ) → f x ≡ n → (f x ≡ 0 → (j : ℕ) × (j < length xs) × ((d : X) → 1 ≤ f (get_or xs j d)))
          → (j : ℕ) × (j < length (x ∷ xs)) × ((d : X) → 1 ≤ f (get_or (x ∷ xs) j d))
      go zero e rest = (suc (rest e).0, omega (arith, (rest e).1), (rest e).2)
      go (suc n) e rest = (0, omega arith, λ d. omega (arith, e))

  module _ (R : X → X → Ordering) (order : IsTotalOrder R) where
    abbrev tie : X → X → ℕ
    tie y x = cond (is_eq (R x y)) 1 0

    is_tie : (y x : X) → 1 ≤ tie y x → R x y ≡ Equal
    is_tie y x = go (R x y)
      where
        go : (r : Ordering) → 1 ≤ cond (is_eq r) 1 0 → r ≡ Equal
        go Less h = absurd (omega arith)
        go Equal h = refl
        go Greater h = absurd (omega arith)

    ties_itself : (y : X) → tie y y ≡ 1
    ties_itself y = ap (λ r. cond (is_eq r) 1 0) (tied_itself order y)

    sorted_tail : (x : X) (xs : List X) → IsSorted R (x ∷ xs) → IsSorted R xs
    sorted_tail x xs sorted k d a b =
        let next : suc k + 1 ≡ suc (k + 1) = omega arith in
        subst (λ n. is_lt (R (get_or (x ∷ xs) n d) (get_or xs k d)) ≡ false) next
        (sorted (suc k) d (omega arith) (omega arith))

    -- the first of a sorted list is not after another one's first, if that is among its elements
    not_after : (x y : X) (xs ys : List X) → IsSorted R (x ∷ xs) → HaveSameSums (x ∷ xs) (y ∷ ys)
        → is_lt (R y x) ≡ false
    not_after x y xs ys sorted same =
        let ties : 1 ≤ sum_by (tie y) (x ∷ xs) =
        omega (arith, same (tie y), sum_by-cons (tie y) y ys, ties_itself y) in
        let (j, below, is) = summand (tie y) (x ∷ xs) ties in
        let z : X = get_or (x ∷ xs) j x in
        let far : is_lt (R z x) ≡ false =
        sorted_far (λ a b. is_lt (R a b)) (ranks_by order (λ a. a)) (x ∷ xs) sorted 0 j x (omega arith)
        below in
        sym (ap is_lt (order.congr z y x (is_tie y z (is x)))) ∙ far

    level : (r s : Ordering) → r ≡ ordering_reverse s → is_lt r ≡ false → is_lt s ≡ false → r ≡ Equal
    level Less s e h k = absurd (true≢false h)
    level Equal s e h k = refl
    level Greater Less e h k = absurd (true≢false k)
    level Greater Equal e h k = absurd (true≢false (ap is_eq (sym e)))
    level Greater Greater e h k = absurd (true≢false (ap is_lt (sym e)))

    module _ (P : X → Type 0) (exact : (x y : X) → P x → P y → R x y ≡ Equal → x ≡ y) where
      sorted_so : (xs ys : List X) → IsSorted R xs → IsSorted R ys → All P xs → All P ys
          → HaveSameSums xs ys → xs ≡ ys
      sorted_so [] [] sorted also all every same = refl
      sorted_so [] (y ∷ ys) sorted also all every same =
          absurd (omega (arith, same (λ _. 1), sum_by-cons (λ _. 1) y ys))
      sorted_so (x ∷ xs) [] sorted also all every same =
          absurd (omega (arith, same (λ _. 1), sum_by-cons (λ _. 1) x xs))
      sorted_so (x ∷ xs) (y ∷ ys) sorted also all every same =
          let equal = level (R y x) (R x y) (order.antisymm y x) (not_after x y xs ys sorted same)
          (not_after y x ys xs also (λ f. sym (same f))) in
          let first : y ≡ x = exact y x (All-head P y ys every) (All-head P x xs all) equal in
          let sums : HaveSameSums xs ys =
          λ f. omega (arith, same f, sum_by-cons f x xs, sum_by-cons f y ys, ap f first) in
          let rest : xs ≡ ys = sorted_so xs ys (sorted_tail x xs sorted) (sorted_tail y ys also)
          (All-tail P x xs all) (All-tail P y ys every) sums in
          λ i. sym first i ∷ rest i

      -- two sorted lists of the elements of a third
      pub sorted_once : (of xs ys : List X) → IsSorted R xs → IsSorted R ys → All P xs → All P ys
          → IsPermutation of xs → IsPermutation of ys → xs ≡ ys
      sorted_once of xs ys sorted also all every is so =
          sorted_so xs ys sorted also all every
          (λ f. sum_by-IsPermutation f of xs is ∙ sym (sum_by-IsPermutation f of ys so))
