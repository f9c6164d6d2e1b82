-- Lists of sessions in ascending order of their numbers, and such a list with one session replaced.
use Rattle.portal_desk_store.proofs.Common.{◌≡◌, inl, inr, ℕ, ◌<◌, ◌≤◌, ◌⊎◌, true, List, map, length, get_or}
use Rattle.portal_desk_store.proofs.Common.{set, arith, ap, sym, subst, ◌∙◌, nat_eq, Ok, Err, Session}
use Rattle.portal_desk_store.proofs.Common.{replaced_if_same, IsAscending, nat_tests, cond-true, cond-false}
use Rattle.portal_desk_store.proofs.Common.{nat_eq-refl, nat_eq-other, nat_eq-same, Bool, false, refl, cond}
use Rattle.std.specs.List.{HoldsAt}
use Rattle.std.specs.List.Sorted.{IsBinarySearchResult, IsNonDecreasingBy, IsPartitionPoint}
use Rattle.std.specs.Ordering.{nat_cmp, ordering_index}
use Rattle.std.specs.declared.cmp.Ordering.TheVariants.{Less, Equal, Greater}
use Rattle.std.proofs.lemmas.Bool.{cases_eq, cases_lt}
use Rattle.std.proofs.lemmas.Cmp.{ranked}
use Rattle.std.proofs.lemmas.List.{same_lists, length-set, length-map, get_or-set_same, get_or-set_other}
use Rattle.std.proofs.lemmas.List.{get_or-map}

-- a session of another number is not replaced
replaced-other : (now s : Session) → (now.number ≡ s.number → ⊥) → replaced_if_same now s ≡ s
replaced-other now s other =
    cond-false (nat_eq now.number s.number) now s (nat_eq-other now.number s.number other)

-- the one of that number is
replaced-same : (now s : Session) → s.number ≡ now.number → replaced_if_same now s ≡ now
replaced-same now s same = cond-true (nat_eq now.number s.number) now s
    (subst (λ (n : ℕ). nat_eq now.number n ≡ true) (sym same) (nat_eq-refl now.number))

-- one that is replaced keeps its number
replaced-number : (now s : Session) → (replaced_if_same now s).number ≡ s.number
replaced-number now s = go (nat_eq now.number s.number) refl
  where
    go : (b : Bool) → nat_eq now.number s.number ≡ b → (cond b now s).number ≡ s.number
    go true same = nat_eq-same now.number s.number same
    go false other = refl

module _ (xs : List Session) (up : IsAscending xs) where
  -- with the session of a number replaced, the list stays in order
  pub ascending-replaced : (now : Session) → IsAscending (map (replaced_if_same now) xs)
  ascending-replaced now i j d below within =
      let inside : j < length xs = omega (arith, length-map xs (replaced_if_same now)) in
      let here : (k : ℕ) → k < length xs
      → (get_or (map (replaced_if_same now) xs) k d).number ≡ (get_or xs k d).number = λ k h.
      ap (λ (s : Session). s.number) (get_or-map (replaced_if_same now) xs k d d h)
      ∙ replaced-number now (get_or xs k d) in
      omega (arith, here i (omega arith), here j inside, up i j d below inside)

  -- the numbers compare with n in order, as a binary search asks
  comparisons_rise : (n : ℕ) → IsNonDecreasingBy (λ s. ordering_index (nat_cmp s.number n)) xs
  comparisons_rise n i j d le within =
      let rise : (get_or xs i d).number ≤ (get_or xs j d).number = elim (cases_lt i j) [
        | inl below ↦ omega (arith, up i j d below within)
        | inr not_below ↦ let same : i ≡ j = omega arith in
            subst (λ (k : ℕ). (get_or xs i d).number ≤ (get_or xs k d).number) same (omega arith)
      ] in
      grind (arith, nat_tests)

  -- no other session has the number of the one at a place
  alone : (n i k : ℕ) (d : Session) → i < length xs → k < length xs → (k ≡ i → ⊥)
      → (get_or xs i d).number ≡ n → n ≡ (get_or xs k d).number → ⊥
  alone n i k d within inside other here there = elim (cases_lt i k) [
    | inl below ↦ omega (arith, up i k d below inside)
    | inr not_below ↦ let under : k < i = omega (arith, other) in omega (arith, up k i d under within)
  ]

  -- the session that was found is the one that is replaced
  replaced-at : (now : Session) (i : ℕ) → i < length xs
      → HoldsAt (λ s. nat_cmp s.number now.number ≡ Equal) xs i
      → set xs i now ≡ map (replaced_if_same now) xs
  replaced-at now i within found = same_lists (set xs i now) (map (replaced_if_same now) xs)
      (length-set xs i now ∙ sym (length-map xs (replaced_if_same now)))
      (λ k d range. let inside : k < length xs = omega (arith, length-set xs i now) in
      go k d inside (cases_eq k i) ∙ sym (get_or-map (replaced_if_same now) xs k d d inside))
    where
      number : (d : Session) → (get_or xs i d).number ≡ now.number
      number d = ranked (get_or xs i d).number now.number Equal (sym (found d))

      go : (k : ℕ) (d : Session) → k < length xs → ((k ≡ i) ⊎ (k ≡ i → ⊥))
          → get_or (set xs i now) k d ≡ replaced_if_same now (get_or xs k d)
      go k d inside (inl is) =
          subst (λ (n : ℕ). get_or (set xs i now) n d ≡ replaced_if_same now (get_or xs n d)) (sym is)
          (get_or-set_same xs i now d within ∙ sym (replaced-same now (get_or xs i d) (number d)))
      go k d inside (inr other) = get_or-set_other xs i k now d other
          ∙ sym (replaced-other now (get_or xs k d) (alone now.number i k d within inside other (number d)))

  -- where no session has the number, none is replaced
  replaced-none : (now : Session) (i : ℕ)
      → IsPartitionPoint (λ s. nat_cmp s.number now.number ≡ Less)
      (λ s. nat_cmp s.number now.number ≡ Greater) xs i
      → xs ≡ map (replaced_if_same now) xs
  replaced-none now i parted = same_lists xs (map (replaced_if_same now) xs)
      (sym (length-map xs (replaced_if_same now)))
      (λ k d inside. sym (replaced-other now (get_or xs k d) (λ same. go k d inside same (cases_lt k i)))
      ∙ sym (get_or-map (replaced_if_same now) xs k d d inside))
    where
      go : (k : ℕ) (d : Session) → k < length xs → now.number ≡ (get_or xs k d).number
          → ((k < i) ⊎ (i ≤ k)) → ⊥
      go k d inside same (inl below) =
          let less = ranked (get_or xs k d).number now.number Less (sym (parted.0 k d (omega arith) below)) in
          omega arith
      go k d inside same (inr above) =
          let more = ranked (get_or xs k d).number now.number Greater (sym (parted.1 k d above inside)) in
          omega arith

  -- what a binary search leaves: it found the place i
  pub searched-ok : (now : Session) (i : ℕ) → i < length xs
      → IsBinarySearchResult (λ s. nat_cmp s.number now.number) xs (Ok i)
      → set xs i now ≡ map (replaced_if_same now) xs
  searched-ok now i within found = replaced-at now i within found

  -- it found none
  pub searched-err : (now : Session) (i : ℕ)
      → IsBinarySearchResult (λ s. nat_cmp s.number now.number) xs (Err i)
      → xs ≡ map (replaced_if_same now) xs
  searched-err now i found = replaced-none now i (found (comparisons_rise now.number))
