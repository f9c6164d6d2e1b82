-- Lists of rows with their counters, and the lists of their parts.
use Rattle.portal_tables_rows.proofs.Common.{◌≡◌, ◌≤◌, ◌<◌, ◌+◌, ℕ, Bool, true, false, cond, List, [], ◌∷◌}
use Rattle.portal_tables_rows.proofs.Common.{◌++◌}
use Rattle.portal_tables_rows.proofs.Common.{map, filter, length, refl, sym, ap, ap₂, subst, ◌∙◌, arith}
use Rattle.portal_tables_rows.proofs.Common.{Ordering, Less, Equal, Greater, value_cmp, number, put_by, Some}
use Rattle.portal_tables_rows.proofs.Common.{None, Has, Finds, FindsLast, has_mapped, has_image, has_along}
use Rattle.portal_tables_rows.proofs.Common.{has_filtered, IsSorted, IsPermutation, IsPermutation-map}
use Rattle.portal_tables_rows.proofs.Common.{IsPermutation-sym, filter-map, get_or-map, length-map, Lists}
use Rattle.std.specs.Ordering.{match_ordering}

module _ {A B : Type 0} (part : A → B) where
  -- a change of the whole is that of the part
  pub parts_changed : (g : A → A) (f : B → B) → ((a : A) → part (g a) ≡ f (part a)) → (xs : List A)
      → map part (map g xs) ≡ map f (map part xs)
  parts_changed g f same [] = refl
  parts_changed g f same (x ∷ xs) = ap₂ ◌∷◌ (same x) (parts_changed g f same xs)

  -- a change of the whole that leaves the part
  pub parts_kept : (g : A → A) → ((a : A) → part (g a) ≡ part a) → (xs : List A)
      → map part (map g xs) ≡ map part xs
  parts_kept g same [] = refl
  parts_kept g same (x ∷ xs) = ap₂ ◌∷◌ (same x) (parts_kept g same xs)

  pub part_of_cond : (b : Bool) (x y : A) → part (cond b x y) ≡ cond b (part x) (part y)
  part_of_cond true x y = refl
  part_of_cond false x y = refl

  pub part_if_same : (b : Bool) (x y : A) → part x ≡ part y → part (cond b x y) ≡ part y
  part_if_same true x y same = same
  part_if_same false x y same = refl

  -- one at the end
  pub parts_pushed : (x : A) (xs : List A) → map part (xs ++ x ∷ []) ≡ map part xs ++ part x ∷ []
  parts_pushed x [] = refl
  parts_pushed x (y ∷ ys) = ap (λ l. part y ∷ l) (parts_pushed x ys)

  put_part : (key : B → ℕ) (new x : A) (xs : List A) (o : Ordering)
      → map part (put_by (λ a. key (part a)) new xs) ≡ put_by key (part new) (map part xs)
      → map part (match_ordering o (x ∷ put_by (λ a. key (part a)) new xs) (new ∷ xs) (new ∷ x ∷ xs))
      ≡ match_ordering o (part x ∷ put_by key (part new) (map part xs)) (part new ∷ map part xs)
      (part new ∷ part x ∷ map part xs)
  put_part key new x xs Less later = ap (λ l. part x ∷ l) later
  put_part key new x xs Equal later = refl
  put_part key new x xs Greater later = refl

  -- one at its place by number
  pub parts_put : (key : B → ℕ) (new : A) (xs : List A)
      → map part (put_by (λ a. key (part a)) new xs) ≡ put_by key (part new) (map part xs)
  parts_put key new [] = refl
  parts_put key new (x ∷ xs) = put_part key new x xs
      (value_cmp (number (key (part x))) (number (key (part new)))) (parts_put key new xs)

-- ---- values that are found or listed with their counters

module _ {A B : Type 0} (part : A → B) where
  pub part_has : (xs : List A) (ys : List B) → map part xs ≡ ys → (x : A) → Has xs x → Has ys (part x)
  part_has xs ys are x has = subst (λ l. Has l (part x)) are (has_mapped part xs x has)

  -- by a key of the part
  pub part_found : {K : Type 0} (key : B → K) (k : K) (xs : List A) (ys : List B) → map part xs ≡ ys → (x : A)
      → Finds (λ a. key (part a)) k xs (Some x) → Finds key k ys (Some (part x))
  part_found key k xs ys are x f = (part_has xs ys are x f.0, f.1)

  pub part_missing : {K : Type 0} (key : B → K) (k : K) (xs : List A) (ys : List B) → map part xs ≡ ys
      → Finds (λ a. key (part a)) k xs None → Finds key k ys None
  part_missing key k xs ys are none y has same =
      let it = has_image part xs y (subst (λ l. Has l y) (sym are) has) in
      none it.0 it.1 (sym (ap key it.2) ∙ same)

  -- with the greatest number
  pub part_last : {K : Type 0} (key : B → K) (k : K) (number_of : B → ℕ) (xs : List A) (ys : List B)
      → map part xs ≡ ys → (x : A) → FindsLast (λ a. key (part a)) k (λ a. number_of (part a)) xs (Some x)
      → FindsLast key k number_of ys (Some (part x))
  part_last key k number_of xs ys are x f = (
    part_has xs ys are x f.0,
    f.1,
    λ y has same.
        let it = has_image part xs y (subst (λ l. Has l y) (sym are) has) in
        subst (λ (b : B). number_of b ≤ number_of (part x)) (sym it.2)
        (f.2 it.0 it.1 (sym (ap key it.2) ∙ same)),
  )

  pub part_no_last : {K : Type 0} (key : B → K) (k : K) (number_of : B → ℕ) (xs : List A) (ys : List B)
      → map part xs ≡ ys → FindsLast (λ a. key (part a)) k (λ a. number_of (part a)) xs None
      → FindsLast key k number_of ys None
  part_no_last key k number_of xs ys are none y has same =
      let it = has_image part xs y (subst (λ l. Has l y) (sym are) has) in
      none it.0 it.1 (sym (ap key it.2) ∙ same)

  sorted_parts : (cmp : B → B → Ordering) (xs : List A) → IsSorted (λ a b. cmp (part a) (part b)) xs
      → IsSorted cmp (map part xs)
  sorted_parts cmp [] sorted k d low within = absurd (omega arith)
  sorted_parts cmp (x ∷ xs) sorted k d low within =
      let inside : k + 1 < length (x ∷ xs) = rw length-map at within in
      rw (get_or-map part (x ∷ xs) (k + 1) x d inside, get_or-map part (x ∷ xs) k x d (omega arith))
      (sorted k x low inside)

  -- those that pass a test of the part, in an order of the parts
  pub parts_listed : (passes : B → Bool) (cmp : B → B → Ordering) (xs listed : List A)
      → Lists (λ a. passes (part a)) (λ a b. cmp (part a) (part b)) xs listed
      → Lists passes cmp (map part xs) (map part listed)
  parts_listed passes cmp xs listed l = record {
    same = subst (λ ys. IsPermutation ys (map part listed)) (sym (filter-map passes part xs))
        (IsPermutation-map part (filter (λ a. passes (part a)) xs) listed l.same);
    sorted = sorted_parts cmp listed l.sorted;
  }

-- a value that is listed is one of all
pub listed_among : {A : Type 0} (passes : A → Bool) (cmp : A → A → Ordering) (xs listed : List A)
    → Lists passes cmp xs listed → (x : A) → Has listed x → Has xs x
listed_among passes cmp xs listed l x has =
    (has_filtered passes xs x (has_along x listed (filter passes xs) (IsPermutation-sym _ _ l.same) has)).0

-- so its other part is one of all of these
pub others_among : {A C : Type 0} (other : A → C) (xs listed : List A) (cs : List C) → map other xs ≡ cs
    → ((x : A) → Has listed x → Has xs x) → (c : C) → Has (map other listed) c → Has cs c
others_among other xs listed cs are among c has =
    let it = has_image other listed c has in
    subst (Has cs) (sym it.2) (part_has other xs cs are it.0 (among it.0 it.1))
