-- From a value among others to the one that a search by its key gives.
use Rattle.portal_tables.proofs.Common.{◌≡◌, inl, inr, ℕ, ◌+◌, ◌<◌, ◌≤◌, Bool, true, false, ◌||◌, List, []}
use Rattle.portal_tables.proofs.Common.{◌∷◌, map, find, Option, Some, None, refl, sym, ap, subst, ◌∙◌, arith}
use Rattle.portal_tables.proofs.Common.{zero, suc, bytes_eq, true≢false, range_with_len, list_any, cases_Bool}
use Rattle.portal_tables.proofs.Common.{bytes_eq-Decides, Has, has_duplicate}
use Rattle.portal_tables_sql.proofs.Named.{found_has}

-- no two have one key
abbrev pub IsApart : {P K : Type 0} → (P → K) → List P → Type 0
IsApart {P = P} key xs = (x y : P) → Has xs x → Has xs y → key x ≡ key y → x ≡ y

not_found : {X : Type 0} (p : X → Bool) (xs : List X) (x : X) → find p xs ≡ None → Has xs x → p x ≡ false
not_found p [] x is h = absurd h
not_found p (y ∷ xs) x is h = elim (cases_Bool (p y)) [
  | inl on ↦ absurd (let e = rw on at is in cc)
  | inr off ↦ elim h [ inl e ↦ ap p e ∙ off | inr more ↦ not_found p xs x (rw off at is) more ]
]

module _ {P K : Type 0} (key : P → K) (test : K → K → Bool)
    (decides : (a b : K) → (test a b ≡ true → a ≡ b) × (a ≡ b → test a b ≡ true)) (k : K) (xs : List P) where
  abbrev asks : P → Bool
  asks x = test (key x) k

  -- the one with the key is found
  pub finds_it : IsApart key xs → (x : P) → Has xs x → key x ≡ k → find (λ y. test (key y) k) xs ≡ Some x
  finds_it apart x has same = go (find asks xs) refl
    where
      go : (o : Option P) → find asks xs ≡ o → find asks xs ≡ Some x
      go None is = absurd (true≢false (sym ((decides (key x) k).1 same) ∙ not_found asks xs x is has))
      go (Some y) is =
          let it = found_has asks xs y is in
          is ∙ ap Some (apart y x it.0 has ((decides (key y) k).0 it.1 ∙ sym same))

  -- where none has the key, none is found
  pub finds_none_of : ((x : P) → Has xs x → key x ≡ k → ⊥) → find (λ y. test (key y) k) xs ≡ None
  finds_none_of none = go (find asks xs) refl
    where
      go : (o : Option P) → find asks xs ≡ o → find asks xs ≡ None
      go None is = is
      go (Some y) is = let it = found_has asks xs y is in absurd (none y it.0 ((decides (key y) k).0 it.1))

-- ---- keys that are texts

any_has : (text : List ℕ) (texts : List (List ℕ))
    → list_any (bytes_eq text) texts ≡ false → Has texts text → ⊥
any_has text [] off h = h
any_has text (t ∷ texts) off (inl same) =
    true≢false (sym ((bytes_eq-Decides text t).1 same) ∙ first (bytes_eq text t) _ off)
  where
    first : (a b : Bool) → (a || b) ≡ false → a ≡ false
    first true b e = absurd (cc)
    first false b e = refl
any_has text (t ∷ texts) off (inr h) = any_has text texts (last (bytes_eq text t) _ off) h
  where
    last : (a b : Bool) → (a || b) ≡ false → b ≡ false
    last true b e = absurd (cc)
    last false b e = e

has_key_of : {P : Type 0} (key : P → List ℕ) (xs : List P) (x : P) → Has xs x → Has (map key xs) (key x)
has_key_of key [] x h = h
has_key_of key (y ∷ xs) x (inl e) = inl (ap key e)
has_key_of key (y ∷ xs) x (inr h) = inr (has_key_of key xs x h)

or_false : (a b : Bool) → (a || b) ≡ false → (a ≡ false) × (b ≡ false)
or_false true b e = absurd (cc)
or_false false b e = (refl, e)

pub apart_by_text : {P : Type 0} (key : P → List ℕ) (xs : List P)
    → has_duplicate (map key xs) ≡ false → IsApart key xs
apart_by_text key [] once x y hx hy same = absurd hx
apart_by_text key (z ∷ xs) once x y hx hy same =
    let parts = or_false (list_any (bytes_eq (key z)) (map key xs)) (has_duplicate (map key xs)) once in
    elim hx [
      | inl ex ↦ elim hy [
        | inl ey ↦ ex ∙ sym ey
        | inr ty ↦ absurd (any_has (key z) (map key xs) parts.0
            (subst (Has (map key xs)) (sym same ∙ ap key ex) (has_key_of key xs y ty)))
      ]
      | inr tx ↦ elim hy [
        | inl ey ↦ absurd (any_has (key z) (map key xs) parts.0
            (subst (Has (map key xs)) (same ∙ ap key ey) (has_key_of key xs x tx)))
        | inr ty ↦ apart_by_text key xs parts.1 x y tx ty same
      ]
    ]

-- ---- keys that are numbers

pub from_on : {P : Type 0} (key : P → ℕ) (from count : ℕ) (xs : List P)
    → map key xs ≡ range_with_len from count → (x : P) → Has xs x → (from ≤ key x) × (key x < from + count)
from_on key from count [] is x h = absurd h
from_on key from zero (y ∷ xs) is x h = absurd (cc)
from_on key from (suc count) (y ∷ xs) is x h =
    let first : key y ≡ from = cc in
    let rest : map key xs ≡ range_with_len (from + 1) count = cc in
    elim h [
      | inl e ↦ let k : key x ≡ from = ap key e ∙ first in (omega (arith, k), omega (arith, k))
      | inr more ↦ let r = from_on key (from + 1) count xs rest x more in
          (omega (arith, r.0), omega (arith, r.1))
    ]

pub apart_by_number : {P : Type 0} (key : P → ℕ) (from count : ℕ) (xs : List P)
    → map key xs ≡ range_with_len from count → IsApart key xs
apart_by_number key from count [] is x y hx hy same = absurd hx
apart_by_number key from zero (z ∷ xs) is x y hx hy same = absurd (cc)
apart_by_number key from (suc count) (z ∷ xs) is x y hx hy same =
    let first : key z ≡ from = cc in
    let rest : map key xs ≡ range_with_len (from + 1) count = cc in
    elim hx [
      | inl ex ↦ elim hy [
        | inl ey ↦ ex ∙ sym ey
        | inr ty ↦ let low = (from_on key (from + 1) count xs rest y ty).0 in
            let here : key x ≡ from = ap key ex ∙ first in
            absurd (omega (arith, low, same, here))
      ]
      | inr tx ↦ elim hy [
        | inl ey ↦ let low = (from_on key (from + 1) count xs rest x tx).0 in
            let here : key y ≡ from = ap key ey ∙ first in
            absurd (omega (arith, low, same, here))
        | inr ty ↦ apart_by_number key (from + 1) count xs rest x y tx ty same
      ]
    ]
