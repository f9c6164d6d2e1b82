-- The vouchers whose printed codes begin with a text, as those between two texts.
use Rattle.portal_tables.proofs.Common.{◌≡◌, ◌+◌, ◌<◌, ℕ, List, [], ◌∷◌, ◌&&◌, Bool, true, refl}
use Rattle.portal_tables.proofs.Common.{length, take, bytes_eq, nat_cmp, arith, nat_tests, nat_eq, ap, ◌++◌}
use Rattle.std.specs.Cmp.Lexicographic.{slice_cmp}
use Rattle.std.specs.Ordering.{is_ge, is_lt, ordering_then}
use Rattle.std.specs.declared.cmp.Ordering.{Ordering}
use Rattle.portal_tables.specs.BatchLists.{text_above}
use Rattle.portal_tables_rows.specs.Lists.{is_between}

abbrev ordered : List ℕ → List ℕ → Ordering
ordered = slice_cmp nat_cmp

-- the last byte, and what follows it
last_byte : (t b : ℕ) (ts : List ℕ)
    → (is_ge (ordering_then (nat_cmp t b) (ordered ts []))
    && is_lt (ordering_then (nat_cmp t (b + 1)) (ordered ts []))) ≡ (nat_eq t b && true)
last_byte t b [] = grind (arith, nat_tests)
last_byte t b (x ∷ xs) = grind (arith, nat_tests)

-- a byte before that
next_byte : (t b : ℕ) (o p : Ordering) (q : Bool) → (is_ge o && is_lt p) ≡ q
    → (is_ge (ordering_then (nat_cmp t b) o) && is_lt (ordering_then (nat_cmp t b) p)) ≡ (nat_eq t b && q)
next_byte t b o p q h = grind (arith, nat_tests)

-- a text is between another one and the one above that exactly if it begins with it
pub between_begins : (low text : List ℕ) → 0 < length low
    → is_between low (text_above low) text ≡ bytes_eq (take (length low) text) low
between_begins [] text some = absurd (omega arith)
between_begins (b ∷ []) [] some = refl
between_begins (b ∷ []) (t ∷ ts) some = last_byte t b ts
between_begins (b ∷ c ∷ rest) [] some = refl
between_begins (b ∷ c ∷ rest) (t ∷ ts) some =
    next_byte t b (ordered ts (c ∷ rest)) (ordered ts (text_above (c ∷ rest)))
    (bytes_eq (take (length (c ∷ rest)) ts) (c ∷ rest)) (between_begins (c ∷ rest) ts (omega arith))

pub above_is : (front : List ℕ) (last : ℕ) → text_above (front ++ last ∷ []) ≡ front ++ (last + 1) ∷ []
above_is [] last = refl
above_is (b ∷ []) last = refl
above_is (b ∷ c ∷ rest) last = ap (λ bs. b ∷ bs) (above_is (c ∷ rest) last)
