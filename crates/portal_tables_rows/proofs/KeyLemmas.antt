-- From tests of sets of keys to keys that differ, and to references to rows that are there.
use Rattle.portal_tables_rows.proofs.Common.{◌≡◌, ◌↔◌, inl, inr, ℕ, Bool, false, IsTrue, List, [], ◌∷◌}
use Rattle.portal_tables_rows.proofs.Common.{map}
use Rattle.portal_tables_rows.proofs.Common.{All, true≢false, refl, sym, ap, map-map, subst, ◌∙◌, bytes_eq}
use Rattle.portal_tables_rows.proofs.Common.{list_all}
use Rattle.portal_tables_rows.proofs.Common.{Has, all_from, all_has, has_image, has_mapped}
use Rattle.portal_tables_rows.proofs.Common.{IfOk, IfOk-weaker, IsCode, Result, text_of}
use Rattle.portal_tables_rows.proofs.AuditLemmas.{all_true, any_true, true_all, true_any}
use Rattle.portal_tables_rows.proofs.SameCode.{code_test, same_code}
use Rattle.portal_tables_rows.specs.Audit.{AreAmong}
use Rattle.std.specs.Bool.{Decides}
use Rattle.std.specs.List.{IsDistinct}
use Rattle.std.specs.Set.{is_member}
use Rattle.std.proofs.Common.{map-id}
use Rattle.std.proofs.lemmas.List.Elements.{recursion_from_All}

-- ---- keys

-- keys that differ by one test differ by another that agrees with it on them
pub distinct_as : {X K P : Type 0} (e : K → K → Bool) (r : P → P → Bool) (f : X → K) (g : X → P) (xs : List X)
    → ((x y : X) → Has xs x → Has xs y → e (f x) (f y) ≡ r (g x) (g y))
    → IsDistinct e (map f xs) → IsDistinct r (map g xs)
unfolding IsDistinct
distinct_as e r f g [] alike apart = tt
distinct_as e r f g (x ∷ xs) alike apart = (
  all_from _ (map g xs) (λ p has.
      let it = has_image g xs p has in
      ap (r (g x)) it.2 ∙ sym (alike x it.0 (inl refl) (inr it.1))
      ∙ all_has _ (map f xs) (f it.0) apart.0 (has_mapped f xs it.0 it.1)),
  distinct_as e r f g xs (λ a b h k. alike a b (inr h) (inr k)) apart.1,
)

-- the same of the keys themselves
pub distinct_by : {K P : Type 0} (e : K → K → Bool) (r : P → P → Bool) (g : K → P) (ks : List K)
    → ((x y : K) → Has ks x → Has ks y → e x y ≡ r (g x) (g y)) → IsDistinct e ks ↔ IsDistinct r (map g ks)
distinct_by e r g ks alike = (
  λ apart. distinct_as e r (λ x. x) g ks alike (subst (IsDistinct e) (sym (map-id ks)) apart),
  λ apart. subst (IsDistinct e) (map-id ks)
      (distinct_as r e g (λ x. x) ks (λ x y h k. sym (alike x y h k)) apart),
)

each : {X : Type 0} (P : X → Type 0) (xs : List X) → All P xs → (x : X) → Has xs x → P x
each P xs all x has = all_has P xs x (recursion_from_All P xs all) has

-- codes differ if their printed texts do
pub codes_distinct : (codes : List (List ℕ)) → All IsCode codes
    → IsDistinct bytes_eq codes ↔ IsDistinct bytes_eq (map text_of codes)
codes_distinct codes all = distinct_by bytes_eq bytes_eq text_of codes
    (λ x y h k. sym (code_test x y (each IsCode codes all x h) (each IsCode codes all y k)))

-- ---- references

-- a test of each key by a set is a test of the lists
pub among : {K : Type 0} (e : K → K → Bool) → ((x y : K) → Decides (e x y) (x ≡ y)) → (xs ys : List K)
    → IsTrue (list_all (is_member e ys) xs) ↔ AreAmong xs ys
among e same xs ys = (
  λ on x has.
      let it = any_true (e x) ys (all_true (is_member e ys) xs on x has) in
      subst (Has ys) (sym ((same x it.0).0 it.2)) it.1,
  λ all. true_all (is_member e ys) xs (λ x has. true_any (e x) ys x (all x has) ((same x x).1 refl)),
)

-- the same of the test's result
pub among_is : {K E : Type 0} (e : K → K → Bool) → ((x y : K) → Decides (e x y) (x ≡ y)) → (xs ys : List K)
    (result : Result Bool E) → IfOk result (λ all. all ≡ list_all (is_member e ys) xs)
    → IfOk result (λ all. IsTrue all ↔ AreAmong xs ys)
among_is e same xs ys result is =
    let it = among e same xs ys in
    IfOk-weaker result _ _ (λ b tells. (λ on. it.0 (sym tells ∙ on), λ all. tells ∙ it.1 all)) is

-- codes are among others if their printed texts are
pub texts_among : (xs ys : List (List ℕ)) → All IsCode xs → All IsCode ys
    → AreAmong xs ys ↔ AreAmong (map text_of xs) (map text_of ys)
texts_among xs ys codes others = (
  λ all text has.
      let it = has_image text_of xs text has in
      subst (Has (map text_of ys)) (sym it.2) (has_mapped text_of ys it.0 (all it.0 it.1)),
  λ all x has.
      let it = has_image text_of ys (text_of x) (all (text_of x) (has_mapped text_of xs x has)) in
      let own = each IsCode xs codes x has in
      subst (Has ys) (sym (same_code x it.0 own (each IsCode ys others it.0 it.1) it.2)) it.1,
)

-- ---- what was read is what the tables hold

-- values through the rows that were read as them
pub through : {X Y K : Type 0} (f : Y → K) (g : X → Y) (xs : List X) (ys : List Y) → map g xs ≡ ys
    → map (λ x. f (g x)) xs ≡ map f ys
through f g xs ys e = sym (map-map f g xs) ∙ ap (map f) e

-- a test that failed, of a part of what was to hold
pub refused : {P Q : Type 0} (b : Bool) → b ≡ false → IsTrue b ↔ P → (Q → P) → IsTrue false ↔ Q
refused b off is part =
    (λ on. absurd (true≢false (sym on)), λ q. absurd (true≢false (sym (is.1 (part q)) ∙ off)))
