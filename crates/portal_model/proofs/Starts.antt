-- The first characters of a code, one after another.
use Rattle.portal_model.proofs.Common.{◌≡◌, ◌+◌, ◌<◌, ◌++◌, ◌∷◌, [], ◌∙◌, ℕ, List, refl, ap, sym}
use Rattle.portal_model.proofs.Common.{arith}
use Rattle.portal_model.proofs.Common.{length, map, take, get_or, map-append}
use Rattle.std.specs.Prelude.{◌≤◌, ◌&&◌, ◌||◌, Bool, true, false, nat_eq, nat_lt, not, filter}
use Rattle.std.specs.List.{AllByRecursion, list_all, list_any}
use Rattle.std.proofs.Common.{lit<}
use Rattle.std.proofs.lemmas.List.Elements.{All-from_recursion, filter-append}
use Rattle.portal_codes.specs.Code.{alphabet}
use Rattle.std.proofs.lemmas.List.{take_more, length-take-le}
use Rattle.std.proofs.lemmas.Bool.Decides.{nat_tests}
use Rattle.std.specs.Char.{to_ascii_uppercase}
use Rattle.portal_codes.specs.Code.{characters_in, in_groups, is_separator}
use Rattle.portal_model.specs.CodeStart.{in_place, IsPrinted, is_sign}

pub characters_more : (text : List ℕ) (i : ℕ) → i < length text
    → characters_in (take (i + 1) text) ≡ characters_in (take i text) ++ characters_in (get_or text i 0 ∷ [])
characters_more text i within =
    let kept : ℕ → Bool = λ byte. not (is_separator byte) in
    ap characters_in (take_more text i 0 within)
    ∙ ap (map to_ascii_uppercase) (filter-append kept (take i text) (get_or text i 0 ∷ []))
    ∙ map-append to_ascii_uppercase (filter kept (take i text)) (filter kept (get_or text i 0 ∷ []))

next_place : (n m sign : ℕ) → m ≡ n + 4 → 0 < n → in_place m sign ≡ in_place n sign
next_place n m sign e some = grind (arith, nat_tests)

groups_push : (signs : List ℕ) (sign : ℕ)
    → in_groups (signs ++ sign ∷ []) ≡ in_groups signs ++ in_place (length signs) sign
groups_push [] sign = refl
groups_push (a ∷ []) sign = refl
groups_push (a ∷ b ∷ []) sign = refl
groups_push (a ∷ b ∷ c ∷ []) sign = refl
groups_push (a ∷ b ∷ c ∷ d ∷ []) sign = refl
groups_push (a ∷ b ∷ c ∷ d ∷ e ∷ rest) sign =
    ap (λ xs. a ∷ b ∷ c ∷ d ∷ 45 ∷ xs) (groups_push (e ∷ rest) sign
    ∙ ap (λ xs. in_groups (e ∷ rest) ++ xs) (sym (next_place (length (e ∷ rest))
    (length (a ∷ b ∷ c ∷ d ∷ e ∷ rest)) sign (omega arith) (omega arith))))

pub groups_more : (signs : List ℕ) (i : ℕ) → i < length signs
    → in_groups (take (i + 1) signs) ≡ in_groups (take i signs) ++ in_place i (get_or signs i 0)
groups_more signs i within =
    ap in_groups (take_more signs i 0 within) ∙ groups_push (take i signs) (get_or signs i 0)
    ∙ ap (λ n. in_groups (take i signs) ++ in_place n (get_or signs i 0))
    (length-take-le i signs (omega arith))

-- ---- the printed text is ASCII, and not empty

any_below : (b : ℕ) (signs : List ℕ) → list_all (λ sign. nat_lt sign 128) signs ≡ true
    → list_any (λ sign. nat_eq sign b) signs ≡ true → b < 128
any_below b [] low h = absurd (cc)
any_below b (sign ∷ signs) low h =
    go (nat_lt sign 128) (nat_eq sign b) refl refl (λ rest any. any_below b signs rest any) low h
  where
    go : (x y : Bool) → nat_lt sign 128 ≡ x → nat_eq sign b ≡ y
        → (list_all (λ sign. nat_lt sign 128) signs ≡ true → list_any (λ sign. nat_eq sign b) signs ≡ true
        → b < 128) → (x && list_all (λ sign. nat_lt sign 128) signs) ≡ true
        → (y || list_any (λ sign. nat_eq sign b) signs) ≡ true → b < 128
    go true true p q more low h = grind (arith, nat_tests)
    go true false p q more low h = more low h
    go false y p q more low h = absurd (cc)

sign_below : (b : ℕ) → is_sign b ≡ true → b < 128
sign_below b h = any_below b alphabet refl h

and_both : (x y : Bool) → (x && y) ≡ true → (x ≡ true) × (y ≡ true)
and_both true y h = (refl, h)
and_both false y h = absurd (cc)

groups_ascii : (signs : List ℕ) → list_all is_sign signs ≡ true
    → AllByRecursion (λ b. b < 128) (in_groups signs)
groups_ascii [] h = tt
groups_ascii (a ∷ []) h = (sign_below a (and_both (is_sign a) _ h).0, tt)
groups_ascii (a ∷ b ∷ []) h = let p = and_both (is_sign a) _ h in let q = and_both (is_sign b) _ p.1 in
    (sign_below a p.0, (sign_below b q.0, tt))
groups_ascii (a ∷ b ∷ c ∷ []) h =
    let p = and_both (is_sign a) _ h in let q = and_both (is_sign b) _ p.1 in
    let r = and_both (is_sign c) _ q.1 in
    (sign_below a p.0, (sign_below b q.0, (sign_below c r.0, tt)))
groups_ascii (a ∷ b ∷ c ∷ d ∷ []) h =
    let p = and_both (is_sign a) _ h in let q = and_both (is_sign b) _ p.1 in
    let r = and_both (is_sign c) _ q.1 in let s = and_both (is_sign d) _ r.1 in
    (sign_below a p.0, (sign_below b q.0, (sign_below c r.0, (sign_below d s.0, tt))))
groups_ascii (a ∷ b ∷ c ∷ d ∷ e ∷ rest) h =
    let p = and_both (is_sign a) _ h in let q = and_both (is_sign b) _ p.1 in
    let r = and_both (is_sign c) _ q.1 in let s = and_both (is_sign d) _ r.1 in (
      sign_below a p.0,
      (
        sign_below b q.0,
        (
          sign_below c r.0,
          (
            sign_below d s.0,
            (lit< tt, groups_ascii (e ∷ rest) s.1),
          ),
        ),
      ),
    )

groups_some : (signs : List ℕ) → 0 < length signs → 0 < length (in_groups signs)
groups_some [] h = h
groups_some (a ∷ []) h = omega arith
groups_some (a ∷ b ∷ []) h = omega arith
groups_some (a ∷ b ∷ c ∷ []) h = omega arith
groups_some (a ∷ b ∷ c ∷ d ∷ []) h = omega arith
groups_some (a ∷ b ∷ c ∷ d ∷ e ∷ rest) h = omega arith

pub groups_printed : (signs : List ℕ) → 4 ≤ length signs → list_all is_sign signs ≡ true
    → IsPrinted (in_groups signs)
groups_printed signs four all = record {
  some = groups_some signs (omega arith);
  ascii = All-from_recursion (λ b. b < 128) (in_groups signs) (groups_ascii signs all);
}
