-- The bytes of a path, one after another.
use Rattle.portal_http_routes.proofs.Common.{◌≡◌, ℕ, ◌+◌, ◌<◌, ◌≤◌, Bool, true, false, cond, not, ◌&&◌, ◌==◌}
use Rattle.portal_http_routes.proofs.Common.{List, [], ◌∷◌, ◌++◌, length, get_or, take, drop, Some, None}
use Rattle.portal_http_routes.proofs.Common.{refl, sym, ap, ◌∙◌, append_assoc, append-nil, at_drop_more}
use Rattle.portal_http_routes.proofs.Common.{at_drop_all, take_more, take_all, ne_eqb, IsPlain}
use Rattle.portal_http_routes.specs.Targets.{before, after, has_no_empty_segment}

before_step : (separator x : ℕ) (rest : List ℕ)
    → before separator (x ∷ rest) ≡ cond (x == separator) [] (x ∷ before separator rest)
unfolding before
before_step separator x rest = refl

after_step : (separator x : ℕ) (rest : List ℕ)
    → after separator (x ∷ rest) ≡ cond (x == separator) (Some rest) (after separator rest)
unfolding after
after_step separator x rest = refl

full_step : (slash : Bool) (x : ℕ) (rest : List ℕ)
    → has_no_empty_segment slash (x ∷ rest)
    ≡ cond (x == 47) (not slash && has_no_empty_segment true rest) (has_no_empty_segment false rest)
unfolding has_no_empty_segment
full_step slash x rest = refl

before_at : (separator : ℕ) (xs : List ℕ) (i : ℕ) → i < length xs
    → before separator (drop i xs)
    ≡ cond (get_or xs i 0 == separator) [] (get_or xs i 0 ∷ before separator (drop (i + 1) xs))
before_at separator xs i h =
    at_drop_more (before separator) xs i 0 h ∙ before_step separator (get_or xs i 0) (drop (i + 1) xs)

pub after_at : (separator : ℕ) (xs : List ℕ) (i : ℕ) → i < length xs
    → after separator (drop i xs)
    ≡ cond (get_or xs i 0 == separator) (Some (drop (i + 1) xs)) (after separator (drop (i + 1) xs))
after_at separator xs i h =
    at_drop_more (after separator) xs i 0 h ∙ after_step separator (get_or xs i 0) (drop (i + 1) xs)

pub full_at : (slash : Bool) (xs : List ℕ) (i : ℕ) → i < length xs
    → has_no_empty_segment slash (drop i xs) ≡ cond (get_or xs i 0 == 47)
    (not slash && has_no_empty_segment true (drop (i + 1) xs)) (has_no_empty_segment false (drop (i + 1) xs))
full_at slash xs i h =
    at_drop_more (has_no_empty_segment slash) xs i 0 h ∙ full_step slash (get_or xs i 0) (drop (i + 1) xs)

pub full_end : (slash : Bool) (xs : List ℕ) (i : ℕ) → length xs ≤ i
    → has_no_empty_segment slash (drop i xs) ≡ not slash
unfolding has_no_empty_segment
full_end slash xs i h = at_drop_all (has_no_empty_segment slash) xs i h

-- the bytes before the separator, by the bytes that were passed
abbrev pub so_far : ℕ → List ℕ → ℕ → List ℕ
so_far separator xs i = take i xs ++ before separator (drop i xs)

pub passed : (separator : ℕ) (xs : List ℕ) (i : ℕ) → i < length xs → (get_or xs i 0 == separator) ≡ false
    → so_far separator xs i ≡ so_far separator xs (i + 1)
passed separator xs i h e =
    let x = get_or xs i 0 in
    let rest = before separator (drop (i + 1) xs) in
    ap (λ (l : List ℕ). take i xs ++ l)
    (before_at separator xs i h ∙ ap (λ (b : Bool). cond b [] (x ∷ rest)) e)
    ∙ sym (append_assoc (take i xs) (x ∷ []) rest) ∙ ap (λ (t : List ℕ). t ++ rest) (sym (take_more xs i 0 h))

pub found : (separator : ℕ) (xs : List ℕ) (i : ℕ) → i < length xs → (get_or xs i 0 == separator) ≡ true
    → so_far separator xs i ≡ take i xs
found separator xs i h e =
    ap (λ (l : List ℕ). take i xs ++ l) (before_at separator xs i h
    ∙ ap (λ (b : Bool). cond b [] (get_or xs i 0 ∷ before separator (drop (i + 1) xs))) e)
    ∙ append-nil (take i xs)

before_end : (separator : ℕ) (xs : List ℕ) (i : ℕ) → length xs ≤ i → before separator (drop i xs) ≡ []
unfolding before
before_end separator xs i h = at_drop_all (before separator) xs i h

pub never : (separator : ℕ) (xs : List ℕ) (i : ℕ) → length xs ≤ i → so_far separator xs i ≡ xs
never separator xs i h = ap (λ (l : List ℕ). take i xs ++ l) (before_end separator xs i h)
    ∙ append-nil (take i xs) ∙ take_all i xs h

pub after_end : (separator : ℕ) (xs : List ℕ) (i : ℕ) → length xs ≤ i → after separator (drop i xs) ≡ None
unfolding after
after_end separator xs i h = at_drop_all (after separator) xs i h

pub stops_at : (slash : Bool) (xs : List ℕ) (i : ℕ) → i < length xs
    → (get_or xs i 0 == 47) ≡ true → slash ≡ true
    → has_no_empty_segment slash (drop i xs) ≡ false
stops_at slash xs i h e s =
    full_at slash xs i h
    ∙ ap (λ (b : Bool). cond b (not slash && has_no_empty_segment true (drop (i + 1) xs))
    (has_no_empty_segment false (drop (i + 1) xs))) e
    ∙ ap (λ (b : Bool). not b && has_no_empty_segment true (drop (i + 1) xs)) s

pub slash_at : (slash : Bool) (xs : List ℕ) (i : ℕ) → i < length xs
    → (get_or xs i 0 == 47) ≡ true → slash ≡ false
    → has_no_empty_segment slash (drop i xs) ≡ has_no_empty_segment true (drop (i + 1) xs)
slash_at slash xs i h e s =
    full_at slash xs i h
    ∙ ap (λ (b : Bool). cond b (not slash && has_no_empty_segment true (drop (i + 1) xs))
    (has_no_empty_segment false (drop (i + 1) xs))) e
    ∙ ap (λ (b : Bool). not b && has_no_empty_segment true (drop (i + 1) xs)) s

pub sign_at : (slash : Bool) (xs : List ℕ) (i : ℕ) → i < length xs → (get_or xs i 0 == 47) ≡ false
    → has_no_empty_segment slash (drop i xs) ≡ has_no_empty_segment false (drop (i + 1) xs)
sign_at slash xs i h e =
    full_at slash xs i h
    ∙ ap (λ (b : Bool). cond b (not slash && has_no_empty_segment true (drop (i + 1) xs))
    (has_no_empty_segment false (drop (i + 1) xs))) e

pub back_found : (separator : ℕ) (xs : List ℕ) (i : ℕ) → i < length xs → (get_or xs i 0 == separator) ≡ true
    → after separator (drop i xs) ≡ Some (drop (i + 1) xs)
back_found separator xs i h e =
    after_at separator xs i h
    ∙ ap (λ (b : Bool). cond b (Some (drop (i + 1) xs)) (after separator (drop (i + 1) xs))) e

pub back_passed : (separator : ℕ) (xs : List ℕ) (i : ℕ) → i < length xs → (get_or xs i 0 == separator) ≡ false
    → after separator (drop i xs) ≡ after separator (drop (i + 1) xs)
back_passed separator xs i h e =
    after_at separator xs i h
    ∙ ap (λ (b : Bool). cond b (Some (drop (i + 1) xs)) (after separator (drop (i + 1) xs))) e

-- a segment of a path goes by
full_segment : (word tail : List ℕ) → IsPlain word
    → has_no_empty_segment false (word ++ tail) ≡ has_no_empty_segment false tail
full_segment [] tail plain = refl
full_segment (b ∷ rest) tail plain =
    full_step false b (rest ++ tail)
    ∙ ap (λ (t : Bool). cond t (has_no_empty_segment true (rest ++ tail))
    (has_no_empty_segment false (rest ++ tail))) (ne_eqb b 47 plain.1)
    ∙ full_segment rest tail plain.2

-- the same behind a slash, where it may not be empty
pub full_after : (b : ℕ) (rest tail : List ℕ) → IsPlain (b ∷ rest)
    → has_no_empty_segment true (b ∷ rest ++ tail) ≡ has_no_empty_segment false tail
full_after b rest tail plain =
    full_step true b (rest ++ tail)
    ∙ ap (λ (t : Bool). cond t false (has_no_empty_segment false (rest ++ tail))) (ne_eqb b 47 plain.1)
    ∙ full_segment rest tail plain.2

-- the bytes before the slash after a segment are the segment
pub before_segment : (word tail : List ℕ) → IsPlain word → before 47 (word ++ 47 ∷ tail) ≡ word
unfolding before
before_segment [] tail plain = refl
before_segment (b ∷ rest) tail plain =
    ap (λ (t : Bool). cond t [] (b ∷ before 47 (rest ++ 47 ∷ tail))) (ne_eqb b 47 plain.1)
    ∙ ap (λ (l : List ℕ). b ∷ l) (before_segment rest tail plain.2)

pub before_last : (word : List ℕ) → IsPlain word → before 47 word ≡ word
unfolding before
before_last [] plain = refl
before_last (b ∷ rest) plain =
    ap (λ (t : Bool). cond t [] (b ∷ before 47 rest)) (ne_eqb b 47 plain.1)
    ∙ ap (λ (l : List ℕ). b ∷ l) (before_last rest plain.2)
