-- Line ends, byte by byte.
use Rattle.portal_http_message.proofs.Common.{◌≡◌, ℕ, ◌+◌, ◌<◌, ◌≤◌, cond, ◌||◌, ◌==◌, List, [], ◌∷◌, length}
use Rattle.portal_http_message.proofs.Common.{get_or, drop, refl, ◌∙◌, at_drop_more, at_drop_all}
use Rattle.portal_http_message.specs.Lines.{from_start}

start_step : (x : ℕ) (rest : List ℕ)
    → from_start (x ∷ rest) ≡ cond (x == 13 || x == 10) (from_start rest) (x ∷ rest)
unfolding from_start
start_step x rest = refl

pub start_at : (xs : List ℕ) (i : ℕ) → i < length xs
    → from_start (drop i xs) ≡ cond (get_or xs i 0 == 13 || get_or xs i 0 == 10)
    (from_start (drop (i + 1) xs)) (get_or xs i 0 ∷ drop (i + 1) xs)
start_at xs i h = at_drop_more from_start xs i 0 h ∙ start_step (get_or xs i 0) (drop (i + 1) xs)

pub start_none : (xs : List ℕ) (i : ℕ) → length xs ≤ i → from_start (drop i xs) ≡ []
unfolding from_start
start_none xs i h = at_drop_all from_start xs i h

pub drop_cons : (xs : List ℕ) (i : ℕ) → i < length xs → drop i xs ≡ get_or xs i 0 ∷ drop (i + 1) xs
drop_cons xs i h = at_drop_more (λ (l : List ℕ). l) xs i 0 h

pub drop_none : (xs : List ℕ) (i : ℕ) → length xs ≤ i → drop i xs ≡ []
drop_none xs i h = at_drop_all (λ (l : List ℕ). l) xs i h
