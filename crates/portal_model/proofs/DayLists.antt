-- The days of a span, one after another.
use Rattle.portal_model.proofs.Common.{◌≡◌, ℕ, ◌+◌, ℤ, [], ◌∷◌, ◌++◌, map, ap, ◌∙◌, arith, range_with_len}
use Rattle.portal_model.proofs.Common.{map-append}
use Rattle.std.proofs.lemmas.List.FromFn.{map-range_with_len_more}

-- one day more
pub map-days_more : {X : Type 0} (f : ℤ → X) (g : ℕ → ℤ) (k : ℕ)
    → map f (map g (range_with_len 0 (k + 1))) ≡ map f (map g (range_with_len 0 k)) ++ f (g k) ∷ []
map-days_more f g k = ap (map f) (map-range_with_len_more g 0 k k (omega arith))
    ∙ map-append f (map g (range_with_len 0 k)) (g k ∷ [])
