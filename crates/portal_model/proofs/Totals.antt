-- No pair is of two days, so what the days of a span come to together is at most what all pairs come to.
use Rattle.portal_model.proofs.Common.{◌≡◌, ℕ, ◌+◌, ◌-◌, ◌^◌, ◌<◌, ◌≤◌, zero, suc, ℤ, pos, ◌+ℤ◌, ◌<ℤ◌, cond}
use Rattle.portal_model.proofs.Common.{List, [], ◌∷◌, length, map, refl, ap, sym, ◌∙◌, arith, inl, inr, All}
use Rattle.portal_model.proofs.Common.{sum_by, range_with_len, cases_Bool, cond-true, cond-false, ints}
use Rattle.portal_model.proofs.Common.{All-weaker, sum_by-cons, sum_by-le, sum_by-le-sum_by, mul-le-mul_right}
use Rattle.portal_model.proofs.Common.{DayTakings, Pair, takings_on, TotalsFit, AreAmounts}
use Rattle.std.specs.Ordering.{int_eq}
use Rattle.std.proofs.lemmas.Bool.Decides.{Decides-int_eq}

-- what the pair weighs, where it is of the day
abbrev weight_on : (Pair → ℕ) → ℤ → Pair → ℕ
weight_on v day p = cond (int_eq p.0 day) (v p) 0

abbrev day_after : ℤ → ℕ → ℤ
day_after first k = first +ℤ pos k

pub sum_by-map : {X Y : Type 0} (f : Y → ℕ) (g : X → Y) (xs : List X)
    → sum_by f (map g xs) ≡ sum_by (λ x. f (g x)) xs
sum_by-map f g [] = refl
sum_by-map f g (x ∷ xs) = sum_by-cons f (g x) (map g xs) ∙ ap (λ n. f (g x) + n) (sum_by-map f g xs)
    ∙ sym (sum_by-cons (λ x. f (g x)) x xs)

sum_by-zero : {X : Type 0} (xs : List X) → sum_by (λ _. 0) xs ≡ 0
sum_by-zero [] = refl
sum_by-zero (x ∷ xs) = omega (arith, sum_by-cons (λ _. 0) x xs, sum_by-zero xs)

sum_by-add : {X : Type 0} (f g : X → ℕ) (xs : List X) → sum_by (λ x. f x + g x) xs ≡ sum_by f xs + sum_by g xs
sum_by-add f g [] = refl
sum_by-add f g (x ∷ xs) = omega
    (arith, sum_by-cons (λ x. f x + g x) x xs, sum_by-cons f x xs, sum_by-cons g x xs, sum_by-add f g xs)

-- the days from a on: none is the pair's where it is of an earlier day, and at most one is
weight_once : (v : Pair → ℕ) (first : ℤ) (p : Pair) (a n : ℕ)
    → (sum_by (λ k. weight_on v (day_after first k) p) (range_with_len a n) ≤ v p)
    × (p.0 <ℤ day_after first a → sum_by (λ k. weight_on v (day_after first k) p) (range_with_len a n) ≡ 0)
weight_once v first p a zero = (omega arith, λ _. refl)
weight_once v first p a (suc n) =
    let f : ℕ → ℕ = λ k. weight_on v (day_after first k) p in
    let step = sum_by-cons f a (range_with_len (a + 1) n) in
    let later = weight_once v first p (a + 1) n in
    elim (cases_Bool (int_eq p.0 (day_after first a))) [
      | inl same ↦
          let day : p.0 ≡ day_after first a = (Decides-int_eq p.0 (day_after first a)).0 same in
          let here : f a ≡ v p = cond-true _ (v p) 0 same in
          let before : p.0 <ℤ day_after first (a + 1) = omega (arith, ints) in
          let none = later.1 before in
          (omega arith, λ h. absurd (omega (arith, ints)))
      | inr other ↦
          let here : f a ≡ 0 = cond-false _ (v p) 0 other in
          let most = later.0 in (
            omega arith,
            λ h. let before : p.0 <ℤ day_after first (a + 1) = omega (arith, ints) in
                let none = later.1 before in
                omega arith,
          )
    ]

-- the sums over the days, day by day, are at most the sum over the pairs
sums_at_most : (v : Pair → ℕ) (first : ℤ) (n : ℕ) (pairs : List Pair)
    → sum_by (λ k. sum_by (weight_on v (day_after first k)) pairs) (range_with_len 0 n) ≤ sum_by v pairs
sums_at_most v first n [] = omega (arith, sum_by-zero (range_with_len 0 n))
sums_at_most v first n (p ∷ pairs) =
    let days = range_with_len 0 n in
    let f : ℕ → ℕ = λ k. sum_by (weight_on v (day_after first k)) (p ∷ pairs) in
    let g : ℕ → ℕ = λ k. weight_on v (day_after first k) p in
    let h : ℕ → ℕ = λ k. sum_by (weight_on v (day_after first k)) pairs in
    let apart : (k : ℕ) → f k ≤ g k + h k =
    λ k. omega (arith, sum_by-cons (weight_on v (day_after first k)) p pairs) in
    let first_part = (weight_once v first p 0 n).0 in
    let rest = sums_at_most v first n pairs in
    omega (arith, sum_by-le-sum_by f (λ k. g k + h k) days apart, sum_by-add g h days, sum_by-cons v p pairs)

-- the same over a field of the takings
abbrev days_from : ℤ → ℕ → List ℤ
days_from first n = map (day_after first) (range_with_len 0 n)

total_at_most : (v : Pair → ℕ) (first : ℤ) (n : ℕ) (pairs : List Pair) (field : DayTakings → ℕ)
    (takings : ℤ → DayTakings)
    → ((day : ℤ) → field (takings day) ≡ sum_by (weight_on v day) pairs)
    → sum_by field (map takings (days_from first n)) ≤ sum_by v pairs
total_at_most v first n pairs field takings is =
    let days = range_with_len 0 n in
    let at_most : (k : ℕ) → field (takings (day_after first k))
    ≤ sum_by (weight_on v (day_after first k)) pairs = λ k. omega (arith, is (day_after first k)) in
    omega (
      arith,
      sum_by-map field takings (days_from first n),
      sum_by-map (λ d. field (takings d)) (day_after first) days,
      sum_by-le-sum_by (λ k. field (takings (day_after first k)))
          (λ k. sum_by (weight_on v (day_after first k)) pairs) days at_most,
      sums_at_most v first n pairs,
    )

count_fits : (pairs : List Pair) → AreAmounts pairs → sum_by (λ _. 1) pairs < 2 ^ 64
count_fits pairs is = let few = is.few in
    omega (arith, sum_by-le (λ (p : Pair). 1) 1 pairs (λ k d h. omega arith))

sum_fits : (pairs : List Pair) → AreAmounts pairs → sum_by (λ p. p.1) pairs < 2 ^ 128
sum_fits pairs is =
    let few = is.few in
    let each : All (λ (p : Pair). p.1 ≤ 2 ^ 64 - 1) pairs = All-weaker (λ (p : Pair). p.1 < 2 ^ 64)
    (λ (p : Pair). p.1 ≤ 2 ^ 64 - 1) (λ p h. omega arith) pairs is.small in
    let short : length pairs ≤ 2 ^ 64 - 1 = omega arith in
    omega (arith, sum_by-le (λ (p : Pair). p.1) (2 ^ 64 - 1) pairs each, mul-le-mul_right (2 ^ 64 - 1) short)

pub totals-fit : (sales refunds : List Pair) (first : ℤ) (n : ℕ) → AreAmounts sales → AreAmounts refunds
    → TotalsFit (map (takings_on sales refunds) (map (λ k. first +ℤ pos k) (range_with_len 0 n)))
totals-fit sales refunds first n sold back =
    let takings = takings_on sales refunds in
    record {
      sold = omega (
        arith,
        total_at_most (λ _. 1) first n sales (λ d. d.sold) takings (λ _. refl),
        count_fits sales sold,
      );
      sales = omega (
        arith,
        total_at_most (λ p. p.1) first n sales (λ d. d.sales) takings (λ _. refl),
        sum_fits sales sold,
      );
      refunded = omega (
        arith,
        total_at_most (λ _. 1) first n refunds (λ d. d.refunded) takings (λ _. refl),
        count_fits refunds back,
      );
      refunds = omega (
        arith,
        total_at_most (λ p. p.1) first n refunds (λ d. d.refunds) takings (λ _. refl),
        sum_fits refunds back,
      );
    }
