-- Numbers in columns, as a format string writes them.
use Rattle.portal_files.proofs.Common.{◌≡◌, ℕ, ◌+◌, ◌-◌, ◌/◌, ◌%◌, ◌<◌, ◌≤◌, zero, suc, false, List, [], ◌∷◌}
use Rattle.portal_files.proofs.Common.{◌++◌, length, replicate, refl, ap, ◌∙◌, arith, inl, inr, append_assoc}
use Rattle.portal_files.proofs.Common.{append-nil, length-append, decimal, repeat, format_spec, two_digits}
use Rattle.portal_files.proofs.Common.{amount_text, right_in}
use Rattle.std.specs.Fmt.{char_count, padded_integral}
use Rattle.std.proofs.lemmas.Bool.{cases_lt}
use Rattle.std.proofs.lemmas.Fmt.{decimal_digit, decimal_step}
use lib.Utf8.{encode}

abbrev space : List ℕ
space = 32 ∷ []

spaces : (n : ℕ) → repeat n space ≡ replicate n 32
spaces zero = refl
spaces (suc n) = ap (λ xs. 32 ∷ xs) (spaces n)

-- `{:>w}`
pub right-column : (w : ℕ) (digits : List ℕ)
    → padded_integral (format_spec 32 3 0 w 18446744073709551615) false [] digits ≡ right_in w digits
unfolding padded_integral char_count encode
right-column w digits =
    let p = w - length digits in
    let before : p - 0 - 0 ≡ p = omega arith in
    let after : p - 0 - 0 - (p - 0 - 0) ≡ 0 = omega arith in
    let front : repeat (p - 0 - 0) space ++ [] ++ [] ++ [] ≡ replicate p 32 =
    append-nil (repeat (p - 0 - 0) space ++ [] ++ []) ∙ append-nil (repeat (p - 0 - 0) space ++ [])
    ∙ append-nil (repeat (p - 0 - 0) space) ∙ ap (λ n. repeat n space) before ∙ spaces p in
    let back : digits ++ repeat (p - 0 - 0 - (p - 0 - 0)) space ≡ digits =
    ap (λ n. digits ++ repeat n space) after ∙ append-nil digits in
    λ i. front i ++ back i

-- `{:02}`
abbrev with_zeros : List ℕ → List ℕ
with_zeros digits = replicate (2 - length digits - 0 - 0) 48 ++ (digits ++ [])

padded-zeros : (digits : List ℕ)
    → padded_integral (format_spec 32 0 4 2 18446744073709551615) false [] digits ≡ with_zeros digits
unfolding padded_integral char_count
padded-zeros digits = refl

zeros-digit : (n : ℕ) → n < 10 → with_zeros (decimal n) ≡ two_digits n
zeros-digit n h =
    let tens : 48 ≡ 48 + n / 10 = omega arith in
    let ones : 48 + n ≡ 48 + n % 10 = omega arith in
    ap with_zeros (decimal_digit n h) ∙ λ i. tens i ∷ ones i ∷ []

zeros-two : (n : ℕ) → 10 ≤ n → n < 100 → with_zeros (decimal n) ≡ two_digits n
zeros-two n h k =
    ap with_zeros (decimal_step n h (omega arith)
    ∙ ap (λ xs. xs ++ (48 + n % 10) ∷ []) (decimal_digit (n / 10) (omega arith)))

pub two-places : (n : ℕ) → n < 100
    → padded_integral (format_spec 32 0 4 2 18446744073709551615) false [] (decimal n) ≡ two_digits n
two-places n h =
    padded-zeros (decimal n)
    ∙ elim (cases_lt n 10) [ inl small ↦ zeros-digit n small | inr large ↦ zeros-two n large h ]

-- whole units in 14 places and a point and two digits are 17 places
pub amount-column : (n : ℕ)
    → right_in 14 (decimal (n / 100)) ++ 46 ∷ two_digits (n % 100) ≡ right_in 17 (amount_text n)
amount-column n =
    let whole = decimal (n / 100) in
    let cents = 46 ∷ two_digits (n % 100) in
    let same : 14 - length whole ≡ 17 - length (amount_text n) = omega (arith, length-append whole cents) in
    append_assoc (replicate (14 - length whole) 32) whole cents
    ∙ ap (λ k. replicate k 32 ++ (whole ++ cents)) same
