use Rattle.portal_codes.proofs.Common.{◌≡◌, ◌⊎◌, inl, inr, ℕ, ◌+◌, ◌-◌, ◌%◌, ◌<◌, ◌≤◌, List, [], ◌∷◌, ◌++◌}
use Rattle.portal_codes.proofs.Common.{length, take, drop, set, get_or, sym, ap, ◌∙◌, arith, subst, refl, map}
use Rattle.portal_codes.proofs.Common.{length-set, take_all, take_more, take_more_set, map-append, IsCode}
use Rattle.portal_codes.proofs.Common.{weighted_values, weights_of}
use Rattle.portal_codes.proofs.Buffers.{zeros, still_zeros, all_zeros, holds_code}
use Rattle.portal_codes.proofs.Weighted.{words_code}
use Rattle.portal_codes.proofs.code_from_slice.Goals as goal

pub loop-i-init : goal.loop-i-init
unfolding zeros
loop-i-init c = record { whole = refl; so_far = refl; tail = refl }

fits : (n : ℕ) → (n ≡ 11) ⊎ (n ≡ 15) → n ≤ 15
fits n (inl e) = omega arith
fits n (inr e) = omega arith

signs : (n : ℕ) → (n ≡ 11) ⊎ (n ≡ 15) → (n + 1 ≡ 12) ⊎ (n + 1 ≡ 16)
signs n (inl e) = inl (omega arith)
signs n (inr e) = inr (omega arith)

pub loop-i-preserved : goal.loop-i-preserved
loop-i-preserved c =
    let i : ℕ = c.loop-i.i in
    let words : List ℕ = c.args.words.now in
    let word : ℕ = get_or words i 0 in
    let few = fits (length words) c.requires in
    let more : i < length words = c.loop-i-test.true in
    record {
      whole = omega (arith, length-set {A = ℕ});
      so_far = take_more_set c.loop-i.values i (word % 31) (omega arith)
          ∙ ap (λ xs. xs ++ (word % 31) ∷ []) c.loop-i.invariant.so_far
          ∙ sym (map-append (λ w. w % 31) (take i words) (word ∷ []))
          ∙ ap (map (λ w. w % 31)) (sym (take_more words i 0 more));
      tail = still_zeros c.loop-i.values i (word % 31) c.loop-i.invariant.whole (omega arith)
          c.loop-i.invariant.tail;
    }

pub returns-clause-value : goal.returns-clause-value
returns-clause-value c =
    let values : List ℕ = c.loop-i.values in
    let words : List ℕ = c.args.words.now in
    let n : ℕ = length words in
    let remainder : ℕ → ℕ = λ word. word % 31 in
    let few = fits n c.requires in
    let all : c.loop-i.i ≡ n = omega arith in
    let body : take n values ≡ map remainder words =
    ap (λ m. take m values) (sym all) ∙ c.loop-i.invariant.so_far
    ∙ ap (map remainder) (take_all c.loop-i.i words (omega arith)) in
    let sum : c.weighted_sum-sum.result ≡ weighted_values (weights_of (n + 1)) (map remainder words) =
    c.weighted_sum-sum.ensures ∙ ap (λ ws. weighted_values ws (take n values)) c.weights_of.ensures
    ∙ ap (weighted_values (weights_of (n + 1))) body in
    let check : ℕ = (31 - c.weighted_sum-sum.result % 31) % 31 in
    take_more_set values n check (omega (arith, c.loop-i.invariant.whole))
    ∙ ap (λ xs. xs ++ check ∷ []) body
    ∙ ap (λ m. map remainder words ++ ((31 - m % 31) % 31) ∷ []) sum

pub returns-clause-code : goal.returns-clause-code
returns-clause-code c = subst IsCode (sym (returns-clause-value c))
    (words_code c.args.words.now (signs (length c.args.words.now) c.requires))

pub invariant_of-result : goal.invariant_of-result
invariant_of-result c =
    let values : List ℕ = c.loop-i.values in
    let n : ℕ = length c.args.words.now in
    let few = fits n c.requires in
    let all : c.loop-i.i ≡ n = omega arith in
    let check : ℕ = (31 - c.weighted_sum-sum.result % 31) % 31 in
    let whole : length (set values n check) ≡ 16 =
    omega (arith, length-set {A = ℕ}, c.loop-i.invariant.whole) in
    let tail : drop n values ≡ drop n zeros =
    subst (λ (m : ℕ). drop m values ≡ drop m zeros) all c.loop-i.invariant.tail in
    holds_code (set values n check) (n + 1) whole (omega arith)
    (all_zeros (set values n check) (n + 1) whole (omega arith)
    (still_zeros values n check c.loop-i.invariant.whole (omega arith) tail))
    (returns-clause-code c)
