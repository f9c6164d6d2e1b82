use Rattle.portal_codes.proofs.Common.{◌≡◌, ◌⊎◌, subst, refl, lit≤, length, Bool, ℕ, ◌+◌, List, ◌∷◌, ◌++◌}
use Rattle.portal_codes.proofs.Common.{get_or, take, drop, map, false, arith, ap, sym, ◌∙◌, append-nil}
use Rattle.portal_codes.proofs.Common.{length-append, IsTrue, to_ascii_uppercase, nat_tests, drop_all}
use Rattle.portal_codes.proofs.Common.{length-take-le, length-map, length-set, common_steps, characters_in}
use Rattle.portal_codes.proofs.Common.{character_of, is_separator}
use Rattle.portal_codes.proofs.Alphabet.{is_sign_of, not_a_sign}
use Rattle.portal_codes.proofs.Buffers.{zeros, zero_below, all_zeros, still_zeros}
use Rattle.portal_codes.proofs.Spelling.{characters_in-character, one_more, wrong_length, strange_sign}
use Rattle.portal_codes.proofs.read_characters.Goals as goal

-- a boolean is not both true and false
true_false : {b : Bool} → IsTrue b → b ≡ false → ⊥
true_false is off = cc

pub loop-byte-init : goal.loop-byte-init
unfolding zeros
loop-byte-init c = record {
  whole = refl;
  room = lit≤ tt;
  below = λ k d h. zero_below k d h;
  so_far = refl;
  tail = refl;
}

pub returns-then-count-eq-LONG_CHARACTERS-clause-err : goal.returns-then-count-eq-LONG_CHARACTERS-clause-err
returns-then-count-eq-LONG_CHARACTERS-clause-err c = λ code is.
    let text : List ℕ = c.args.text.now in
    let at : ℕ = c.loop-byte.byte-index in
    let values : List ℕ = take c.loop-byte.count c.loop-byte.values in
    let kept : is_separator (get_or text at 0) ≡ false = grind (arith, nat_tests) in
    let character : ℕ = to_ascii_uppercase (get_or text at 0) in
    let rest : List ℕ = characters_in (drop (at + 1) text) in
    wrong_length text code (map character_of values ++ character ∷ rest)
    (c.loop-byte.invariant.so_far
    ∙ ap (λ s. map character_of values ++ s) (characters_in-character text at c.loop-byte-test.true kept))
    (let long = length-append (map character_of values) (character ∷ rest) in
    let taken = length-map values character_of in
    let full = length-take-le c.loop-byte.count c.loop-byte.values (omega arith) in omega arith)
    is

pub returns-in_default-clause-err : goal.returns-in_default-clause-err
returns-in_default-clause-err c = λ code is.
    let text : List ℕ = c.args.text.now in
    let at : ℕ = c.loop-byte.byte-index in
    let values : List ℕ = take c.loop-byte.count c.loop-byte.values in
    let kept : is_separator (get_or text at 0) ≡ false = grind (arith, nat_tests) in
    let character : ℕ = to_ascii_uppercase (get_or text at 0) in
    let rest : List ℕ = characters_in (drop (at + 1) text) in
    strange_sign character_of values code rest character
    (sym (c.loop-byte.invariant.so_far ∙ ap (λ s. map character_of values ++ s)
    (characters_in-character text at c.loop-byte-test.true kept)) ∙ is.signs)
    is.is_code.below
    (not_a_sign character (sym c.in_default.ensures.value))

pub loop-byte-preserved : goal.loop-byte-preserved
loop-byte-preserved c =
    let text : List ℕ = c.args.text.now in
    let at : ℕ = c.loop-byte.byte-index in
    let values : List ℕ = take c.loop-byte.count c.loop-byte.values in
    let kept : is_separator (get_or text at 0) ≡ false = grind (arith, nat_tests) in
    let rest : List ℕ = characters_in (drop (at + 1) text) in
    let named = is_sign_of (to_ascii_uppercase (get_or text at 0)) c.in-Some.value c.in-Some.ensures.value in
    record {
      whole = omega (arith, length-set {A = ℕ});
      room = omega arith;
      below = grind (arith, common_steps);
      so_far = c.loop-byte.invariant.so_far
          ∙ ap (λ s. map character_of values ++ s)
          (characters_in-character text at c.loop-byte-test.true kept)
          ∙ ap (λ s. map character_of values ++ s ∷ rest) (sym named)
          ∙ one_more character_of c.loop-byte.values rest c.loop-byte.count c.in-Some.value (omega arith);
      tail = still_zeros c.loop-byte.values c.loop-byte.count c.in-Some.value c.loop-byte.invariant.whole
          (omega arith) c.loop-byte.invariant.tail;
    }

pub returns-then-not-is_code_length-clause-err : goal.returns-then-not-is_code_length-clause-err
returns-then-not-is_code_length-clause-err c = λ code is.
    let text : List ℕ = c.args.text.now in
    let values : List ℕ = take c.loop-byte.count c.loop-byte.values in
    let long : length (map character_of values) ≡ c.loop-byte.count =
    length-map values character_of ∙ length-take-le c.loop-byte.count c.loop-byte.values (omega arith) in
    let no : (c.loop-byte.count ≡ 12) ⊎ (c.loop-byte.count ≡ 16) → ⊥ =
    λ is_one. true_false (c.is_code_length.ensures.1 is_one) c.if-not-is_code_length.true in
    wrong_length text code (map character_of values)
    (c.loop-byte.invariant.so_far ∙ ap (λ t. map character_of values ++ characters_in t)
    (drop_all c.loop-byte.byte-index text (omega arith)) ∙ append-nil (map character_of values))
    (λ two. no (subst (λ (n : ℕ). (n ≡ 12) ⊎ (n ≡ 16)) long two))
    is

pub returns-clause-zeros : goal.returns-clause-zeros
returns-clause-zeros c = all_zeros c.loop-byte.values c.loop-byte.count c.loop-byte.invariant.whole
    c.loop-byte.invariant.room c.loop-byte.invariant.tail
