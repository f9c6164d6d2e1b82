-- No two kept requests have the same key.
use Rattle.portal_ledger.proofs.Common.{◌≡◌, Bool, true, false, cond, List, [], ◌∷◌, ◌++◌, Option, Some, None}
use Rattle.portal_ledger.proofs.Common.{refl, sym, subst, ◌∙◌, find, option_map, option_and_then}
use Rattle.portal_ledger.proofs.Common.{option_to_list, All, All-cons, All-nil, Answer, Fingerprint, same_key}
use Rattle.portal_ledger.proofs.Common.{KeptRequest, Ledger, IsKeyFree, answer_in, history_of, kept_with}
use Rattle.portal_ledger.proofs.Common.{requests_of}
use Rattle.std.specs.List.{IsDistinct}
use Rattle.std.proofs.lemmas.List.{append-nil}
use Rattle.std.proofs.lemmas.List.Elements.{All-weaker}
use Rattle.portal_model_laws.proofs.References.{distinct-append}
use Rattle.portal_ledger.specs.Laws.{RequestKeysAreUnique}
use Rattle.portal_ledger.proofs.Ledgers.{the_held_is_row}

-- nothing that was not found passes the test
none-passes : {A : Type 0} (test : A → Bool) (xs : List A) → find test xs ≡ None
    → All (λ x. test x ≡ false) xs
none-passes test [] e = All-nil (λ x. test x ≡ false)
none-passes test (x ∷ xs) e = go (none-passes test xs) (test x) refl e
  where
    go : (find test xs ≡ None → All (λ y. test y ≡ false) xs) → (b : Bool) → test x ≡ b
        → cond b (Some x) (find test xs) ≡ None → All (λ y. test y ≡ false) (x ∷ xs)
    go rest true on h = cc
    go rest false off h = All-cons (λ y. test y ≡ false) x xs off (rest h)

abbrev alike : KeptRequest → KeptRequest → Bool
alike k j = same_key k.mark j.mark

-- one more request, under a key that is free
one-more : (L : Ledger) (mark : Option Fingerprint) (answer : Option Answer) → IsKeyFree L mark
    → IsDistinct alike (requests_of L) → IsDistinct alike (requests_of L ++ option_to_list
    (option_and_then {U = KeptRequest} (λ m. option_map (kept_with m) answer) mark))
unfolding IsDistinct
one-more L None answer free apart = subst (IsDistinct alike) (sym (append-nil (requests_of L))) apart
one-more L (Some own) None free apart = subst (IsDistinct alike) (sym (append-nil (requests_of L))) apart
one-more L (Some own) (Some x) free apart =
    let k : KeptRequest = kept_with own x in
    distinct-append alike (requests_of L) (k ∷ []) apart (tt, tt)
    (All-weaker (λ j. alike j k ≡ false) (λ j. All (λ i. alike j i ≡ false) (k ∷ []))
    (λ j off. All-cons (λ i. alike j i ≡ false) k [] off (All-nil (λ i. alike j i ≡ false))) (requests_of L)
    (none-passes (λ j. alike j k) (requests_of L) (sym (the_held_is_row L own) ∙ free.1)))

pub the_keys_are_unique : RequestKeysAreUnique
unfolding IsDistinct
the_keys_are_unique [] s = tt
the_keys_are_unique (a ∷ L) s =
    one-more L a.mark (answer_in (history_of L) a) s.0.free (the_keys_are_unique L s.1)
