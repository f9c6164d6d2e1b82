-- What a repetition is answered.
use Rattle.portal_ledger.proofs.Common.{◌≡◌, Bool, true, false, cond, Option, Some, None, Result, Ok, Err}
use Rattle.portal_ledger.proofs.Common.{refl, Answer, Refusal, KeptRequest, Fingerprint, same_request, Ledger}
use Rattle.portal_ledger.proofs.Common.{held_in, repeat_of, repeat_in}
use Rattle.portal_model.specs.declared.refusal.Refusal.TheVariants.{IdReused}

not_none : (answer : Answer) → ◌≡◌ {A = Result (Option Answer) Refusal} (Ok (Some answer)) (Ok None) → ⊥
not_none answer e = cc

not_ok : (r : Refusal) → ◌≡◌ {A = Result (Option Answer) Refusal} (Err r) (Ok None) → ⊥
not_ok r e = cc

-- without an answer no request with the key is kept
pub fresh : (L : Ledger) (own : Fingerprint) → repeat_in L (Some own) ≡ Ok None → held_in L own ≡ None
fresh L own e = go (held_in L own) refl e
  where
    go : (o : Option KeptRequest) → held_in L own ≡ o → repeat_of o own ≡ Ok None → held_in L own ≡ None
    go None is h = is
    go (Some k) is h = by (same_request k.mark own) h
      where
        by : (b : Bool) → ◌≡◌ {A = Result (Option Answer) Refusal}
            (cond b (Ok (Some k.answer)) (Err IdReused)) (Ok None) → held_in L own ≡ None
        by true h = absurd (not_none k.answer h)
        by false h = absurd (not_ok IdReused h)

-- an answer is that of the kept request
pub answered_held : (L : Ledger) (own : Fingerprint) (answer : Answer)
    → repeat_in L (Some own) ≡ Ok (Some answer)
    → (k : KeptRequest) × (held_in L own ≡ Some k) × (k.answer ≡ answer)
answered_held L own answer e = go (held_in L own) refl e
  where
    go : (o : Option KeptRequest) → held_in L own ≡ o → repeat_of o own ≡ Ok (Some answer)
        → (k : KeptRequest) × (held_in L own ≡ Some k) × (k.answer ≡ answer)
    go None is h = cc
    go (Some k) is h = by (same_request k.mark own) h
      where
        by : (b : Bool) → ◌≡◌ {A = Result (Option Answer) Refusal}
            (cond b (Ok (Some k.answer)) (Err IdReused)) (Ok (Some answer))
            → (k : KeptRequest) × (held_in L own ≡ Some k) × (k.answer ≡ answer)
        by true h = (k, is, cc)
        by false h = cc
