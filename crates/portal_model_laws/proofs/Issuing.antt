-- Each issued code has its place in a batch, and each batch its plan.
use Rattle.portal_model_laws.proofs.Common.{inl, inr, is_some, ◌≡◌, ℕ, ◌+◌, Bool, true, false, cond, List, []}
use Rattle.portal_model_laws.proofs.Common.{◌∷◌, length, Option, Some, None, refl, ap, sym, ◌∙◌, bytes_eq}
use Rattle.portal_model_laws.proofs.Common.{option_map, option_and_then, find, option_or, find-append, Load}
use Rattle.portal_model_laws.proofs.Common.{Issue, Plan, Batch, entry, History, Place, places_from}
use Rattle.portal_model_laws.proofs.Common.{IssuedVoucher, issued_of, issued_at, plan_of, batch_of, batch_row}
use Rattle.portal_model_laws.proofs.Common.{places_of, IsLegal, any_held}
use Rattle.portal_model_laws.proofs.Basics.{picked, is_some-none, bytes_same, bytes_refl, or-some, cond-true}
use Rattle.portal_model_laws.proofs.Plans.{plan-id}
use Rattle.portal_model_laws.proofs.Accepted.{issuable}

-- the place of a code
abbrev pub place_among : List Place → List ℕ → Option Place
place_among places code = find (λ k. bytes_eq k.code code) places

-- what is known of an issued code: its batch, and the plan of the batch
pub record IsBacked (batches : List ℕ → Option Batch) (plans : List ℕ → Option Plan) (i : IssuedVoucher)
    (k : Place) : Type 0 where
  pub batch : Batch
  pub of_batch : i.batch ≡ k.batch
  pub at_place : i.place ≡ k.place
  pub found : batches k.batch ≡ Some batch
  pub plan : plans batch.plan ≡ Some i.plan
  pub expires : batch.expires ≡ i.expires

-- a code is issued where it has a place
abbrev pub Agrees : (List ℕ → Option Batch) → (List ℕ → Option Plan)
    → Option IssuedVoucher → Option Place → Type 0
Agrees batches plans None None = Unit {0}
Agrees batches plans None (Some k) = ⊥
Agrees batches plans (Some i) None = ⊥
Agrees batches plans (Some i) (Some k) = IsBacked batches plans i k

-- what was found of an id is found later too
abbrev pub Keeps : {A : Type 0} → (List ℕ → Option A) → (List ℕ → Option A) → Type 0
Keeps {A} f g = (id : List ℕ) (x : A) → f id ≡ Some x → g id ≡ Some x

keeps_all : {A : Type 0} (f : List ℕ → Option A) → Keeps f f
keeps_all f = λ id x e. e

agrees-later : (b c : List ℕ → Option Batch) (p q : List ℕ → Option Plan) → Keeps b c → Keeps p q
    → (o : Option IssuedVoucher) (k : Option Place) → Agrees b p o k → Agrees c q o k
agrees-later b c p q kb kp None None h = tt
agrees-later b c p q kb kp None (Some k) h = h
agrees-later b c p q kb kp (Some i) None h = h
agrees-later b c p q kb kp (Some i) (Some k) h = record {
  batch = h.batch;
  of_batch = h.of_batch;
  at_place = h.at_place;
  found = kb k.batch h.batch h.found;
  plan = kp h.batch.plan i.plan h.plan;
  expires = h.expires;
}

-- a place of a batch is of that batch
pub placed-batch : (code b : List ℕ) (n : ℕ) (codes : List (List ℕ)) (k : Place)
    → place_among (places_from b n codes) code ≡ Some k → k.batch ≡ b
placed-batch code b n [] k e = cc
placed-batch code b n (c ∷ codes) k e =
    elim (picked (bytes_eq c code) (record { code = c; batch = b; place = n }) k
    (place_among (places_from b (n + 1) codes) code) e) [
      | inl is ↦ sym (ap (λ (x : Place). x.batch) is.1)
      | inr is ↦ placed-batch code b (n + 1) codes k is.1
    ]

pub new_batch-keeps : (H : History) (t : ℕ) (b p : List ℕ) (codes : List (List ℕ)) → batch_of H b ≡ None
    → Keeps (batch_of H) (batch_of (entry t (Issue b p codes) ∷ H))
new_batch-keeps H t b p codes none = λ id x e. go id x e (bytes_eq b id) refl
  where
    go : (id : List ℕ) (x : Batch) → batch_of H id ≡ Some x → (same : Bool) → bytes_eq b id ≡ same
        → cond same (option_map (batch_row t b (length codes)) (plan_of H p)) (batch_of H id) ≡ Some x
    go id x e true is = let here : batch_of H id ≡ None = ap (batch_of H) (sym (bytes_same b id is)) ∙ none in
        cc
    go id x e false is = e

module _ (H : History) (t : ℕ) (b p : List ℕ) (codes : List (List ℕ)) (plan : Plan)
    (known : plan_of H p ≡ Some plan) (none : batch_of H b ≡ None) where
  pub issue_found : batch_of (entry t (Issue b p codes) ∷ H) b ≡ Some (batch_row t b (length codes) plan)
  issue_found = cond-true (bytes_eq b b) (option_map (batch_row t b (length codes)) (plan_of H p))
      (batch_of H b) (bytes_refl b) ∙ ap (option_map (batch_row t b (length codes))) known

  agrees-new : (q : Option Place) → ((k : Place) → q ≡ Some k → k.batch ≡ b)
      → Agrees (batch_of (entry t (Issue b p codes) ∷ H)) (plan_of H)
      (option_and_then (λ k. option_map (issued_at t b k.place) (plan_of H p)) q) q
  agrees-new None of_b = tt
  agrees-new (Some k) of_b =
      let is : k.batch ≡ b = of_b k refl in
      rw known (record {
        batch = batch_row t b (length codes) plan;
        of_batch = sym is;
        at_place = refl;
        found = ap (batch_of (entry t (Issue b p codes) ∷ H)) is ∙ issue_found;
        plan = ap (plan_of H) (plan-id H p plan known) ∙ known;
        expires = refl;
      })

  agrees-issued : (code : List ℕ) (o : Option IssuedVoucher) (q : Option Place)
      → Agrees (batch_of H) (plan_of H) o q
      → Agrees (batch_of (entry t (Issue b p codes) ∷ H)) (plan_of H)
      (option_or o (option_and_then (λ k. option_map (issued_at t b k.place) (plan_of H p))
      (place_among (places_from b 0 codes) code))) (option_or q (place_among (places_from b 0 codes) code))
  agrees-issued code None None h =
      agrees-new (place_among (places_from b 0 codes) code) (λ k e. placed-batch code b 0 codes k e)
  agrees-issued code None (Some k) h = absurd h
  agrees-issued code (Some i) None h = absurd h
  agrees-issued code (Some i) (Some k) h =
      agrees-later (batch_of H) (batch_of (entry t (Issue b p codes) ∷ H)) (plan_of H) (plan_of H)
      (new_batch-keeps H t b p codes none) (keeps_all (plan_of H)) (Some i) (Some k) h

-- a code is issued if it has a place, and its batch and its plan exist
pub issued_is_placed : (H : History) → IsLegal H → (code : List ℕ)
    → Agrees (batch_of H) (plan_of H) (issued_of H code) (place_among (places_of H) code)
issued_is_placed [] legal code = tt
issued_is_placed (entry t (Load plans) ∷ H) legal code =
    agrees-later (batch_of H) (batch_of H) (plan_of H) (plan_of (entry t (Load plans) ∷ H))
    (keeps_all (batch_of H)) (λ id x e. or-some (plan_of H id) (find (λ p. bytes_eq p.id id) plans) x e)
    (issued_of H code) (place_among (places_of H) code) (issued_is_placed H legal.1 code)
issued_is_placed (entry t (Issue b p codes) ∷ H) legal code =
    let facts = issuable (plan_of H p) (batch_of H b) (any_held H codes) codes t legal.0.accepted in
    rw (find-append (λ (k : Place). bytes_eq k.code code) (places_of H) (places_from b 0 codes))
    (agrees-issued H t b p codes facts.plan_is facts.known facts.unknown code (issued_of H code)
    (place_among (places_of H) code) (issued_is_placed H legal.1 code))
issued_is_placed (_ ∷ H) legal code = issued_is_placed H legal.1 code

pub agrees-some : (b : List ℕ → Option Batch) (p : List ℕ → Option Plan) (o : Option IssuedVoucher)
    (q : Option Place) → Agrees b p o q → is_some o ≡ is_some q
agrees-some b p None None h = refl
agrees-some b p (Some i) (Some k) h = refl
agrees-some b p _ _ h = absurd h

-- a code that was not issued has no place
pub unplaced : (H : History) → IsLegal H → (code : List ℕ) → issued_of H code ≡ None
    → place_among (places_of H) code ≡ None
unplaced H legal code none =
    is_some-none (place_among (places_of H) code) (sym (agrees-some (batch_of H) (plan_of H)
    (issued_of H code) (place_among (places_of H) code) (issued_is_placed H legal code)) ∙ ap is_some none)
