-- The prices of the batches so far, with one batch more, and the price of a sale.
use Rattle.portal_tables.proofs.Common.{◌≡◌, ℕ, ◌∙◌, List, [], ◌∷◌, ◌++◌, Bool, true, false, cond, Option}
use Rattle.portal_tables.proofs.Common.{Some, None, option_map, option_and_then, is_some, refl, sym, ap, inl}
use Rattle.portal_tables.proofs.Common.{inr, true≢false, bytes_eq, option_or, cases_Bool, bytes_eq-Decides}
use Rattle.portal_tables.proofs.Common.{Plan, Batch, plan_among, batch_among, ArePrices}
use Rattle.std.proofs.lemmas.List.Folds.{find-append}

abbrev is_of : List ℕ → Batch → Bool
is_of id b = bytes_eq b.id id

-- the price of a batch that was found
abbrev price_in : List Plan → Option Batch → Option ℕ
price_in plans found =
    option_and_then (λ batch. option_map (λ plan. plan.price) (plan_among plans batch.plan)) found

stays_found : {X : Type 0} (o q : Option X) → is_some o ≡ true → option_or o q ≡ o
stays_found None q is = absurd (true≢false (sym is))
stays_found (Some x) q is = refl

not_found : {X : Type 0} (o : Option X) → is_some o ≡ false → o ≡ None
not_found None is = refl
not_found (Some x) is = absurd (true≢false is)

or_none : {X : Type 0} (o : Option X) → option_or o None ≡ o
or_none None = refl
or_none (Some x) = refl

module _ (plans : List Plan) (before : List Batch) (b : Batch) where
  found_more : (id : List ℕ) → batch_among (before ++ b ∷ []) id
      ≡ option_or (batch_among before id) (cond (is_of id b) (Some b) None)
  found_more id = find-append (is_of id) before (b ∷ [])

  other_batch : (id : List ℕ) → bytes_eq b.id id ≡ false
      → batch_among (before ++ b ∷ []) id ≡ batch_among before id
  other_batch id off = found_more id ∙ ap (λ t. option_or (batch_among before id) (cond t (Some b) None)) off
      ∙ or_none (batch_among before id)

  -- a batch whose id is there already
  pub price_stays : (old : List ℕ → Option ℕ) → ArePrices plans before old → is_some (old b.id) ≡ true
      → ArePrices plans (before ++ b ∷ []) old
  price_stays old is there =
      let same : (id : List ℕ) → batch_among (before ++ b ∷ []) id ≡ batch_among before id =
      λ id. elim (cases_Bool (bytes_eq b.id id)) [
        | inl on ↦
            let id_is : b.id ≡ id = (bytes_eq-Decides b.id id).0 on in
            found_more id ∙ stays_found (batch_among before id) _
            (sym (is.priced id) ∙ ap (λ k. is_some (old k)) (sym id_is) ∙ there)
        | inr off ↦ other_batch id off
      ] in
      record {
        price = λ id. is.price id ∙ ap (price_in plans) (sym (same id));
        priced = λ id. is.priced id ∙ ap is_some (sym (same id));
      }

  -- a new one
  pub price_added : (plan : Plan) → plan_among plans b.plan ≡ Some plan → (old new : List ℕ → Option ℕ)
      → ArePrices plans before old → is_some (old b.id) ≡ false
      → ((id : List ℕ) → new id ≡ cond (bytes_eq b.id id) (Some plan.price) (old id))
      → ArePrices plans (before ++ b ∷ []) new
  price_added plan of old new is free now =
      let here : (id : List ℕ) → bytes_eq b.id id ≡ true → batch_among (before ++ b ∷ []) id ≡ Some b =
      λ id on.
      let id_is : b.id ≡ id = (bytes_eq-Decides b.id id).0 on in
      let none : batch_among before id ≡ None =
      not_found (batch_among before id) (sym (is.priced id) ∙ ap (λ k. is_some (old k)) (sym id_is) ∙ free) in
      found_more id ∙ ap (λ o. option_or o (cond (is_of id b) (Some b) None)) none
      ∙ ap (λ t. cond t (Some b) None) on in
      record {
        price = λ id. elim (cases_Bool (bytes_eq b.id id)) [
          | inl on ↦ now id ∙ ap (λ t. cond t (Some plan.price) (old id)) on
              ∙ sym (ap (option_map (λ (p : Plan). p.price)) of) ∙ ap (price_in plans) (sym (here id on))
          | inr off ↦ now id ∙ ap (λ t. cond t (Some plan.price) (old id)) off ∙ is.price id
              ∙ ap (price_in plans) (sym (other_batch id off))
        ];
        priced = λ id. elim (cases_Bool (bytes_eq b.id id)) [
          | inl on ↦ ap is_some (now id ∙ ap (λ t. cond t (Some plan.price) (old id)) on)
              ∙ ap is_some (sym (here id on))
          | inr off ↦ ap is_some (now id ∙ ap (λ t. cond t (Some plan.price) (old id)) off) ∙ is.priced id
              ∙ ap is_some (sym (other_batch id off))
        ];
      }
