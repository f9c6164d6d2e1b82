-- Ids are id texts, codes are codes and devices are devices, in every row.
use Rattle.portal_model_laws.proofs.Common.{◌≡◌, ℕ, ◌+◌, List, [], ◌∷◌, length, Option, Some, None, refl}
use Rattle.portal_model_laws.proofs.Common.{subst, sym, ◌∙◌, bytes_eq, option_map, is_none, All}
use Rattle.portal_model_laws.proofs.Common.{option_to_list, All-nil, All-cons, All-append, All-head, All-tail}
use Rattle.portal_model_laws.proofs.Common.{All-weaker, All-map, All-filter, IsCode, Load, Issue, Redeem}
use Rattle.portal_model_laws.proofs.Common.{Plan, Batch, IsIdText, IsDevice, entry, History, Place}
use Rattle.portal_model_laws.proofs.Common.{places_from, Grant, plan_of, batch_row, grants_of, VoucherRow}
use Rattle.portal_model_laws.proofs.Common.{CountRow, SessionRow, GrantRow, plans_of, batches_of, places_of}
use Rattle.portal_model_laws.proofs.Common.{row_of_place, count_of_place, openings, row_of_opening}
use Rattle.portal_model_laws.proofs.Common.{row_of_grant, grant_rows, IsLegal}
use Rattle.portal_model_laws.specs.Laws.{RowsAreTyped}
use Rattle.portal_model_laws.proofs.Basics.{All-found}
use Rattle.portal_model_laws.proofs.Plans.{plan_is_row}
use Rattle.portal_model_laws.proofs.Opens.{adds}
use Rattle.portal_model_laws.proofs.Placed.{All-openings}
use Rattle.portal_model_laws.proofs.Sessions.{issued-plan}

abbrev HasIdText : Plan → Type 0
HasIdText p = IsIdText p.id

typed-plans : (H : History) → IsLegal H → All HasIdText (plans_of H)
typed-plans [] legal = All-nil HasIdText
typed-plans (entry t (Load plans) ∷ H) legal =
    All-append HasIdText (plans_of H) _ (typed-plans H legal.1)
    (All-filter (λ p. is_none (plan_of H p.id)) HasIdText plans legal.0.typed)
typed-plans (_ ∷ H) legal = typed-plans H legal.1

-- a plan that is found has an id text
typed-plan : (H : History) → IsLegal H → (id : List ℕ) (p : Plan) → plan_of H id ≡ Some p → IsIdText p.id
typed-plan H legal id p e = All-found HasIdText (λ (q : Plan). bytes_eq q.id id) (plans_of H) p
    (typed-plans H legal) (sym (plan_is_row H id) ∙ e)

pub record HasIds (b : Batch) : Type 0 where
  pub id : IsIdText b.id
  pub plan : IsIdText b.plan

typed-batch : (H : History) → IsLegal H → (t size : ℕ) (b p : List ℕ) → IsIdText b → (o : Option Plan)
    → plan_of H p ≡ o → All HasIds (option_to_list (option_map (batch_row t b size) o))
typed-batch H legal t size b p is None e = All-nil HasIds
typed-batch H legal t size b p is (Some plan) e = All-cons HasIds (batch_row t b size plan) []
    (record { id = is; plan = typed-plan H legal p plan e }) (All-nil HasIds)

typed-batches : (H : History) → IsLegal H → All HasIds (batches_of H)
typed-batches [] legal = All-nil HasIds
typed-batches (entry t (Issue b p codes) ∷ H) legal =
    All-append HasIds (batches_of H) _ (typed-batches H legal.1)
    (typed-batch H legal.1 t (length codes) b p legal.0.typed.0 (plan_of H p) refl)
typed-batches (_ ∷ H) legal = typed-batches H legal.1

pub record HasTexts (k : Place) : Type 0 where
  pub code : IsCode k.code
  pub batch : IsIdText k.batch

typed-placed : (b : List ℕ) → IsIdText b → (n : ℕ) (codes : List (List ℕ)) → All IsCode codes
    → All HasTexts (places_from b n codes)
typed-placed b is n [] all = All-nil HasTexts
typed-placed b is n (code ∷ codes) all =
    All-cons HasTexts (record { code = code; batch = b; place = n })
    (places_from b (n + 1) codes) (record { code = All-head IsCode code codes all; batch = is })
    (typed-placed b is (n + 1) codes (All-tail IsCode code codes all))

typed-places : (H : History) → IsLegal H → All HasTexts (places_of H)
typed-places [] legal = All-nil HasTexts
typed-places (entry t (Issue b p codes) ∷ H) legal =
    All-append HasTexts (places_of H) (places_from b 0 codes) (typed-places H legal.1)
    (typed-placed b legal.0.typed.0 0 codes legal.0.typed.2)
typed-places (_ ∷ H) legal = typed-places H legal.1

pub record HasParts (g : Grant) : Type 0 where
  pub code : IsCode g.code
  pub device : IsDevice g.device
  pub plan : IsIdText g.plan.id

typed-grants : (H : History) → IsLegal H → All HasParts (grants_of H)
typed-grants [] legal = All-nil HasParts
typed-grants (entry t (Redeem d c) ∷ H) legal =
    let new = adds H t d c legal in
    let known = issued-plan H legal.1 c new.issued new.found in
    subst (All HasParts) (sym new.grants)
    (All-cons HasParts _ (grants_of H) (record {
      code = legal.0.typed.1;
      device = legal.0.typed.0;
      plan = typed-plan H legal.1 new.issued.plan.id new.issued.plan known;
    }) (typed-grants H legal.1))
typed-grants (_ ∷ H) legal = typed-grants H legal.1

typed-grant-rows : (gs : List Grant) → All HasParts gs → All (λ g. IsCode g.code) (grant_rows gs)
typed-grant-rows [] all = All-nil (λ (g : GrantRow). IsCode g.code)
typed-grant-rows (g ∷ gs) all =
    All-append (λ (x : GrantRow). IsCode x.code) (grant_rows gs) (row_of_grant (length gs + 1) g ∷ [])
    (typed-grant-rows gs (All-tail HasParts g gs all))
    (All-cons (λ (x : GrantRow). IsCode x.code) (row_of_grant (length gs + 1) g) []
    ((All-head HasParts g gs all).code) (All-nil (λ (x : GrantRow). IsCode x.code)))

pub rows_are_typed : RowsAreTyped
rows_are_typed H legal =
    let opened : All HasParts (openings (grants_of H)) =
    All-openings HasParts (grants_of H) (typed-grants H legal) in
    record {
      plans = typed-plans H legal;
      batches = All-weaker HasIds (λ b. IsIdText b.id) (λ b h. h.id) (batches_of H) (typed-batches H legal);
      batch_plans =
          All-weaker HasIds (λ b. IsIdText b.plan) (λ b h. h.plan) (batches_of H) (typed-batches H legal);
      vouchers = All-map (λ (v : VoucherRow). IsCode v.code) (row_of_place H) (places_of H)
          (All-weaker HasTexts (λ k. IsCode k.code) (λ k h. h.code) (places_of H) (typed-places H legal));
      voucher_batches = All-map (λ (v : VoucherRow). IsIdText v.batch) (row_of_place H) (places_of H)
          (All-weaker HasTexts (λ k. IsIdText k.batch) (λ k h. h.batch) (places_of H) (typed-places H legal));
      sessions = All-map (λ (s : SessionRow). IsDevice s.device) (row_of_opening H) (openings (grants_of H))
          (All-weaker HasParts (λ g. IsDevice g.device) (λ g h. h.device) (openings (grants_of H)) opened);
      session_plans =
          All-map (λ (s : SessionRow). IsIdText s.plan) (row_of_opening H) (openings (grants_of H))
          (All-weaker HasParts (λ g. IsIdText g.plan.id) (λ g h. h.plan) (openings (grants_of H)) opened);
      grants = typed-grant-rows (grants_of H) (typed-grants H legal);
      counts = All-map (λ (k : CountRow). IsCode k.code) (count_of_place H) (places_of H)
          (All-weaker HasTexts (λ k. IsCode k.code) (λ k h. h.code) (places_of H) (typed-places H legal));
    }
