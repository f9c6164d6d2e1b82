-- Each key is in one row of its table, and looking up a key finds its row.
use Rattle.portal_model_laws.proofs.Common.{◌≡◌, ℕ, ◌+◌, Bool, true, false, cond, List, [], ◌∷◌, ◌++◌, map}
use Rattle.portal_model_laws.proofs.Common.{filter, Option, Some, None, refl, subst, ap, sym, ◌∙◌, bytes_eq}
use Rattle.portal_model_laws.proofs.Common.{option_map, is_some, is_none, ◌||◌, find, length, list_any}
use Rattle.portal_model_laws.proofs.Common.{option_or, option_to_list, map-append, find-append}
use Rattle.portal_model_laws.proofs.Common.{list_any-append, Load, Issue, Plan, Batch, entry, History, Place}
use Rattle.portal_model_laws.proofs.Common.{places_from, issued_of, plan_of, batch_of, batch_row, IsLegal}
use Rattle.portal_model_laws.proofs.Common.{any_held, has_duplicate, plans_to_add, places_of, plans_of}
use Rattle.portal_model_laws.proofs.Common.{batches_of, batch_among}
use Rattle.portal_model_laws.specs.Laws.{BatchIsRow}
use Rattle.portal_model_laws.proofs.Accepted.{issuable}
use Rattle.portal_model_laws.proofs.Plans.{plan_is_row}
use Rattle.portal_model_laws.proofs.Issuing.{place_among, unplaced}
use Rattle.portal_model_laws.proofs.Basics.{cond-ap, cond-both, bytes_eq-swap, found-listed, bytes_same}
use Rattle.portal_model_laws.proofs.Basics.{is_none-true, is_some-none, or-false, or-right}

-- Unique keys

-- no key of the second list is in the first
abbrev AreNew : List (List ℕ) → List (List ℕ) → Type 0
AreNew xs ys = list_any (λ y. list_any (bytes_eq y) xs) ys ≡ false

any-swap : (x : List ℕ) (xs ys : List (List ℕ))
    → list_any (λ y. bytes_eq y x || list_any (bytes_eq y) xs) ys ≡ false
    → (list_any (bytes_eq x) ys ≡ false) × AreNew xs ys
any-swap x xs [] h = (refl, refl)
any-swap x xs (y ∷ ys) h =
    let first = or-false (bytes_eq y x || list_any (bytes_eq y) xs)
    (list_any (λ z. bytes_eq z x || list_any (bytes_eq z) xs) ys) h in
    let parts = or-false (bytes_eq y x) (list_any (bytes_eq y) xs) first.0 in
    let rest = any-swap x xs ys first.1 in
    let other : bytes_eq x y ≡ false = bytes_eq-swap x y ∙ parts.0 in
    (rw (other, rest.0), rw (parts.1, rest.1))

pub apart-append : (xs ys : List (List ℕ)) → has_duplicate xs ≡ false → has_duplicate ys ≡ false
    → AreNew xs ys → has_duplicate (xs ++ ys) ≡ false
apart-append [] ys hx hy new = hy
apart-append (x ∷ xs) ys hx hy new =
    let parts = or-false (list_any (bytes_eq x) xs) (has_duplicate xs) hx in
    let split = any-swap x xs ys new in
    rw (list_any-append (bytes_eq x) xs ys, parts.0, split.0) (apart-append xs ys parts.1 hy split.1)

-- Codes

abbrev pub codes_in : List Place → List (List ℕ)
codes_in places = map (λ k. k.code) places

-- a key that is not found is not among the keys
unfound : {A : Type 0} (key : A → List ℕ) (id : List ℕ) (xs : List A)
    → find (λ x. bytes_eq (key x) id) xs ≡ None → list_any (bytes_eq id) (map key xs) ≡ false
unfound key id xs e = sym (found-listed key id xs) ∙ ap is_some e

placeless : (code : List ℕ) (places : List Place) → place_among places code ≡ None
    → list_any (bytes_eq code) (codes_in places) ≡ false
placeless code places none = unfound (λ (k : Place). k.code) code places none

pub codes-placed : (b : List ℕ) (n : ℕ) (codes : List (List ℕ)) → codes_in (places_from b n codes) ≡ codes
codes-placed b n [] = refl
codes-placed b n (code ∷ codes) = ap (λ cs. code ∷ cs) (codes-placed b (n + 1) codes)

-- a code in the rows was issued
abbrev HeldIfPlaced : History → Type 0
HeldIfPlaced H =
    (code : List ℕ) → issued_of H code ≡ None → list_any (bytes_eq code) (codes_in (places_of H)) ≡ false

held_if_placed : (H : History) → IsLegal H → HeldIfPlaced H
held_if_placed H legal = λ code none. placeless code (places_of H) (unplaced H legal code none)

new_codes : (H : History) → IsLegal H → (codes : List (List ℕ)) → any_held H codes ≡ false
    → AreNew (codes_in (places_of H)) codes
new_codes H legal [] h = refl
new_codes H legal (code ∷ codes) h =
    let free = or-false (is_some (issued_of H code)) (any_held H codes) h in
    rw (held_if_placed H legal code (is_some-none (issued_of H code) free.0)) (new_codes H legal codes free.1)

pub codes_apart : (H : History) → IsLegal H → has_duplicate (codes_in (places_of H)) ≡ false
codes_apart [] legal = refl
codes_apart (entry t (Issue b p codes) ∷ H) legal =
    let facts = issuable (plan_of H p) (batch_of H b) (any_held H codes) codes t legal.0.accepted in
    rw (map-append (λ (k : Place). k.code) (places_of H) (places_from b 0 codes), codes-placed b 0 codes)
    (apart-append (codes_in (places_of H)) codes (codes_apart H legal.1) facts.once
    (new_codes H legal.1 codes facts.free))
codes_apart (_ ∷ H) legal = codes_apart H legal.1

-- Plans are unique

abbrev ids_in : List Plan → List (List ℕ)
ids_in plans = map (λ p. p.id) plans

fewer : (x : List ℕ) (f : Plan → Bool) (plans : List Plan) → list_any (bytes_eq x) (ids_in plans) ≡ false
    → list_any (bytes_eq x) (ids_in (filter f plans)) ≡ false
fewer x f [] h = refl
fewer x f (p ∷ plans) h =
    let parts : (bytes_eq x p.id ≡ false) × (list_any (bytes_eq x) (ids_in plans) ≡ false) =
    or-false (bytes_eq x p.id) (list_any (bytes_eq x) (ids_in plans)) h in
    let kept : List Plan = filter f plans in
    let rest = fewer x f plans parts.1 in
    cond-ap (λ ps. list_any (bytes_eq x) (ids_in ps)) (f p) (p ∷ kept) kept
    ∙ cond-both (f p) (list_any (bytes_eq x) (ids_in (p ∷ kept))) (list_any (bytes_eq x) (ids_in kept))
    false (rw parts.0 rest) rest

apart-filter : (f : Plan → Bool) (plans : List Plan) → has_duplicate (ids_in plans) ≡ false
    → has_duplicate (ids_in (filter f plans)) ≡ false
apart-filter f [] h = refl
apart-filter f (p ∷ plans) h =
    let parts : (list_any (bytes_eq p.id) (ids_in plans) ≡ false) × (has_duplicate (ids_in plans) ≡ false) =
    or-false (list_any (bytes_eq p.id) (ids_in plans)) (has_duplicate (ids_in plans)) h in
    let kept : List Plan = filter f plans in
    let rest = apart-filter f plans parts.1 in
    cond-ap (λ ps. has_duplicate (ids_in ps)) (f p) (p ∷ kept) kept
    ∙ cond-both (f p) (has_duplicate (ids_in (p ∷ kept))) (has_duplicate (ids_in kept)) false
    (rw (fewer p.id f plans parts.0) rest) rest

new_plans : (H : History) (plans : List Plan)
    → AreNew (ids_in (plans_of H)) (ids_in (plans_to_add (plan_of H) plans))
new_plans H [] = refl
new_plans H (p ∷ plans) = go (new_plans H plans) (is_none (plan_of H p.id)) refl
  where
    go : AreNew (ids_in (plans_of H)) (ids_in (plans_to_add (plan_of H) plans))
        → (b : Bool) → is_none (plan_of H p.id) ≡ b → AreNew (ids_in (plans_of H))
        (ids_in (cond b (p ∷ plans_to_add (plan_of H) plans) (plans_to_add (plan_of H) plans)))
    go rest true new = rw (unfound (λ (q : Plan). q.id) p.id (plans_of H)
        (sym (plan_is_row H p.id) ∙ is_none-true (plan_of H p.id) new)) rest
    go rest false new = rest

pub plans_apart : (H : History) → IsLegal H → has_duplicate (ids_in (plans_of H)) ≡ false
plans_apart [] legal = refl
plans_apart (entry t (Load plans) ∷ H) legal =
    rw (map-append (λ (p : Plan). p.id) (plans_of H) (plans_to_add (plan_of H) plans))
    (apart-append (ids_in (plans_of H)) (ids_in (plans_to_add (plan_of H) plans)) (plans_apart H legal.1)
    (apart-filter (λ p. is_none (plan_of H p.id)) plans legal.0.well_formed.2) (new_plans H plans))
plans_apart (_ ∷ H) legal = plans_apart H legal.1

-- Batches

one-more : (batches : List Batch) (r : Batch) (id : List ℕ) (before : Option Batch)
    → before ≡ batch_among batches id → (bytes_eq r.id id ≡ true → before ≡ None)
    → cond (bytes_eq r.id id) (Some r) before ≡ batch_among (batches ++ r ∷ []) id
one-more batches r id before is new =
    go (bytes_eq r.id id) new ∙ sym (find-append (λ b. bytes_eq b.id id) batches (r ∷ []))
  where
    go : (b : Bool) → (b ≡ true → before ≡ None)
        → cond b (Some r) before ≡ option_or (batch_among batches id) (cond b (Some r) None)
    go true h = let none : batch_among batches id ≡ None = sym is ∙ h refl in rw none
    go false h = is ∙ sym (or-right (batch_among batches id))

pub batches-issued : (H : History) (t : ℕ) (b p : List ℕ) (codes : List (List ℕ)) (plan : Plan)
    → plan_of H p ≡ Some plan
    → batches_of (entry t (Issue b p codes) ∷ H) ≡ batches_of H ++ batch_row t b (length codes) plan ∷ []
batches-issued H t b p codes plan e =
    ap (λ o. batches_of H ++ option_to_list (option_map (batch_row t b (length codes)) o)) e

pub batch_is_row : BatchIsRow
batch_is_row [] legal id = refl
batch_is_row (entry t (Issue b p codes) ∷ H) legal id =
    let facts = issuable (plan_of H p) (batch_of H b) (any_held H codes) codes t legal.0.accepted in
    let plan : Plan = facts.plan_is in
    let new : bytes_eq b id ≡ true → batch_of H id ≡ None =
    λ same. subst (λ (x : List ℕ). batch_of H x ≡ None) (bytes_same b id same) facts.unknown in
    ap (λ o. cond (bytes_eq b id) (option_map (batch_row t b (length codes)) o) (batch_of H id)) facts.known
    ∙ one-more (batches_of H) (batch_row t b (length codes) plan) id (batch_of H id)
    (batch_is_row H legal.1 id) new
    ∙ ap (λ (bs : List Batch). batch_among bs id) (sym (batches-issued H t b p codes plan facts.known))
batch_is_row (_ ∷ H) legal id = batch_is_row H legal.1 id

abbrev batch_ids : List Batch → List (List ℕ)
batch_ids batches = map (λ b. b.id) batches

pub batches_apart : (H : History) → IsLegal H → has_duplicate (batch_ids (batches_of H)) ≡ false
batches_apart [] legal = refl
batches_apart (entry t (Issue b p codes) ∷ H) legal =
    let facts = issuable (plan_of H p) (batch_of H b) (any_held H codes) codes t legal.0.accepted in
    let r : Batch = batch_row t b (length codes) facts.plan_is in
    let new : list_any (bytes_eq b) (batch_ids (batches_of H)) ≡ false =
    unfound (λ (x : Batch). x.id) b (batches_of H) (sym (batch_is_row H legal.1 b) ∙ facts.unknown) in
    let apart : has_duplicate (batch_ids (batches_of H) ++ b ∷ []) ≡ false =
    apart-append (batch_ids (batches_of H)) (b ∷ []) (batches_apart H legal.1) refl (rw new) in
    ap (λ (bs : List Batch). has_duplicate (batch_ids bs))
    (batches-issued H t b p codes facts.plan_is facts.known)
    ∙ ap has_duplicate (map-append (λ (x : Batch). x.id) (batches_of H) (r ∷ []))
    ∙ apart
batches_apart (_ ∷ H) legal = batches_apart H legal.1
