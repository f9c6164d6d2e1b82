-- The sessions of the rows, and the codes of a batch in its rows.
use Rattle.portal_model_laws.proofs.Common.{◌≡◌, ℕ, ◌+◌, Bool, true, false, cond, List, [], ◌∷◌, ◌++◌, map}
use Rattle.portal_model_laws.proofs.Common.{length, Option, Some, None, refl, subst, ap, sym, ◌∙◌, bytes_eq}
use Rattle.portal_model_laws.proofs.Common.{option_map, filter, All, filter_map, range_with_len, append-nil}
use Rattle.portal_model_laws.proofs.Common.{All-head, All-tail, All-weaker, filter-append, Issue, Plan, Batch}
use Rattle.portal_model_laws.proofs.Common.{entry, History, Place, places_from, plan_of, batch_of, batch_row}
use Rattle.portal_model_laws.proofs.Common.{codes_of, grants_of, VoucherRow, SessionRow, rows_of, places_of}
use Rattle.portal_model_laws.proofs.Common.{row_of_place, vouchers_of, openings, row_of_opening}
use Rattle.portal_model_laws.proofs.Common.{session_opened, session_from, IsLegal, any_held}
use Rattle.portal_model_laws.specs.Laws.{SessionsAreRows, CodesAreRows}
use Rattle.portal_model_laws.proofs.Keys.{codes-placed}
use Rattle.portal_model_laws.proofs.Basics.{cond-ap, bytes_same, filter-map, map-map, some-of-map}
use Rattle.portal_model_laws.proofs.Accepted.{issuable}
use Rattle.portal_model_laws.proofs.Openings.{IsFirst, openings_first, session_at}
use Rattle.portal_model_laws.proofs.Sessions.{session_is_row}

-- where each element gives a value, the values are the images
filter_map-some : {X Y Z : Type 0} (h : X → Y) (f : Y → Option Z) (k : X → Z) (xs : List X)
    → All (λ x. f (h x) ≡ Some (k x)) xs → filter_map f (map h xs) ≡ map k xs
filter_map-some h f k [] all = refl
filter_map-some h f k (x ∷ xs) all =
    let here : f (h x) ≡ Some (k x) = All-head (λ y. f (h y) ≡ Some (k y)) x xs all in
    let rest : filter_map f (map h xs) ≡ map k xs =
    filter_map-some h f k xs (All-tail (λ y. f (h y) ≡ Some (k y)) x xs all) in
    rw (here, rest)

pub sessions_are_rows : SessionsAreRows
sessions_are_rows H legal =
    sym (filter_map-some (row_of_opening H) (λ (row : SessionRow). session_from (rows_of H) row.number)
    (session_opened H) (openings (grants_of H))
    (All-weaker (IsFirst (grants_of H)) (λ g. session_from (rows_of H) g.session ≡ Some (session_opened H g))
    (λ g first. sym (session_is_row H legal g.session) ∙ session_at H g first) (openings (grants_of H))
    (openings_first (grants_of H))))

-- The codes of a batch

abbrev places_in : List ℕ → List Place → List Place
places_in id places = filter (λ k. bytes_eq k.batch id) places

filter-placed : (id b : List ℕ) (n : ℕ) (codes : List (List ℕ))
    → places_in id (places_from b n codes) ≡ cond (bytes_eq b id) (places_from b n codes) []
filter-placed id b n [] = cond-ap (λ (x : Bool). []) (bytes_eq b id) true true
filter-placed id b n (code ∷ codes) = go (bytes_eq b id) (filter-placed id b (n + 1) codes)
  where
    go : (same : Bool)
        → places_in id (places_from b (n + 1) codes) ≡ cond same (places_from b (n + 1) codes) []
        → cond same (record {
          code = code;
          batch = b;
          place = n;
        } ∷ places_in id (places_from b (n + 1) codes)) (places_in id (places_from b (n + 1) codes))
        ≡ cond same (places_from b n (code ∷ codes)) []
    go true rest = ap (λ ks. record { code = code; batch = b; place = n } ∷ ks) rest
    go false rest = rest

-- a batch that was not issued has no places
no_places : (H : History) → IsLegal H → (id : List ℕ) → batch_of H id ≡ None → places_in id (places_of H) ≡ []
no_places [] legal id none = refl
no_places (entry t (Issue b p codes) ∷ H) legal id none =
    let facts = issuable (plan_of H p) (batch_of H b) (any_held H codes) codes t legal.0.accepted in
    filter-append (λ (k : Place). bytes_eq k.batch id) (places_of H) (places_from b 0 codes)
    ∙ ap (λ xs. places_in id (places_of H) ++ xs) (filter-placed id b 0 codes)
    ∙ go facts.plan_is facts.known (no_places H legal.1 id) (bytes_eq b id) none
  where
    go : (plan : Plan) → plan_of H p ≡ Some plan
        → (batch_of H id ≡ None → places_in id (places_of H) ≡ []) → (same : Bool)
        → cond same (option_map (batch_row t b (length codes)) (plan_of H p)) (batch_of H id) ≡ None
        → places_in id (places_of H) ++ cond same (places_from b 0 codes) [] ≡ []
    go plan known rest true e = let some : option_map (batch_row t b (length codes)) (plan_of H p)
        ≡ Some (batch_row t b (length codes) plan) = ap (option_map (batch_row t b (length codes))) known in
        cc
    go plan known rest false e = append-nil (places_in id (places_of H)) ∙ rest e
no_places (_ ∷ H) legal id none = no_places H legal.1 id none

-- the places of a batch are its codes, from place 0 on
batch_places : (H : History) → IsLegal H → (id : List ℕ)
    → places_in id (places_of H) ≡ places_from id 0 (codes_of H id)
batch_places [] legal id = refl
batch_places (entry t (Issue b p codes) ∷ H) legal id =
    let facts = issuable (plan_of H p) (batch_of H b) (any_held H codes) codes t legal.0.accepted in
    filter-append (λ (k : Place). bytes_eq k.batch id) (places_of H) (places_from b 0 codes)
    ∙ ap (λ xs. places_in id (places_of H) ++ xs) (filter-placed id b 0 codes)
    ∙ go (no_places H legal.1 b facts.unknown) (batch_places H legal.1 id) (bytes_eq b id) refl
  where
    go : places_in b (places_of H) ≡ [] → places_in id (places_of H) ≡ places_from id 0 (codes_of H id)
        → (same : Bool) → bytes_eq b id ≡ same
        → places_in id (places_of H) ++ cond same (places_from b 0 codes) []
        ≡ places_from id 0 (cond same codes (codes_of H id))
    go none rest true is =
        let equal = bytes_same b id is in
        ap (λ xs. xs ++ places_from b 0 codes)
        (subst (λ (x : List ℕ). places_in x (places_of H) ≡ []) equal none)
        ∙ ap (λ (x : List ℕ). places_from x 0 codes) equal
    go none rest false is = append-nil (places_in id (places_of H)) ∙ rest
batch_places (_ ∷ H) legal id = batch_places H legal.1 id

placed-numbers : (b : List ℕ) (n : ℕ) (codes : List (List ℕ))
    → map (λ k. k.place) (places_from b n codes) ≡ range_with_len n (length codes)
placed-numbers b n [] = refl
placed-numbers b n (code ∷ codes) = ap (λ (xs : List ℕ). n ∷ xs) (placed-numbers b (n + 1) codes)

batch_size : (H : History) → IsLegal H → (id : List ℕ) (b : Batch) → batch_of H id ≡ Some b
    → b.size ≡ length (codes_of H id)
batch_size [] legal id b e = cc
batch_size (entry t (Issue x p codes) ∷ H) legal id b e = go (batch_size H legal.1 id b) (bytes_eq x id) e
  where
    go : (batch_of H id ≡ Some b → b.size ≡ length (codes_of H id)) → (same : Bool)
        → cond same (option_map (batch_row t x (length codes)) (plan_of H p)) (batch_of H id) ≡ Some b
        → b.size ≡ length (cond same codes (codes_of H id))
    go rest true is = let found = some-of-map (batch_row t x (length codes)) (plan_of H p) b is in
        sym (ap (λ (r : Batch). r.size) found.2)
    go rest false is = rest is
batch_size (_ ∷ H) legal id b e = batch_size H legal.1 id b e

batch_rows : (H : History) → IsLegal H → (id : List ℕ) → filter (λ v. bytes_eq v.batch id) (vouchers_of H)
    ≡ map (row_of_place H) (places_from id 0 (codes_of H id))
batch_rows H legal id = filter-map (row_of_place H) (λ (v : VoucherRow). bytes_eq v.batch id) (places_of H)
    ∙ ap (map (row_of_place H)) (batch_places H legal id)

pub codes_are_rows : CodesAreRows
codes_are_rows H legal id =
    let codes : List (List ℕ) = codes_of H id in
    record {
      codes = sym (ap (map (λ (v : VoucherRow). v.code)) (batch_rows H legal id) ∙ map-map (row_of_place H)
          (λ (v : VoucherRow). v.code) (places_from id 0 codes) ∙ codes-placed id 0 codes);
      places = ap (map (λ (v : VoucherRow). v.place)) (batch_rows H legal id) ∙ map-map (row_of_place H)
          (λ (v : VoucherRow). v.place) (places_from id 0 codes) ∙ placed-numbers id 0 codes;
      size = batch_size H legal id;
    }
