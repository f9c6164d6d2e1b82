-- Each row that another refers to is there, and no two vouchers have the same place in a batch.
use Rattle.portal_model_laws.proofs.Common.{◌≡◌, ℕ, ◌+◌, ◌<◌, Bool, true, false, cond, List, [], ◌∷◌, ◌++◌}
use Rattle.portal_model_laws.proofs.Common.{map, length, Option, Some, None, refl, arith, subst, ap, sym, ◌∙◌}
use Rattle.portal_model_laws.proofs.Common.{bytes_eq, nat_eq, ◌&&◌, find, is_some, option_map, option_or, All}
use Rattle.portal_model_laws.proofs.Common.{All-append, All-cons, All-head, All-map, All-nil, All-tail}
use Rattle.portal_model_laws.proofs.Common.{All-weaker, Batch, Issue, Load, Redeem, Place, Grant, GrantRow}
use Rattle.portal_model_laws.proofs.Common.{SessionRow, VoucherRow, CountRow, History, IsLegal, any_held}
use Rattle.portal_model_laws.proofs.Common.{entry, batch_of, batch_row, batch_among, batches_of, grant_rows}
use Rattle.portal_model_laws.proofs.Common.{grants_of, issued_of, members, oldest, openings, places_from}
use Rattle.portal_model_laws.proofs.Common.{places_of, plan_among, plan_of, plans_of, row_among, row_of_grant}
use Rattle.portal_model_laws.proofs.Common.{row_of_opening, row_of_place, count_of_place, session_among}
use Rattle.portal_model_laws.proofs.Common.{sessions_of, vouchers_of}
use Rattle.portal_model_laws.specs.References.{RowsReferToRows, PlacesAreUnique, same_place}
use Rattle.std.specs.List.{IsDistinct}
use Rattle.std.specs.Prelude.{IsSome}
use Rattle.std.proofs.lemmas.List.Elements.{All-from_recursion, recursion_from_All}
use Rattle.portal_model_laws.proofs.Accepted.{issuable}
use Rattle.portal_model_laws.proofs.Basics.{bytes_refl, bytes_same, cond-true, false_if, nat_eq-other}
use Rattle.portal_model_laws.proofs.Basics.{nat_eq-refl, or-some}
use Rattle.portal_model_laws.proofs.Issuing.{agrees-some, issue_found, issued_is_placed, new_batch-keeps}
use Rattle.portal_model_laws.proofs.Issuing.{place_among}
use Rattle.portal_model_laws.proofs.Keys.{batch_is_row, batches-issued}
use Rattle.portal_model_laws.proofs.Opens.{adds}
use Rattle.portal_model_laws.proofs.Placed.{All-openings}
use Rattle.portal_model_laws.proofs.Plans.{plan-id, plan_is_row}
use Rattle.portal_model_laws.proofs.Sessions.{Knows, grants-plans, session_among-openings}
use Rattle.portal_model_laws.proofs.Vouchers.{row_among-places}

-- what is known of the id
abbrev Known : {A : Type 0} → (List ℕ → Option A) → List ℕ → Type 0
Known {A} f id = (x : A) × (f id ≡ Some x)

is_some-map : {A B : Type 0} (f : A → B) (o : Option A) → is_some (option_map f o) ≡ is_some o
is_some-map f None = refl
is_some-map f (Some x) = refl

-- Batches

plans-known : (H : History) → IsLegal H → All (λ (b : Batch). Known (plan_of H) b.plan) (batches_of H)
plans-known [] legal = All-nil (λ (b : Batch). Known (plan_of []) b.plan)
plans-known (entry t (Load plans) ∷ H) legal =
    All-weaker (λ (b : Batch). Known (plan_of H) b.plan)
    (λ (b : Batch). Known (plan_of (entry t (Load plans) ∷ H)) b.plan)
    (λ b known. let later = find (λ p. bytes_eq p.id b.plan) plans in
    (known.0, or-some (plan_of H b.plan) later known.0 known.1))
    (batches_of H) (plans-known H legal.1)
plans-known (entry t (Issue b p codes) ∷ H) legal =
    let facts = issuable (plan_of H p) (batch_of H b) (any_held H codes) codes t legal.0.accepted in
    let Has : Batch → Type 0 = λ r. Known (plan_of H) r.plan in
    let new : Batch = batch_row t b (length codes) facts.plan_is in
    subst (All Has) (sym (batches-issued H t b p codes facts.plan_is facts.known))
    (All-append Has (batches_of H) (new ∷ []) (plans-known H legal.1)
    (All-cons Has new []
    (facts.plan_is, ap (plan_of H) (plan-id H p facts.plan_is facts.known) ∙ facts.known) (All-nil Has)))
plans-known (_ ∷ H) legal = plans-known H legal.1

-- Vouchers

abbrev InBatch : History → Place → Type 0
InBatch H k = Known (batch_of H) k.batch

of-batch : (b : List ℕ) (n : ℕ) (codes : List (List ℕ))
    → All (λ (k : Place). k.batch ≡ b) (places_from b n codes)
of-batch b n [] = All-nil (λ (k : Place). k.batch ≡ b)
of-batch b n (code ∷ codes) =
    All-cons (λ (k : Place). k.batch ≡ b) (record { code = code; batch = b; place = n })
    (places_from b (n + 1) codes) refl (of-batch b (n + 1) codes)

batches-known : (H : History) → IsLegal H → All (InBatch H) (places_of H)
batches-known [] legal = All-nil (InBatch [])
batches-known (entry t (Issue b p codes) ∷ H) legal =
    let facts = issuable (plan_of H p) (batch_of H b) (any_held H codes) codes t legal.0.accepted in
    let now : History = entry t (Issue b p codes) ∷ H in
    All-append (InBatch now) (places_of H) (places_from b 0 codes)
    (All-weaker (InBatch H) (InBatch now)
    (λ k known. (known.0, new_batch-keeps H t b p codes facts.unknown k.batch known.0 known.1)) (places_of H)
    (batches-known H legal.1))
    (All-weaker (λ (k : Place). k.batch ≡ b) (InBatch now) (λ k is. (
      batch_row t b (length codes) facts.plan_is,
      ap (batch_of now) is ∙ issue_found H t b p codes facts.plan_is facts.known facts.unknown,
    )) (places_from b 0 codes) (of-batch b 0 codes))
batches-known (_ ∷ H) legal = batches-known H legal.1

-- what is in a list is found there by its key
found-self : {A : Type 0} (key : A → List ℕ) (xs : List A)
    → All (λ x. IsSome (find (λ y. bytes_eq (key y) (key x)) xs)) xs
found-self key [] = All-nil (λ x. IsSome (find (λ y. bytes_eq (key y) (key x)) []))
found-self key (x ∷ xs) =
    All-cons (λ z. IsSome (find (λ y. bytes_eq (key y) (key z)) (x ∷ xs))) x xs
    (ap is_some (cond-true (bytes_eq (key x) (key x)) (Some x) (find (λ y. bytes_eq (key y) (key x)) xs)
    (bytes_refl (key x))))
    (All-weaker (λ z. IsSome (find (λ y. bytes_eq (key y) (key z)) xs))
    (λ z. IsSome (find (λ y. bytes_eq (key y) (key z)) (x ∷ xs)))
    (λ z some. later (bytes_eq (key x) (key z)) (find (λ y. bytes_eq (key y) (key z)) xs) some) xs
    (found-self key xs))
  where
    later : (b : Bool) (o : Option _) → IsSome o → IsSome (cond b (Some x) o)
    later true o some = refl
    later false o some = some

-- Redemptions

codes-known : (H : History) → IsLegal H → All (λ (g : Grant). Known (issued_of H) g.code) (grants_of H)
codes-known [] legal = All-nil (λ (g : Grant). Known (issued_of []) g.code)
codes-known (entry t (Issue b p codes) ∷ H) legal =
    All-weaker (λ (g : Grant). Known (issued_of H) g.code)
    (λ (g : Grant). Known (issued_of (entry t (Issue b p codes) ∷ H)) g.code)
    (λ g known. (known.0, or-some (issued_of H g.code) _ known.0 known.1)) (grants_of H)
    (codes-known H legal.1)
codes-known (entry t (Redeem d c) ∷ H) legal =
    let new = adds H t d c legal in
    let Has : Grant → Type 0 = λ g. Known (issued_of H) g.code in
    subst (All Has) (sym new.grants)
    (All-cons Has _ (grants_of H) (new.issued, new.found) (codes-known H legal.1))
codes-known (_ ∷ H) legal = codes-known H legal.1

oldest-some : (gs : List Grant) (g : Grant) → IsSome (oldest (g ∷ gs))
oldest-some gs g = go (oldest gs)
  where
    go : (o : Option Grant) → IsSome (option_or o (Some g))
    go None = refl
    go (Some x) = refl

-- the session of each redemption has a first one
sessions-opened : (gs : List Grant) → All (λ g. IsSome (oldest (members gs g.session))) gs
sessions-opened [] = All-nil (λ (g : Grant). IsSome (oldest (members [] g.session)))
sessions-opened (g ∷ gs) =
    All-cons (λ (x : Grant). IsSome (oldest (members (g ∷ gs) x.session))) g gs
    (ap (λ xs. is_some (oldest xs)) (cond-true (nat_eq g.session g.session) (g ∷ members gs g.session)
    (members gs g.session) (nat_eq-refl g.session)) ∙ oldest-some (members gs g.session) g)
    (All-weaker (λ (x : Grant). IsSome (oldest (members gs x.session)))
    (λ (x : Grant). IsSome (oldest (members (g ∷ gs) x.session)))
    (λ x some. later (members gs x.session) (nat_eq g.session x.session) some) gs (sessions-opened gs))
  where
    later : (xs : List Grant) (b : Bool) → IsSome (oldest xs) → IsSome (oldest (cond b (g ∷ xs) xs))
    later xs true some = oldest-some xs g
    later xs false some = some

-- what holds of the redemptions holds of their rows
All-grant_rows : (P : GrantRow → Type 0) (Q : Grant → Type 0)
    → ((n : ℕ) (g : Grant) → Q g → P (row_of_grant n g)) → (gs : List Grant) → All Q gs
    → All P (grant_rows gs)
All-grant_rows P Q leads [] all = All-nil P
All-grant_rows P Q leads (g ∷ gs) all =
    All-append P (grant_rows gs) (row_of_grant (length gs + 1) g ∷ [])
    (All-grant_rows P Q leads gs (All-tail Q g gs all))
    (All-cons P (row_of_grant (length gs + 1) g) [] (leads (length gs + 1) g (All-head Q g gs all))
    (All-nil P))

-- References

-- a code with a place is in the rows of the vouchers
placed-row : (H : History) (code : List ℕ) → IsSome (place_among (places_of H) code)
    → IsSome (row_among (vouchers_of H) code)
placed-row H code some = ap is_some (row_among-places H code)
    ∙ is_some-map (row_of_place H) (place_among (places_of H) code) ∙ some

issued-row : (H : History) → IsLegal H → (code : List ℕ) → Known (issued_of H) code
    → IsSome (row_among (vouchers_of H) code)
issued-row H legal code known = placed-row H code
    (sym (agrees-some (batch_of H) (plan_of H) (issued_of H code) (place_among (places_of H) code)
    (issued_is_placed H legal code)) ∙ ap is_some known.1)

pub rows_refer : RowsReferToRows
rows_refer H legal =
    let gs : List Grant = grants_of H in
    record {
      batch_plans = All-weaker (λ (b : Batch). Known (plan_of H) b.plan)
          (λ (b : Batch). IsSome (plan_among (plans_of H) b.plan))
          (λ b known. ap is_some (sym (plan_is_row H b.plan) ∙ known.1)) (batches_of H) (plans-known H legal);
      voucher_batches = All-map (λ (v : VoucherRow). IsSome (batch_among (batches_of H) v.batch))
          (row_of_place H) (places_of H) (All-weaker (InBatch H)
          (λ k. IsSome (batch_among (batches_of H) k.batch))
          (λ k known. ap is_some (sym (batch_is_row H legal k.batch) ∙ known.1)) (places_of H)
          (batches-known H legal));
      session_plans = All-map (λ (s : SessionRow). IsSome (plan_among (plans_of H) s.plan))
          (row_of_opening H) (openings gs) (All-weaker (Knows (plan_of H))
          (λ g. IsSome (plan_among (plans_of H) g.plan.id))
          (λ g knows. ap is_some (sym (plan_is_row H g.plan.id) ∙ knows)) (openings gs)
          (All-openings (Knows (plan_of H)) gs (grants-plans H legal)));
      grant_codes = All-grant_rows (λ (g : GrantRow). IsSome (row_among (vouchers_of H) g.code))
          (λ (g : Grant). Known (issued_of H) g.code) (λ n g known. issued-row H legal g.code known) gs
          (codes-known H legal);
      grant_sessions = All-grant_rows (λ (g : GrantRow). IsSome (session_among (sessions_of H) g.session))
          (λ (g : Grant). IsSome (oldest (members gs g.session)))
          (λ n g some. ap is_some (session_among-openings H legal g.session)
          ∙ is_some-map (row_of_opening H) (oldest (members gs g.session)) ∙ some) gs (sessions-opened gs);
      count_codes = All-map (λ (k : CountRow). IsSome (row_among (vouchers_of H) k.code)) (count_of_place H)
          (places_of H) (All-weaker (λ (k : Place). IsSome (place_among (places_of H) k.code))
          (λ k. IsSome (row_among (vouchers_of H) k.code)) (λ k some. placed-row H k.code some) (places_of H)
          (found-self (λ (k : Place). k.code) (places_of H)));
    }

-- Places

abbrev alike : Place → Place → Bool
alike k j = bytes_eq k.batch j.batch && nat_eq k.place j.place

pub distinct-append : {A : Type 0} (e : A → A → Bool) (xs ys : List A) → IsDistinct e xs → IsDistinct e ys
    → All (λ x. All (λ y. e x y ≡ false) ys) xs → IsDistinct e (xs ++ ys)
unfolding IsDistinct
distinct-append e [] ys dx dy cross = dy
distinct-append e (x ∷ xs) ys dx dy cross = (
  recursion_from_All (λ y. e x y ≡ false) (xs ++ ys) (All-append (λ y. e x y ≡ false) xs ys
      (All-from_recursion (λ y. e x y ≡ false) xs dx.0)
      (All-head (λ z. All (λ y. e z y ≡ false) ys) x xs cross)),
  distinct-append e xs ys dx.1 dy (All-tail (λ z. All (λ y. e z y ≡ false) ys) x xs cross),
)

distinct-map : {A B : Type 0} (e : B → B → Bool) (f : A → B) (xs : List A)
    → IsDistinct (λ x y. e (f x) (f y)) xs → IsDistinct e (map f xs)
unfolding IsDistinct
distinct-map e f [] d = tt
distinct-map e f (x ∷ xs) d = (
  recursion_from_All (λ y. e (f x) y ≡ false) (map f xs) (All-map (λ y. e (f x) y ≡ false) f xs
      (All-from_recursion (λ y. e (f x) (f y) ≡ false) xs d.0)),
  distinct-map e f xs d.1,
)

above : (b : List ℕ) (n m : ℕ) (codes : List (List ℕ)) → n < m
    → All (λ (k : Place). n < k.place) (places_from b m codes)
above b n m [] h = All-nil (λ (k : Place). n < k.place)
above b n m (code ∷ codes) h =
    All-cons (λ (k : Place). n < k.place) (record { code = code; batch = b; place = m })
    (places_from b (m + 1) codes) h (above b n (m + 1) codes (omega arith))

and-off : (p q : Bool) → q ≡ false → (p && q) ≡ false
and-off true q off = off
and-off false q off = refl

-- a batch has each place once
batch-apart : (b : List ℕ) (n : ℕ) (codes : List (List ℕ)) → IsDistinct alike (places_from b n codes)
unfolding IsDistinct
batch-apart b n [] = tt
batch-apart b n (code ∷ codes) = (
  recursion_from_All (λ k. alike (record { code = code; batch = b; place = n }) k ≡ false)
      (places_from b (n + 1) codes) (All-weaker (λ (k : Place). n < k.place)
      (λ k. alike (record { code = code; batch = b; place = n }) k ≡ false)
      (λ k low. and-off (bytes_eq b k.batch) (nat_eq n k.place)
      (nat_eq-other n k.place (λ (e : n ≡ k.place). omega arith))) (places_from b (n + 1) codes)
      (above b n (n + 1) codes (omega arith))),
  batch-apart b (n + 1) codes,
)

and-no : (p q : Bool) → p ≡ false → (p && q) ≡ false
and-no true q off = cc
and-no false q off = refl

-- no place of an earlier batch is one of a new batch
batches-apart : (H : History) (b : List ℕ) → batch_of H b ≡ None → (k j : Place) → InBatch H k → j.batch ≡ b
    → alike k j ≡ false
batches-apart H b none k j known is =
    and-no (bytes_eq k.batch j.batch) (nat_eq k.place j.place)
    (false_if (bytes_eq k.batch j.batch) (λ same.
    let at : batch_of H k.batch ≡ None = ap (batch_of H) (bytes_same k.batch j.batch same ∙ is) ∙ none in
    let found = known.1 in
    cc))

places-distinct : (H : History) → IsLegal H → IsDistinct alike (places_of H)
unfolding IsDistinct
places-distinct [] legal = tt
places-distinct (entry t (Issue b p codes) ∷ H) legal =
    let facts = issuable (plan_of H p) (batch_of H b) (any_held H codes) codes t legal.0.accepted in
    let new : List Place = places_from b 0 codes in
    distinct-append alike (places_of H) new (places-distinct H legal.1) (batch-apart b 0 codes)
    (All-weaker (InBatch H) (λ k. All (λ j. alike k j ≡ false) new)
    (λ k known. All-weaker (λ (j : Place). j.batch ≡ b) (λ j. alike k j ≡ false)
    (λ j is. batches-apart H b facts.unknown k j known is) new (of-batch b 0 codes)) (places_of H)
    (batches-known H legal.1))
places-distinct (_ ∷ H) legal = places-distinct H legal.1

pub places_apart : PlacesAreUnique
places_apart H legal = distinct-map same_place (row_of_place H) (places_of H) (places-distinct H legal)
