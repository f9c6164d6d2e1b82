-- Each redemption opens a session with the next number, or is in the last session of its device.
use Rattle.portal_model_laws.proofs.Common.{◌≡◌, ℕ, ◌+◌, ◌<◌, ◌≤◌, ◌⊎◌, inl, inr, max, Bool, true, false}
use Rattle.portal_model_laws.proofs.Common.{cond, List, [], ◌∷◌, ◌++◌, map, length, Option, Some, None, refl}
use Rattle.portal_model_laws.proofs.Common.{arith, subst, ap, sym, ◌∙◌, bytes_eq, nat_eq, nat_lt, find, All}
use Rattle.portal_model_laws.proofs.Common.{option_or, range_with_len, nat_tests, map-append, append-nil}
use Rattle.portal_model_laws.proofs.Common.{All-nil, All-cons, All-append, All-head, All-tail, find-append}
use Rattle.portal_model_laws.proofs.Common.{Redeem, Session, entry, History, Grant, grants_of}
use Rattle.portal_model_laws.proofs.Common.{greatest_session, members, oldest, last_number, session_of}
use Rattle.portal_model_laws.proofs.Common.{session_row, last_session_of, kept_if, is_open_at, openings}
use Rattle.portal_model_laws.proofs.Common.{GrantRow, grant_rows, IsLegal}
use Rattle.portal_model_laws.proofs.Basics.{cond-false, or-right, some-of-map, nat_eq-same, nat_eq-other}
use Rattle.portal_model_laws.proofs.Placing.{kept-some, members-above, number-of}
use Rattle.std.proofs.Common.{map-id}
use Rattle.std.proofs.lemmas.List.FromFn.{map-range_with_len_more}
use Rattle.portal_model_laws.proofs.Opens.{Adds, adds, last-kept, last-new, last-other}

-- the grant is in the last session of its device, which has a first grant
pub record IsJoining (g : Grant) (gs : List Grant) : Type 0 where
  pub last : g.session ≡ last_number gs g.device
  pub first : Grant
  pub found : oldest (members gs g.session) ≡ Some first

abbrev pub ArePlaced : List Grant → Type 0
ArePlaced [] = Unit {0}
ArePlaced (g ∷ gs) = ((g.session ≡ greatest_session gs + 1) ⊎ IsJoining g gs) × ArePlaced gs

placed-grant : (H : History) (t : ℕ) (d c : List ℕ) (running : Option Session)
    → kept_if (is_open_at t) (last_session_of H d) ≡ running → Adds H t d c running
    → ArePlaced (grants_of H) → ArePlaced (grants_of (entry t (Redeem d c) ∷ H))
placed-grant H t d c None is new before = subst ArePlaced (sym new.grants) (inl refl, before)
placed-grant H t d c (Some s) is new before =
    let gs : List Grant = grants_of H in
    let last : session_of H (last_number gs d) ≡ Some s =
    kept-some (is_open_at t) (last_session_of H d) s is in
    let same : s.number ≡ last_number gs d = number-of H gs (last_number gs d) s last in
    let found = some-of-map (session_row H (last_number gs d) (members gs (last_number gs d)))
    (oldest (members gs (last_number gs d))) s last in
    subst ArePlaced (sym new.grants) (
      inr (record {
        last = same;
        first = found.0;
        found = ap (λ (n : ℕ). oldest (members gs n)) same ∙ found.1;
      }),
      before,
    )

pub are_placed : (H : History) → IsLegal H → ArePlaced (grants_of H)
are_placed [] legal = tt
are_placed (entry t (Redeem d c) ∷ H) legal = placed-grant H t d c
    (kept_if (is_open_at t) (last_session_of H d)) refl (adds H t d c legal) (are_placed H legal.1)
are_placed (_ ∷ H) legal = are_placed H legal.1

-- The opening grants

pub joining-low : (g : Grant) (gs : List Grant) → IsJoining g gs → g.session ≤ greatest_session gs
joining-low g gs joins =
    let not_above : greatest_session gs < g.session → ⊥ =
    λ h. let none = ap oldest (members-above gs g.session h) in
    let found = joins.found in
    cc in
    omega arith

opening-new : (g : Grant) (gs : List Grant) → g.session ≡ greatest_session gs + 1
    → openings (g ∷ gs) ≡ openings gs ++ g ∷ []
opening-new g gs new =
    let above : nat_lt (greatest_session gs) g.session ≡ true = grind (arith, nat_tests) in
    ap (λ (b : Bool). openings gs ++ cond b (g ∷ []) []) above

opening-same : (g : Grant) (gs : List Grant) → IsJoining g gs → openings (g ∷ gs) ≡ openings gs
opening-same g gs joins =
    let low = joining-low g gs joins in
    let not_above : nat_lt (greatest_session gs) g.session ≡ false = grind (arith, nat_tests) in
    ap (λ (b : Bool). openings gs ++ cond b (g ∷ []) []) not_above ∙ append-nil (openings gs)

-- what holds of every grant holds of those that opened a session
pub All-openings : (P : Grant → Type 0) (gs : List Grant) → All P gs → All P (openings gs)
All-openings P [] all = All-nil P
All-openings P (g ∷ gs) all =
    All-append P (openings gs) (cond (nat_lt (greatest_session gs) g.session) (g ∷ []) [])
    (All-openings P gs (All-tail P g gs all)) (go (nat_lt (greatest_session gs) g.session))
  where
    go : (b : Bool) → All P (cond b (g ∷ []) [])
    go true = All-cons P g [] (All-head P g gs all) (All-nil P)
    go false = All-nil P

-- the grant of a session among those that opened one is its first
pub find-openings : (gs : List Grant) → ArePlaced gs → (n : ℕ)
    → find (λ g. nat_eq g.session n) (openings gs) ≡ oldest (members gs n)
find-openings [] placed n = refl
find-openings (g ∷ gs) placed n = go (find-openings gs placed.1 n) placed.0
  where
    in_session : Grant → Bool
    in_session = λ x. nat_eq x.session n

    with_new : (b : Bool) → option_or (oldest (members gs n)) (cond b (Some g) None)
        ≡ oldest (cond b (g ∷ members gs n) (members gs n))
    with_new true = refl
    with_new false = or-right (oldest (members gs n))

    with_more : (b : Bool) → nat_eq g.session n ≡ b → IsJoining g gs
        → oldest (members gs n) ≡ oldest (cond b (g ∷ members gs n) (members gs n))
    with_more true same joins =
        let found : oldest (members gs n) ≡ Some joins.first =
        ap (λ (k : ℕ). oldest (members gs k)) (sym (nat_eq-same g.session n same)) ∙ joins.found in
        found ∙ ap (λ o. option_or o (Some g)) (sym found)
    with_more false same joins = refl

    go : find (λ x. nat_eq x.session n) (openings gs) ≡ oldest (members gs n)
        → (g.session ≡ greatest_session gs + 1) ⊎ IsJoining g gs
        → find (λ x. nat_eq x.session n) (openings (g ∷ gs)) ≡ oldest (members (g ∷ gs) n)
    go rest (inl new) =
        ap (find (λ x. nat_eq x.session n)) (opening-new g gs new)
        ∙ find-append (λ x. nat_eq x.session n) (openings gs) (g ∷ [])
        ∙ ap (λ o. option_or o (cond (nat_eq g.session n) (Some g) None)) rest
        ∙ with_new (nat_eq g.session n)
    go rest (inr joins) = ap (find (λ x. nat_eq x.session n)) (opening-same g gs joins) ∙ rest
        ∙ with_more (nat_eq g.session n) refl joins

-- no grant is in a session 0
pub no-zero : (gs : List Grant) → ArePlaced gs → members gs 0 ≡ []
no-zero [] placed = refl
no-zero (g ∷ gs) placed = go (no-zero gs placed.1) placed.0
  where
    go : members gs 0 ≡ [] → (g.session ≡ greatest_session gs + 1) ⊎ IsJoining g gs → members (g ∷ gs) 0 ≡ []
    go rest (inl new) = cond-false (nat_eq g.session 0) (g ∷ members gs 0) (members gs 0)
        (nat_eq-other g.session 0 (λ e. omega arith)) ∙ rest
    go rest (inr joins) =
        cond-false (nat_eq g.session 0) (g ∷ members gs 0) (members gs 0)
        (nat_eq-other g.session 0 (λ e. let none = ap oldest rest in let found =
        ap (λ (n : ℕ). oldest (members gs n)) (sym e) ∙ joins.found in cc)) ∙ rest

-- Numbers

range-more : (a n : ℕ) → range_with_len a (n + 1) ≡ range_with_len a n ++ (a + n) ∷ []
range-more a n =
    sym (map-id (range_with_len a (n + 1))) ∙ map-range_with_len_more (λ (k : ℕ). k) a n (a + n) refl
    ∙ ap (λ xs. xs ++ (a + n) ∷ []) (map-id (range_with_len a n))

pub openings-numbers : (gs : List Grant) → ArePlaced gs
    → map (λ g. g.session) (openings gs) ≡ range_with_len 1 (greatest_session gs)
openings-numbers [] placed = refl
openings-numbers (g ∷ gs) placed = go (openings-numbers gs placed.1) placed.0
  where
    go : map (λ x. x.session) (openings gs) ≡ range_with_len 1 (greatest_session gs)
        → (g.session ≡ greatest_session gs + 1) ⊎ IsJoining g gs
        → map (λ x. x.session) (openings (g ∷ gs)) ≡ range_with_len 1 (max g.session (greatest_session gs))
    go rest (inl new) =
        let next : max g.session (greatest_session gs) ≡ greatest_session gs + 1 = omega arith in
        let number : g.session ≡ 1 + greatest_session gs = omega arith in
        ap (map (λ (x : Grant). x.session)) (opening-new g gs new)
        ∙ map-append (λ (x : Grant). x.session) (openings gs) (g ∷ [])
        ∙ (λ i. rest i ++ number i ∷ [])
        ∙ sym (range-more 1 (greatest_session gs))
        ∙ ap (range_with_len 1) (sym next)
    go rest (inr joins) =
        let low = joining-low g gs joins in
        let same : greatest_session gs ≡ max g.session (greatest_session gs) = omega arith in
        ap (map (λ (x : Grant). x.session)) (opening-same g gs joins) ∙ rest ∙ ap (range_with_len 1) same

pub grants-numbers : (gs : List Grant) → map (λ g. g.number) (grant_rows gs) ≡ range_with_len 1 (length gs)
grants-numbers [] = refl
grants-numbers (g ∷ gs) =
    let longer : length (g ∷ gs) ≡ length gs + 1 = omega arith in
    let next : length gs + 1 ≡ 1 + length gs = omega arith in
    map-append (λ (x : GrantRow). x.number) (grant_rows gs) _
    ∙ (λ i. grants-numbers gs i ++ next i ∷ [])
    ∙ sym (range-more 1 (length gs))
    ∙ ap (range_with_len 1) (sym longer)

-- The last opening grant of a device

abbrev pub last_opening : List Grant → List ℕ → Option Grant
last_opening [] device = None
last_opening (g ∷ gs) device =
    option_or (last_opening gs device) (cond (bytes_eq g.device device) (Some g) None)

abbrev pub number_in : Option Grant → ℕ
number_in None = 0
number_in (Some g) = g.session

or_assoc : {A : Type 0} (a b c : Option A) → option_or a (option_or b c) ≡ option_or (option_or a b) c
or_assoc None b c = refl
or_assoc (Some x) b c = refl

last_opening-push : (xs : List Grant) (g : Grant) (d : List ℕ)
    → last_opening (xs ++ g ∷ []) d ≡ option_or (cond (bytes_eq g.device d) (Some g) None) (last_opening xs d)
last_opening-push [] g d = sym (or-right (cond (bytes_eq g.device d) (Some g) None))
last_opening-push (x ∷ xs) g d =
    ap (λ o. option_or o (cond (bytes_eq x.device d) (Some x) None)) (last_opening-push xs g d)
    ∙ sym (or_assoc (cond (bytes_eq g.device d) (Some g) None) (last_opening xs d)
    (cond (bytes_eq x.device d) (Some x) None))

-- the last session of a device is the one that was opened last
pub last_opening-number : (gs : List Grant) → ArePlaced gs → (d : List ℕ)
    → number_in (last_opening (openings gs) d) ≡ last_number gs d
last_opening-number [] placed d = refl
last_opening-number (g ∷ gs) placed d = go (last_opening-number gs placed.1 d) placed.0
  where
    fresh : g.session ≡ greatest_session gs + 1 → number_in (last_opening (openings gs) d) ≡ last_number gs d
        → (b : Bool) → bytes_eq g.device d ≡ b
        → number_in (option_or (cond b (Some g) None) (last_opening (openings gs) d)) ≡ last_number (g ∷ gs) d
    fresh new rest true same = sym (last-new g gs d (omega arith) same)
    fresh new rest false same = rest ∙ sym (last-other g gs d same)

    go : number_in (last_opening (openings gs) d) ≡ last_number gs d
        → (g.session ≡ greatest_session gs + 1) ⊎ IsJoining g gs
        → number_in (last_opening (openings (g ∷ gs)) d) ≡ last_number (g ∷ gs) d
    go rest (inl new) =
        ap (λ xs. number_in (last_opening xs d)) (opening-new g gs new)
        ∙ ap number_in (last_opening-push (openings gs) g d)
        ∙ fresh new rest (bytes_eq g.device d) refl
    go rest (inr joins) = ap (λ xs. number_in (last_opening xs d)) (opening-same g gs joins) ∙ rest
        ∙ sym (last-kept g gs d joins.last)
