-- From the rows of redemptions to the redemptions of a voucher.
use Rattle.portal_tables.proofs.Common.{◌≡◌, inl, inr, ℕ, ◌+◌, ◌-◌, ◌<◌, ◌≤◌, Bool, true, false, cond, ◌||◌}
use Rattle.portal_tables.proofs.Common.{List, [], ◌∷◌, length, take, Some}
use Rattle.portal_tables.proofs.Common.{option_map, filter_map, cons_option, refl, sym, ap, ap₂, subst, ◌∙◌}
use Rattle.portal_tables.proofs.Common.{arith, bytes_eq, nat_eq, nat_lt, nat_cmp, nat_tests, zero, suc, Has}
use Rattle.portal_tables.proofs.Common.{has_image, History, Grant, Session, IsLegal}
use Rattle.portal_tables.proofs.Common.{grants_of}
use Rattle.portal_tables.proofs.Common.{members, oldest, session_of, session_row, GrantRow, grant_kept}
use Rattle.portal_tables.proofs.Common.{is_lt, ◌≢◌, ◌⊎◌}
use Rattle.std.specs.Ordering.{is_gt}
use Rattle.sqlite_rules.proofs.ListLemmas.{has_either}
use Rattle.portal_model.specs.History.{last_moment}
use Rattle.portal_model.specs.Redemptions.{is_found_open, is_in_session, redemption_after}
use Rattle.portal_model.specs.Redemptions.{redemptions_among}
use Rattle.portal_model.specs.Rows.{grant_rows, row_of_grant}
use Rattle.portal_model_laws.proofs.Basics.{cond-true, nat_eq-other, nat_eq-refl}
use Rattle.portal_model_laws.proofs.Basics.{nat_eq-same, not_both, some-of-map, some-same}
use Rattle.portal_model_laws.proofs.Members.{AreOf, AreTimed, are_timed, members_are}
use Rattle.portal_model_laws.proofs.Openings.{IsFirst, still-first}
use Rattle.portal_tables.specs.RedemptionLists.{IsGrantOf, IsOpenedAt, grant_numbered}
use Rattle.portal_tables.specs.RedemptionLists.{grants_below, redemption_numbered}
use Rattle.portal_tables_rows.specs.Sums.{grant_read}
use Rattle.portal_tables_rows.specs.declared.grants.GrantValue.{GrantValue}

less_test : (a b : ℕ) → a < b → nat_lt a b ≡ true
less_test a b h = grind (arith, nat_tests)

not_less_test : (a b : ℕ) → b ≤ a → nat_lt a b ≡ false
not_less_test a b h = grind (arith, nat_tests)

pub less_cmp : (a b : ℕ) → true ≡ is_lt (nat_cmp a b) → a < b
less_cmp a b h = grind (arith, nat_tests)

pub more_cmp : (a b : ℕ) → true ≡ is_gt (nat_cmp a b) → b < a
more_cmp a b h = grind (arith, nat_tests)

-- ---- the oldest of the redemptions

-- the second list is what is left of the first one without some of its newest
abbrev pub Ends : List Grant → List Grant → Type 0
Ends [] tail = tail ≡ []
Ends (g ∷ gs) tail = (tail ≡ g ∷ gs) ⊎ Ends gs tail

pub ends_itself : (gs : List Grant) → Ends gs gs
ends_itself [] = refl
ends_itself (g ∷ gs) = inl refl

pub ends_rest : (gs : List Grant) (g : Grant) (tail : List Grant) → Ends gs (g ∷ tail) → Ends gs tail
ends_rest [] g tail e = absurd (cc)
ends_rest (x ∷ gs) g tail (inl same) =
    let rest : tail ≡ gs = cc in inr (subst (Ends gs) (sym rest) (ends_itself gs))
ends_rest (x ∷ gs) g tail (inr e) = inr (ends_rest gs g tail e)

ends_length : (gs tail : List Grant) → Ends gs tail → length tail ≤ length gs
ends_length [] tail e =
    let same : length tail ≡ 0 = ap (λ (l : List Grant). length l) e in omega (arith, same)
ends_length (x ∷ gs) tail (inl same) =
    let long : length tail ≡ length (x ∷ gs) = ap (λ (l : List Grant). length l) same in omega (arith, long)
ends_length (x ∷ gs) tail (inr e) = let low = ends_length gs tail e in omega (arith, low)

numbered : (gs : List Grant) (g : Grant) (before : List Grant) → Ends gs (g ∷ before)
    → grant_numbered gs (length before + 1) ≡ Some (g, before)
numbered [] g before e = absurd (cc)
numbered (x ∷ gs) g before (inl same) = go (nat_eq (length before + 1) (length gs + 1)) refl
  where
    head : g ≡ x
    head = cc

    rest : before ≡ gs
    rest = cc

    long : length before ≡ length gs
    long = ap (λ (l : List Grant). length l) rest

    go : (b : Bool) → nat_eq (length before + 1) (length gs + 1) ≡ b
        → cond b (Some (x, gs)) (grant_numbered gs (length before + 1)) ≡ Some (g, before)
    go true e = ap₂ (λ (a : Grant) (l : List Grant). Some (a, l)) (sym head) (sym rest)
    go false e = absurd (not_both (nat_eq (length before + 1) (length gs + 1))
        (ap (λ (n : ℕ). nat_eq (n + 1) (length gs + 1)) long ∙ nat_eq-refl (length gs + 1)) e)
numbered (x ∷ gs) g before (inr e) =
    go (λ ends. numbered gs g before ends) (nat_eq (length before + 1) (length gs + 1)) refl
  where
    low : length (g ∷ before) ≤ length gs
    low = ends_length gs (g ∷ before) e

    go : (Ends gs (g ∷ before) → grant_numbered gs (length before + 1) ≡ Some (g, before)) → (b : Bool)
        → nat_eq (length before + 1) (length gs + 1) ≡ b
        → cond b (Some (x, gs)) (grant_numbered gs (length before + 1)) ≡ Some (g, before)
    go rest true same =
        let long = nat_eq-same (length before + 1) (length gs + 1) same in absurd (omega (arith, low, long))
    go rest false other = rest e

below_is : (gs tail : List Grant) → Ends gs tail → grants_below gs (length tail + 1) ≡ tail
below_is [] tail e = sym e
below_is (x ∷ gs) tail (inl same) = go (nat_lt (length gs + 1) (length tail + 1)) refl
  where
    long : length tail ≡ length (x ∷ gs)
    long = ap (λ (l : List Grant). length l) same

    go : (b : Bool) → nat_lt (length gs + 1) (length tail + 1) ≡ b
        → cond b (x ∷ gs) (grants_below gs (length tail + 1)) ≡ tail
    go true e = sym same
    go false e = absurd (not_both (nat_lt (length gs + 1) (length tail + 1))
        (less_test (length gs + 1) (length tail + 1) (omega (arith, long))) e)
below_is (x ∷ gs) tail (inr ends) =
    go (λ e. below_is gs tail e) (nat_lt (length gs + 1) (length tail + 1)) refl
  where
    low : length tail ≤ length gs
    low = ends_length gs tail ends

    go : (Ends gs tail → grants_below gs (length tail + 1) ≡ tail) → (b : Bool)
        → nat_lt (length gs + 1) (length tail + 1) ≡ b
        → cond b (x ∷ gs) (grants_below gs (length tail + 1)) ≡ tail
    go rest true e = absurd (not_both (nat_lt (length gs + 1) (length tail + 1)) e
        (not_less_test (length gs + 1) (length tail + 1) (omega (arith, low))))
    go rest false e = rest ends

pub below_low : (gs : List Grant) (n : ℕ) → n ≤ 1 → grants_below gs n ≡ []
below_low [] n h = refl
below_low (g ∷ gs) n h = go (below_low gs n h) (nat_lt (length gs + 1) n) refl
  where
    go : grants_below gs n ≡ [] → (b : Bool) → nat_lt (length gs + 1) n ≡ b
        → cond b (g ∷ gs) (grants_below gs n) ≡ []
    go rest true e = absurd (not_both (nat_lt (length gs + 1) n) e
        (not_less_test (length gs + 1) n (omega (arith, h))))
    go rest false e = rest

-- ---- a row

-- the redemption of a row, with those before it
pub record IsRowAt (gs : List Grant) (row : GrantValue) : Type 0 where
  pub grant : Grant
  pub before : List Grant
  pub ends : Ends gs (grant ∷ before)
  pub is : grant_read row ≡ grant_kept (row_of_grant (length before + 1) grant)

plain_row : (gs : List Grant) (row : GrantRow) → Has (grant_rows gs) row
    → (g : Grant) × (before : List Grant) × Ends gs (g ∷ before) × (row ≡ row_of_grant (length before + 1) g)
plain_row [] row has = absurd has
plain_row (g ∷ gs) row has =
    elim (has_either (grant_rows gs) (row_of_grant (length gs + 1) g ∷ []) row has) [
      | inl older ↦ let it = plain_row gs row older in (it.0, it.1, inr it.2, it.3)
      | inr last ↦ elim last [ inl is ↦ (g, gs, inl refl, is) | inr none ↦ absurd none ]
    ]

pub row_at : (h : History) (row : GrantValue) → IsGrantOf h row → IsRowAt (grants_of h) row
row_at h row has =
    let kept = has_image grant_kept (grant_rows (grants_of h)) (grant_read row) has in
    let it = plain_row (grants_of h) kept.0 kept.1 in
    record { grant = it.0; before = it.1; ends = it.2; is = kept.2 ∙ ap grant_kept it.3 }

module _ (gs : List Grant) (row : GrantValue) (it : IsRowAt gs row) where
  number_is : row.number ≡ length it.before + 1
  number_is = ap (λ (r : GrantRow). r.number) it.is

  pub session_is : row.session ≡ it.grant.session
  session_is = ap (λ (r : GrantRow). r.session) it.is

  moment_is : row.moment ≡ it.grant.at
  moment_is = ap (λ (r : GrantRow). r.moment) it.is

  found_is : grant_numbered gs row.number ≡ Some (it.grant, it.before)
  found_is = ap (grant_numbered gs) number_is ∙ numbered gs it.grant it.before it.ends

  pub before_is : grants_below gs row.number ≡ it.before
  before_is = ap (grants_below gs) number_is ∙ below_is gs it.before (ends_rest gs it.grant it.before it.ends)

  more_is : grants_below gs (row.number + 1) ≡ it.grant ∷ it.before
  more_is =
      let up : row.number + 1 ≡ length (it.grant ∷ it.before) + 1 = omega (arith, number_is) in
      ap (grants_below gs) up ∙ below_is gs (it.grant ∷ it.before) it.ends

-- ---- the session of a redemption

of_at : (n : ℕ) (first : Grant) (gs : List Grant) (g : Grant) (before : List Grant) → Ends gs (g ∷ before)
    → AreOf n first gs → AreOf n first (g ∷ before)
of_at n first [] g before e all = absurd (cc)
of_at n first (x ∷ gs) g before (inl same) all = subst (AreOf n first) (sym same) all
of_at n first (x ∷ gs) g before (inr e) all = of_at n first gs g before e all.1

timed_at : (t : ℕ) (gs : List Grant) (g : Grant) (before : List Grant) → Ends gs (g ∷ before)
    → AreTimed t gs → AreTimed g.at before
timed_at t [] g before e timed = absurd (cc)
timed_at t (x ∷ gs) g before (inl same) timed = (subst (AreTimed t) (sym same) timed).1
timed_at t (x ∷ gs) g before (inr e) timed = timed_at x.at gs g before e timed.1

-- the redemption that opened the session
opened_by : (h : History) (n : ℕ) (s : Session) → session_of h n ≡ Some s
    → (first : Grant) × (oldest (members (grants_of h) n) ≡ Some first) × (s.device ≡ first.device)
    × (s.opened ≡ first.at)
opened_by h n s e =
    let found = some-of-map (session_row h n (members (grants_of h) n)) (oldest (members (grants_of h) n)) s
    e in (
      found.0,
      found.1,
      sym (ap (λ (r : Session). r.device) found.2),
      sym (ap (λ (r : Session). r.opened) found.2),
    )

-- no redemption before the first one is in the session
none_earlier : (n t : ℕ) (first : Grant) (gs : List Grant) → AreOf n first gs → AreTimed t gs → t < first.at
    → is_in_session n gs ≡ false
none_earlier n t first [] all timed early = refl
none_earlier n t first (g ∷ gs) all timed early =
    go (none_earlier n g.at first gs all.1 timed.1 (omega (arith, early, timed.0))) (nat_eq g.session n) refl
  where
    go : is_in_session n gs ≡ false → (b : Bool) → nat_eq g.session n ≡ b
        → (b || is_in_session n gs) ≡ false
    go rest true on = let is = all.0 on in absurd (omega (arith, early, timed.0, is.1))
    go rest false off = rest

none_members : (n : ℕ) (gs : List Grant) → is_in_session n gs ≡ false → members gs n ≡ []
none_members n [] none = refl
none_members n (g ∷ gs) none = go (λ e. none_members n gs e) (nat_eq g.session n) none
  where
    go : (is_in_session n gs ≡ false → members gs n ≡ []) → (b : Bool) → (b || is_in_session n gs) ≡ false
        → cond b (g ∷ members gs n) (members gs n) ≡ []
    go rest true e = absurd (cc)
    go rest false e = rest e

-- a redemption of a session without older ones is its first
first_at : (gs : List Grant) (g : Grant) (before : List Grant) → Ends gs (g ∷ before)
    → members before g.session ≡ [] → IsFirst gs g
first_at [] g before e none = absurd (cc)
first_at (x ∷ gs) g before (inl same) none =
    subst (λ (l : List Grant). IsFirst l g) same
    (ap oldest (cond-true (nat_eq g.session g.session) (g ∷ members before g.session)
    (members before g.session) (nat_eq-refl g.session)) ∙ ap (λ (ms : List Grant). oldest (g ∷ ms)) none)
first_at (x ∷ gs) g before (inr e) none = still-first x gs g (first_at gs g before e none)

module _ (h : History) (legal : IsLegal h) where
  abbrev all : List Grant
  all = grants_of h

  -- a redemption after the time at which its session was opened extended it
  pub later_extends : (row : GrantValue) (opened : ℕ) → IsGrantOf h row → IsOpenedAt h row.session opened
      → opened < row.moment → is_in_session row.session (grants_below all row.number) ≡ true
  later_extends row opened has (s, found, at) late =
      let it = row_at h row has in
      let by = opened_by h row.session s found in
      let g = it.grant in
      subst (λ (n : ℕ). is_in_session n (grants_below all row.number) ≡ true) (sym (session_is all row it))
      (ap (is_in_session g.session) (before_is all row it)
      ∙ go (is_in_session g.session it.before) it refl by)
    where
      go : (b : Bool) → (it : IsRowAt all row) → is_in_session it.grant.session it.before ≡ b
          → (by : (first : Grant) × (oldest (members all row.session) ≡ Some first)
          × (s.device ≡ first.device) × (s.opened ≡ first.at))
          → is_in_session it.grant.session it.before ≡ true
      go true it on by = on
      go false it off by =
          let first = first_at all it.grant it.before it.ends (none_members it.grant.session it.before off) in
          let here : oldest (members all it.grant.session) ≡ Some by.0 =
          subst (λ (n : ℕ). oldest (members all n) ≡ Some by.0) (session_is all row it) by.1 in
          let same : it.grant.at ≡ by.0.at =
          ap (λ (x : Grant). x.at) (some-same it.grant by.0 (sym first ∙ here)) in
          let moment = moment_is all row it in
          let opens : s.opened ≡ by.0.at = by.3 in
          absurd (omega (arith, late, at, same, moment, opens))

  -- one redemption before that number
  pub one_older : (older : GrantValue) (session : ℕ) → IsGrantOf h older
      → is_in_session session (grants_below all (older.number + 1))
      ≡ (nat_eq older.session session || is_in_session session (grants_below all older.number))
  one_older older session has =
      let it = row_at h older has in
      ap (is_in_session session) (more_is all older it)
      ∙ ap₂ (λ (n : ℕ) (l : List Grant). nat_eq n session || is_in_session session l)
      (sym (session_is all older it)) (sym (before_is all older it))

  -- a redemption before the time at which the session was opened
  pub none_older : (older : GrantValue) (session opened : ℕ) → IsGrantOf h older
      → IsOpenedAt h session opened → older.moment < opened
      → is_in_session session (grants_below all older.number) ≡ false
  none_older older session opened has (s, found, at) early =
      let it = row_at h older has in
      let by = opened_by h session s found in
      let moment = moment_is all older it in
      let opens : s.opened ≡ by.0.at = by.3 in
      let whole = of_at session by.0 all it.grant it.before it.ends (members_are h legal session by.0 by.1) in
      ap (is_in_session session) (before_is all older it)
      ∙ none_earlier session it.grant.at by.0 it.before whole.1
      (timed_at (last_moment h) all it.grant it.before it.ends (are_timed h legal))
      (omega (arith, early, at, opens, moment))

  -- the same, by the number of that redemption
  step_before : (older : GrantValue) (session next : ℕ) → 1 < next → IsGrantOf h older
      → older.number ≡ next - 1 → is_in_session session (grants_below all next)
      ≡ (nat_eq older.session session || is_in_session session (grants_below all (next - 1)))
  step_before older session next more has number =
      let up : next ≡ older.number + 1 = omega (arith, more, number) in
      ap (λ (n : ℕ). is_in_session session (grants_below all n)) up ∙ one_older older session has
      ∙ ap (λ (n : ℕ). nat_eq older.session session || is_in_session session (grants_below all n)) number

  -- it is in the session
  pub found_before : (older : GrantValue) (session next : ℕ) → 1 < next → IsGrantOf h older
      → older.number ≡ next - 1 → older.session ≡ session
      → is_in_session session (grants_below all next) ≡ true
  found_before older session next more has number same =
      step_before older session next more has number
      ∙ ap (λ (b : Bool). b || is_in_session session (grants_below all (next - 1)))
      (ap (λ (n : ℕ). nat_eq n session) same ∙ nat_eq-refl session)

  -- it is not
  pub none_before : (older : GrantValue) (session next : ℕ) → 1 < next → IsGrantOf h older
      → older.number ≡ next - 1 → older.session ≢ session
      → is_in_session session (grants_below all next) ≡ is_in_session session (grants_below all (next - 1))
  none_before older session next more has number other =
      step_before older session next more has number
      ∙ ap (λ (b : Bool). b || is_in_session session (grants_below all (next - 1)))
      (nat_eq-other older.session session other)

  -- a redemption with the device of its session
  pub row_shown : (row : GrantValue) (s : Session) (t : ℕ) (extended is_open : Bool) → IsGrantOf h row
      → session_of h row.session ≡ Some s
      → extended ≡ is_in_session row.session (grants_below all row.number)
      → is_open ≡ is_found_open t (session_of h row.session)
      → Some (record {
        at = row.moment;
        device = s.device;
        extended = extended;
        is_open = is_open;
        session = row.session;
      }) ≡ redemption_numbered h t row.number
  row_shown row s t extended is_open has found ext opn =
      let it = row_at h row has in
      let g = it.grant in
      let by = opened_by h row.session s found in
      let whole =
      of_at row.session by.0 all g it.before it.ends (members_are h legal row.session by.0 by.1) in
      let number : row.session ≡ g.session = session_is all row it in
      let own = whole.0 (subst (λ (n : ℕ). nat_eq g.session n ≡ true) (sym number) (nat_eq-refl g.session)) in
      let device : s.device ≡ g.device = by.2 ∙ sym own.0 in
      let moment : row.moment ≡ g.at = moment_is all row it in
      let extends : extended ≡ is_in_session g.session it.before =
      ext ∙ ap₂ is_in_session number (before_is all row it) in
      let open_is : is_open ≡ is_found_open t (session_of h g.session) =
      opn ∙ ap (λ (n : ℕ). is_found_open t (session_of h n)) number in
      let shown : record {
        at = row.moment;
        device = s.device;
        extended = extended;
        is_open = is_open;
        session = row.session;
      } ≡ redemption_after h t it.before g =
      λ i. record {
        at = moment i;
        device = device i;
        extended = extends i;
        is_open = open_is i;
        session = number i;
      } in
      ap Some shown ∙ sym (ap (option_map (λ (f : Grant × List Grant). redemption_after h t f.1 f.0))
      (found_is all row it))

-- ---- the numbers of the redemptions of a voucher

-- the numbers of those of a code, the newest first
abbrev pub numbers_of : List ℕ → List Grant → List ℕ
numbers_of code [] = []
numbers_of code (g ∷ gs) =
    let older = numbers_of code gs in cond (bytes_eq g.code code) ((length gs + 1) ∷ older) older

module _ (h : History) (t : ℕ) (code : List ℕ) where
  -- the first so many of them, as they are shown
  pub shown_first : (gs : List Grant) → Ends (grants_of h) gs → (n : ℕ)
      → filter_map (redemption_numbered h t) (take n (numbers_of code gs))
      ≡ take n (redemptions_among h t code gs)
  shown_first [] ends n = both_none n
    where
      both_none : (n : ℕ) → filter_map (redemption_numbered h t) (take n []) ≡ take n []
      both_none zero = refl
      both_none (suc n) = refl
  shown_first (g ∷ gs) ends n =
      go (bytes_eq g.code code) n (shown_first gs (ends_rest (grants_of h) g gs ends))
    where
      here : redemption_numbered h t (length gs + 1) ≡ Some (redemption_after h t gs g)
      here = ap (option_map (λ (f : Grant × List Grant). redemption_after h t f.1 f.0))
          (numbered (grants_of h) g gs ends)

      go : (b : Bool) (n : ℕ)
          → ((m : ℕ) → filter_map (redemption_numbered h t) (take m (numbers_of code gs))
          ≡ take m (redemptions_among h t code gs))
          → filter_map (redemption_numbered h t)
          (take n (cond b ((length gs + 1) ∷ numbers_of code gs) (numbers_of code gs)))
          ≡ take n (cond b (redemption_after h t gs g ∷ redemptions_among h t code gs)
          (redemptions_among h t code gs))
      go true zero rest = refl
      go true (suc m) rest = ap₂ cons_option here (rest m)
      go false n rest = rest n

  pub same_count : (gs : List Grant) → length (numbers_of code gs) ≡ length (redemptions_among h t code gs)
  same_count [] = refl
  same_count (g ∷ gs) = go (bytes_eq g.code code) (same_count gs)
    where
      go : (b : Bool) → length (numbers_of code gs) ≡ length (redemptions_among h t code gs)
          → length (cond b ((length gs + 1) ∷ numbers_of code gs) (numbers_of code gs))
          ≡ length (cond b (redemption_after h t gs g ∷ redemptions_among h t code gs)
          (redemptions_among h t code gs))
      go true rest = omega (arith, rest)
      go false rest = rest
