-- A redemption that gave its session all of its seconds, or all of its bytes, opened it.
use Rattle.portal_tables.proofs.Common.{◌≡◌, inl, inr, ℕ, ◌+◌, ◌<◌, ◌≤◌, Bool, true, false, cond, ◌||◌, pos}
use Rattle.portal_tables.proofs.Common.{◌-ℤ◌, List, [], ◌∷◌, Option, Some, None, refl, sym, ap, subst, ◌∙◌}
use Rattle.portal_tables.proofs.Common.{arith, ints, nat_tests, nat_eq, option_or, sum_by, sum_by-cons}
use Rattle.portal_tables.proofs.Common.{History, Grant, grants_of, members, oldest, limit_or_none, GrantRow}
use Rattle.portal_tables.proofs.Common.{remaining_of, session_opened, SessionValue, IsRowOf}
use Rattle.portal_model.specs.History.{used_of}
use Rattle.portal_model.specs.Redemptions.{is_in_session}
use Rattle.portal_model_laws.proofs.Basics.{nat_eq-refl, or-some, some-same}
use Rattle.portal_tables.specs.RedemptionLists.{GivesAll, IsGrantOf, grants_below}
use Rattle.portal_tables.proofs.RedemptionLemmas.{Ends, IsRowAt, before_is, ends_rest, row_at, session_is}
use Rattle.portal_tables.proofs.SessionRows.{IsOpenedBy, ends_is, number_is, opened_by_one, opened_is}
use Rattle.portal_tables.proofs.SessionRows.{remaining_is, used_is}
use Rattle.portal_tables_rows.specs.declared.grants.GrantValue.{GrantValue}

-- ---- the oldest redemption of a session

-- it stays so with one more
oldest_more : (g : Grant) (gs : List Grant) (n : ℕ) (first : Grant) → oldest (members gs n) ≡ Some first
    → oldest (members (g ∷ gs) n) ≡ Some first
oldest_more g gs n first e = go (nat_eq g.session n)
  where
    go : (b : Bool) → oldest (cond b (g ∷ members gs n) (members gs n)) ≡ Some first
    go true = or-some (oldest (members gs n)) (Some g) first e
    go false = e

-- and with any newer ones
oldest_stays : (gs tail : List Grant) → Ends gs tail → (n : ℕ) (first : Grant)
    → oldest (members tail n) ≡ Some first → oldest (members gs n) ≡ Some first
oldest_stays [] tail e n first is = subst (λ (l : List Grant). oldest (members l n) ≡ Some first) e is
oldest_stays (g ∷ gs) tail (inl same) n first is =
    subst (λ (l : List Grant). oldest (members l n) ≡ Some first) same is
oldest_stays (g ∷ gs) tail (inr e) n first is =
    oldest_more g gs n first (oldest_stays gs tail e n first is)

-- a session with a redemption has an oldest one
has_oldest : (n : ℕ) (gs : List Grant) → is_in_session n gs ≡ true
    → (first : Grant) × (oldest (members gs n) ≡ Some first)
has_oldest n [] on = absurd (cc)
has_oldest n (g ∷ gs) on = go (has_oldest n gs) (nat_eq g.session n) on
  where
    last_or : (o : Option Grant) → (first : Grant) × (option_or o (Some g) ≡ Some first)
    last_or None = (g, refl)
    last_or (Some x) = (x, refl)

    go : (is_in_session n gs ≡ true → (first : Grant) × (oldest (members gs n) ≡ Some first)) → (b : Bool)
        → (b || is_in_session n gs) ≡ true
        → (first : Grant) × (oldest (cond b (g ∷ members gs n) (members gs n)) ≡ Some first)
    go rest true on = last_or (oldest (members gs n))
    go rest false on = rest on

-- ---- sums over the redemptions of a session

module _ (f : Grant → ℕ) where
  -- the oldest one's share
  oldest_share : (ms : List Grant) (first : Grant) → oldest ms ≡ Some first → f first ≤ sum_by f ms
  oldest_share [] first e = absurd (cc)
  oldest_share (g ∷ ms) first e = go (oldest_share ms) (oldest ms) refl e
    where
      go : ((x : Grant) → oldest ms ≡ Some x → f x ≤ sum_by f ms) → (o : Option Grant) → oldest ms ≡ o
          → option_or o (Some g) ≡ Some first → f first ≤ sum_by f (g ∷ ms)
      go rest None is e =
          let same : f g ≡ f first = ap f (some-same g first e) in omega (arith, sum_by-cons f g ms, same)
      go rest (Some x) is e = let low = rest first (is ∙ e) in omega (arith, sum_by-cons f g ms, low)

  -- that of one of them, with those before it
  share : (gs : List Grant) (n : ℕ) (g : Grant) (before : List Grant) → Ends gs (g ∷ before)
      → nat_eq g.session n ≡ true → f g + sum_by f (members before n) ≤ sum_by f (members gs n)
  share [] n g before e on = absurd (cc)
  share (x ∷ gs) n g before (inl same) on =
      subst (λ (l : List Grant). f g + sum_by f (members before n) ≤ sum_by f (members l n)) same
      (subst (λ (b : Bool). f g + sum_by f (members before n)
      ≤ sum_by f (cond b (g ∷ members before n) (members before n))) (sym on)
      (omega (arith, sum_by-cons f g (members before n))))
  share (x ∷ gs) n g before (inr e) on = go (share gs n g before e on) (nat_eq x.session n)
    where
      go : f g + sum_by f (members before n) ≤ sum_by f (members gs n) → (b : Bool)
          → f g + sum_by f (members before n) ≤ sum_by f (cond b (x ∷ members gs n) (members gs n))
      go rest true = omega (arith, sum_by-cons f x (members gs n), rest)
      go rest false = rest

  -- that of one with an older one: the oldest one's share is in it too
  both_shares : (gs : List Grant) (n : ℕ) (g first : Grant) (before : List Grant) → Ends gs (g ∷ before)
      → nat_eq g.session n ≡ true → oldest (members gs n) ≡ Some first → is_in_session n before ≡ true
      → f g + f first ≤ sum_by f (members gs n)
  both_shares gs n g first before e on is older =
      let (x, found) = has_oldest n before older in
      let same : f x ≡ f first =
      ap f (some-same x first (sym (oldest_stays gs before (ends_rest gs g before e) n x found) ∙ is)) in
      let low = oldest_share (members before n) x found in
      let all = share gs n g before e on in
      omega (arith, same, low, all)

-- ---- limits

-- a limit that there is
limited : (given total limit : ℕ) → limit_or_none given total ≡ Some limit → (0 < given) × (total ≡ limit)
limited given total limit e = go (nat_eq given 0) refl e
  where
    go : (b : Bool) → nat_eq given 0 ≡ b → cond b None (Some total) ≡ Some limit
        → (0 < given) × (total ≡ limit)
    go true is e = absurd (cc)
    go false is e = (grind (arith, nat_tests), some-same total limit e)

-- what remains tells the allowance
allowance_is : (used bytes : ℕ) (o : Option ℕ) → remaining_of used o ≡ Some (pos bytes -ℤ pos used)
    → o ≡ Some bytes
allowance_is used bytes None e = absurd (cc)
allowance_is used bytes (Some all) e =
    let same : pos all -ℤ pos used ≡ pos bytes -ℤ pos used =
    some-same (pos all -ℤ pos used) (pos bytes -ℤ pos used) e in
    let is : all ≡ bytes = omega (arith, ints, same) in
    ap Some is

-- ---- the rows

pub opens_alone : (h : History) (grant : GrantValue) (session : SessionValue) → IsGrantOf h grant
    → IsRowOf h session → session.number ≡ grant.session → GivesAll grant session
    → is_in_session grant.session (grants_below (grants_of h) grant.number) ≡ false
opens_alone h grant session has is number all =
    let (first, by) = opened_by_one h session is in
    let it = row_at h grant has in
    let n : grant.session ≡ first.session = sym number ∙ number_is h session first by in
    subst (λ (k : ℕ). is_in_session k (grants_below gs grant.number) ≡ false) (sym n)
    (ap (is_in_session first.session) (before_is gs grant it)
    ∙ go first by it (sym (session_is gs grant it) ∙ n) (is_in_session first.session it.before) refl)
  where
    gs : List Grant
    gs = grants_of h

    clash : (first : Grant) → IsOpenedBy h session first → (it : IsRowAt gs grant) → ((f : Grant → ℕ)
        → f it.grant + f first ≤ sum_by f (members gs first.session)) → ⊥
    clash first by it more = elim all [
      | inl ends ↦
          let both = more (λ g. g.plan.seconds) in
          let limit = limited first.plan.seconds _ _ (sym (ends_is h session first by) ∙ ends) in
          let own : grant.seconds ≡ it.grant.plan.seconds = ap (λ (r : GrantRow). r.seconds) it.is in
          let opened = opened_is h session first by in
          let low = limit.0 in
          let sum = limit.1 in
          omega (arith, both, low, sum, own, opened)
      | inr left ↦
          let both = more (λ g. g.plan.bytes) in
          let used : session.used ≡ used_of h first.session = used_is h session first by in
          let told : remaining_of session.used (session_opened h first).allowance
          ≡ Some (pos grant.bytes -ℤ pos session.used) =
          ap (λ (u : ℕ). remaining_of u (session_opened h first).allowance) used
          ∙ sym (remaining_is h session first by) ∙ left in
          let limit = limited first.plan.bytes _ _
          (allowance_is session.used grant.bytes (session_opened h first).allowance told) in
          let own : grant.bytes ≡ it.grant.plan.bytes = ap (λ (r : GrantRow). r.bytes) it.is in
          let low = limit.0 in
          let sum = limit.1 in
          omega (arith, both, low, sum, own)
    ]

    go : (first : Grant) → IsOpenedBy h session first → (it : IsRowAt gs grant)
        → it.grant.session ≡ first.session → (b : Bool) → is_in_session first.session it.before ≡ b
        → is_in_session first.session it.before ≡ false
    go first by it same true older =
        let on : nat_eq it.grant.session first.session ≡ true =
        ap (λ (k : ℕ). nat_eq k first.session) same ∙ nat_eq-refl first.session in
        absurd (clash first by it (λ f.
        both_shares f gs first.session it.grant first it.before it.ends on by.is_first older))
    go first by it same false older = older
