-- The redemptions of a session: each is of the device of the one that opened it, and none is before it.
use Rattle.portal_model_laws.proofs.Common.{◌≡◌, ℕ, ◌+◌, ◌<◌, ◌≤◌, inl, inr, Bool, true, false, cond, List}
use Rattle.portal_model_laws.proofs.Common.{[], ◌∷◌, Option, Some, None, refl, arith, subst, ap, sym, ◌∙◌}
use Rattle.portal_model_laws.proofs.Common.{bytes_eq, nat_eq, option_or, Redeem, entry, History, Grant}
use Rattle.portal_model_laws.proofs.Common.{grants_of, greatest_session, members, oldest, last_number}
use Rattle.portal_model_laws.proofs.Common.{last_moment, IsLegal}
use Rattle.std.proofs.lemmas.Bool.{cases_Bool}
use Rattle.portal_model_laws.proofs.Basics.{bytes_same, nat_eq-other, nat_eq-same, not_both, or-some}
use Rattle.portal_model_laws.proofs.Basics.{some-same}
use Rattle.portal_model_laws.proofs.Openings.{new-first}
use Rattle.portal_model_laws.proofs.Opens.{adds, last-kept, last-low, last-new, last-other}
use Rattle.portal_model_laws.proofs.Placed.{ArePlaced, are_placed}
use Rattle.portal_model_laws.proofs.Placing.{members-above}

-- ---- times

-- no redemption is later than t, and none is later than the one after it
abbrev pub AreTimed : ℕ → List Grant → Type 0
AreTimed t [] = Unit {0}
AreTimed t (g ∷ gs) = (g.at ≤ t) × AreTimed g.at gs

timed_later : (t u : ℕ) (gs : List Grant) → t ≤ u → AreTimed t gs → AreTimed u gs
timed_later t u [] le timed = tt
timed_later t u (g ∷ gs) le timed = (omega (arith, le, timed.0), timed.1)

pub are_timed : (H : History) → IsLegal H → AreTimed (last_moment H) (grants_of H)
are_timed [] legal = tt
are_timed (entry t (Redeem d c) ∷ H) legal =
    let new = adds H t d c legal in
    subst (AreTimed t) (sym new.grants)
    (omega arith, timed_later (last_moment H) t (grants_of H) legal.0.in_order (are_timed H legal.1))
are_timed (entry t command ∷ H) legal =
    timed_later (last_moment H) t (grants_of H) legal.0.in_order (are_timed H legal.1)

-- ---- one more redemption

-- the oldest of a session with one more redemption, by whether that is in it
oldest_in : (g : Grant) (gs : List Grant) (n : ℕ) (o : Option Grant) → nat_eq g.session n ≡ true
    → oldest (members (g ∷ gs) n) ≡ o → option_or (oldest (members gs n)) (Some g) ≡ o
oldest_in g gs n o same e =
    subst (λ (b : Bool). oldest (cond b (g ∷ members gs n) (members gs n)) ≡ o) same e

oldest_off : (g : Grant) (gs : List Grant) (n : ℕ) (o : Option Grant) → nat_eq g.session n ≡ false
    → oldest (members (g ∷ gs) n) ≡ o → oldest (members gs n) ≡ o
oldest_off g gs n o other e =
    subst (λ (b : Bool). oldest (cond b (g ∷ members gs n) (members gs n)) ≡ o) other e

-- the session has no redemption yet, and that is its first
only_one : (g first : Grant) (o : Option Grant) → o ≡ None → option_or o (Some g) ≡ Some first → g ≡ first
only_one g first o none e =
    some-same g first (subst (λ (x : Option Grant). option_or x (Some g) ≡ Some first) none e)

-- it has a first one, which stays so
first_stays : (g first second : Grant) (o : Option Grant) → o ≡ Some second
    → option_or o (Some g) ≡ Some first → o ≡ Some first
first_stays g first second o is e = is ∙ sym (or-some o (Some g) second is) ∙ e

-- the oldest of a session is no later than that
oldest_low : (t : ℕ) (gs : List Grant) → AreTimed t gs → (n : ℕ) (first : Grant)
    → oldest (members gs n) ≡ Some first → first.at ≤ t
oldest_low t [] timed n first e = absurd (cc)
oldest_low t (g ∷ gs) timed n first e = elim (cases_Bool (nat_eq g.session n)) [
  | inl same ↦ go (λ x is. oldest_low g.at gs timed.1 n x is) (oldest (members gs n)) refl
      (oldest_in g gs n (Some first) same e)
  | inr other ↦
      let low = oldest_low g.at gs timed.1 n first (oldest_off g gs n (Some first) other e) in
      omega (arith, low, timed.0)
]
  where
    go : ((x : Grant) → oldest (members gs n) ≡ Some x → x.at ≤ g.at) → (o : Option Grant)
        → oldest (members gs n) ≡ o → option_or o (Some g) ≡ Some first → first.at ≤ t
    go older None none e =
        let same : g.at ≡ first.at = ap (λ (x : Grant). x.at) (some-same g first e) in
        omega (arith, same, timed.0)
    go older (Some x) is e = let low = older first (is ∙ e) in omega (arith, low, timed.0)

-- ---- devices

-- the last session of a device is of that device
own_last : (gs : List Grant) → ArePlaced gs → (d : List ℕ) (first : Grant)
    → oldest (members gs (last_number gs d)) ≡ Some first → first.device ≡ d
own_last [] placed d first e = absurd (cc)
own_last (g ∷ gs) (inl new, placed) d first e = elim (cases_Bool (bytes_eq g.device d)) [
  | inl agree ↦
      let last : last_number (g ∷ gs) d ≡ g.session = last-new g gs d (omega (arith, new)) agree in
      let here : oldest (members (g ∷ gs) g.session) ≡ Some first =
      subst (λ (n : ℕ). oldest (members (g ∷ gs) n) ≡ Some first) last e in
      let is : oldest (members (g ∷ gs) g.session) ≡ Some g = new-first g gs (omega (arith, new)) in
      sym (ap (λ (x : Grant). x.device) (some-same g first (sym is ∙ here))) ∙ bytes_same g.device d agree
  | inr differ ↦
      let n = last_number gs d in
      let last : last_number (g ∷ gs) d ≡ n = last-other g gs d differ in
      let low = last-low gs d in
      let here : oldest (members (g ∷ gs) n) ≡ Some first =
      subst (λ (k : ℕ). oldest (members (g ∷ gs) k) ≡ Some first) last e in
      own_last gs placed d first (oldest_off g gs n (Some first)
      (nat_eq-other g.session n (λ same. omega (arith, new, low, same))) here)
]
own_last (g ∷ gs) (inr joins, placed) d first e =
    let n = last_number gs d in
    let here : oldest (members (g ∷ gs) n) ≡ Some first =
    subst (λ (k : ℕ). oldest (members (g ∷ gs) k) ≡ Some first) (last-kept g gs d joins.last) e in
    elim (cases_Bool (nat_eq g.session n)) [
      | inl same ↦
          let found : oldest (members gs n) ≡ Some joins.first =
          subst (λ (k : ℕ). oldest (members gs k) ≡ Some joins.first) (nat_eq-same g.session n same)
          joins.found in
          own_last gs placed d first (first_stays g first joins.first (oldest (members gs n)) found
          (oldest_in g gs n (Some first) same here))
      | inr other ↦ own_last gs placed d first (oldest_off g gs n (Some first) other here)
    ]

-- ---- the redemptions of a session

-- a redemption of the session that another one opened
abbrev pub IsOf : Grant → Grant → Type 0
IsOf first g = (g.device ≡ first.device) × (first.at ≤ g.at)

-- each of these that is in the session of that number
abbrev pub AreOf : ℕ → Grant → List Grant → Type 0
AreOf n first [] = Unit {0}
AreOf n first (g ∷ gs) = (nat_eq g.session n ≡ true → IsOf first g) × AreOf n first gs

none_of : (n : ℕ) (first : Grant) (gs : List Grant) → members gs n ≡ [] → AreOf n first gs
none_of n first [] none = tt
none_of n first (g ∷ gs) none = go (λ e. none_of n first gs e) (nat_eq g.session n) refl none
  where
    go : (members gs n ≡ [] → AreOf n first gs) → (b : Bool) → nat_eq g.session n ≡ b
        → cond b (g ∷ members gs n) (members gs n) ≡ []
        → (nat_eq g.session n ≡ true → IsOf first g) × AreOf n first gs
    go rest true same e = absurd (cc)
    go rest false other e = (λ on. absurd (not_both (nat_eq g.session n) on other), rest e)

are_of : (t : ℕ) (gs : List Grant) → ArePlaced gs → AreTimed t gs → (n : ℕ) (first : Grant)
    → oldest (members gs n) ≡ Some first → AreOf n first gs
are_of t [] placed timed n first e = tt
are_of t (g ∷ gs) (inl new, placed) timed n first e = elim (cases_Bool (nat_eq g.session n)) [
  | inl same ↦
      let number : g.session ≡ n = nat_eq-same g.session n same in
      let none : members gs n ≡ [] = members-above gs n (omega (arith, new, number)) in
      let is : g ≡ first =
      only_one g first (oldest (members gs n)) (ap oldest none) (oldest_in g gs n (Some first) same e) in
      let at : g.at ≡ first.at = ap (λ (x : Grant). x.at) is in
      (λ on. (ap (λ (x : Grant). x.device) is, omega (arith, at)), none_of n first gs none)
  | inr other ↦ (
    λ on. absurd (not_both (nat_eq g.session n) on other),
    are_of g.at gs placed timed.1 n first (oldest_off g gs n (Some first) other e),
  )
]
are_of t (g ∷ gs) (inr joins, placed) timed n first e = elim (cases_Bool (nat_eq g.session n)) [
  | inl same ↦
      let number : g.session ≡ n = nat_eq-same g.session n same in
      let found : oldest (members gs n) ≡ Some joins.first =
      subst (λ (k : ℕ). oldest (members gs k) ≡ Some joins.first) number joins.found in
      let before : oldest (members gs n) ≡ Some first =
      first_stays g first joins.first (oldest (members gs n)) found (oldest_in g gs n (Some first) same e) in
      let own : first.device ≡ g.device =
      own_last gs placed g.device first
      (subst (λ (k : ℕ). oldest (members gs k) ≡ Some first) (sym number ∙ joins.last) before) in (
        λ on. (sym own, oldest_low g.at gs timed.1 n first before),
        are_of g.at gs placed timed.1 n first before,
      )
  | inr other ↦ (
    λ on. absurd (not_both (nat_eq g.session n) on other),
    are_of g.at gs placed timed.1 n first (oldest_off g gs n (Some first) other e),
  )
]

pub members_are : (H : History) → IsLegal H → (n : ℕ) (first : Grant)
    → oldest (members (grants_of H) n) ≡ Some first → AreOf n first (grants_of H)
members_are H legal = are_of (last_moment H) (grants_of H) (are_placed H legal) (are_timed H legal)
