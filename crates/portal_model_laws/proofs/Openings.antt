-- The grants that opened the sessions, and the rows of portal_totals.
use Rattle.portal_model_laws.proofs.Common.{Option, None, ◌≡◌, ℕ, ◌<◌, max, Bool, true, false, cond, List, []}
use Rattle.portal_model_laws.proofs.Common.{◌∷◌, Some, refl, arith, ap, sym, ◌∙◌, nat_eq, nat_lt, option_map}
use Rattle.portal_model_laws.proofs.Common.{All, nat_tests, All-nil, All-cons, All-append, All-weaker, Report}
use Rattle.portal_model_laws.proofs.Common.{Session, entry, History, Grant, grants_of, greatest_session}
use Rattle.portal_model_laws.proofs.Common.{members, oldest, session_of, session_row, used_of, with_report}
use Rattle.portal_model_laws.proofs.Common.{openings, session_opened, total_row, total_of_opening}
use Rattle.portal_model_laws.proofs.Common.{totalled_if}
use Rattle.portal_model.specs.History.{session_in}
use Rattle.portal_model_laws.proofs.Basics.{cond-both, cond-ap, cond-same, nat_eq-same, nat_eq-refl, or-some}
use Rattle.portal_model_laws.proofs.Basics.{some-same, cond-true}
use Rattle.portal_model_laws.proofs.Placing.{members-above, number-of}

-- the grant is the first of its session
abbrev pub IsFirst : List Grant → Grant → Type 0
IsFirst gs g = oldest (members gs g.session) ≡ Some g

-- a first grant stays so with one more grant
pub still-first : (g : Grant) (gs : List Grant) (x : Grant) → IsFirst gs x → IsFirst (g ∷ gs) x
still-first g gs x first =
    let ms : List Grant = members gs x.session in
    cond-ap oldest (nat_eq g.session x.session) (g ∷ ms) ms ∙ cond-both (nat_eq g.session x.session)
    (oldest (g ∷ ms)) (oldest ms) (Some x) (or-some (oldest ms) (Some g) x first) first

-- the grant of a new session is its first
pub new-first : (g : Grant) (gs : List Grant) → greatest_session gs < g.session → IsFirst (g ∷ gs) g
new-first g gs above =
    ap oldest (cond-true (nat_eq g.session g.session) (g ∷ members gs g.session) (members gs g.session)
    (nat_eq-refl g.session))
    ∙ ap (λ ms. oldest (g ∷ ms)) (members-above gs g.session above)

above-test : (m n : ℕ) → nat_lt m n ≡ true → m < n
above-test m n e = grind (arith, nat_tests)

pub openings_first : (gs : List Grant) → All (IsFirst gs) (openings gs)
openings_first [] = All-nil (IsFirst [])
openings_first (g ∷ gs) =
    All-append (IsFirst (g ∷ gs)) (openings gs) (cond (nat_lt (greatest_session gs) g.session) (g ∷ []) [])
    (All-weaker (IsFirst gs) (IsFirst (g ∷ gs)) (still-first g gs) (openings gs) (openings_first gs))
    (go (nat_lt (greatest_session gs) g.session) refl)
  where
    go : (b : Bool) → nat_lt (greatest_session gs) g.session ≡ b → All (IsFirst (g ∷ gs)) (cond b (g ∷ []) [])
    go true above = All-cons (IsFirst (g ∷ gs)) g []
        (new-first g gs (above-test (greatest_session gs) g.session above)) (All-nil (IsFirst (g ∷ gs)))
    go false above = All-nil (IsFirst (g ∷ gs))

-- the session that a first grant opened
pub session_at : (H : History) (g : Grant) → IsFirst (grants_of H) g
    → session_of H g.session ≡ Some (session_opened H g)
session_at H g first = ap (option_map (session_row H g.session (members (grants_of H) g.session))) first

-- where one session is changed, so is its row of totals
pub total-changed : (H after : History) (s : Session) (g : Grant) → IsFirst (grants_of H) g
    → IsFirst (grants_of after) g
    → session_of after g.session ≡ cond (nat_eq s.number g.session) (Some s) (session_of H g.session)
    → total_of_opening after g ≡ totalled_if s (total_of_opening H g)
total-changed H after s g first first' e =
    let test = nat_eq s.number g.session in
    let same = sym (session_at after g first') ∙ e ∙ ap (λ o. cond test (Some s) o) (session_at H g first)
    ∙ sym (cond-ap Some test s (session_opened H g)) in
    ap total_row (some-same (session_opened after g) (cond test s (session_opened H g)) same)
    ∙ cond-ap total_row test s (session_opened H g)

-- a command that changes the rows of one session alone
pub session_changed : (H now : History) (m n : ℕ) (s : Session) (f : Session → Session)
    → session_of H m ≡ Some s
    → ((first : Grant) → session_row now n (members (grants_of H) n) first ≡ cond (nat_eq m n)
    (f (session_row H n (members (grants_of H) n) first)) (session_row H n (members (grants_of H) n) first))
    → session_in (grants_of H) now n ≡ cond (nat_eq s.number n) (Some (f s)) (session_of H n)
session_changed H now m n s f e each =
    go (oldest ms)
    ∙ cond-same (nat_eq m n) (option_map f (session_of H n)) (Some (f s)) (session_of H n)
    (λ same. ap (λ (k : ℕ). option_map f (session_of H k)) (sym (nat_eq-same m n same)) ∙ ap (option_map f) e)
    ∙ ap (λ (k : ℕ). cond (nat_eq k n) (Some (f s)) (session_of H n)) (sym (number-of H (grants_of H) m s e))
  where
    ms : List Grant
    ms = members (grants_of H) n

    go : (o : Option Grant) → option_map (session_row now n ms) o ≡ cond (nat_eq m n)
        (option_map f (option_map (session_row H n ms) o)) (option_map (session_row H n ms) o)
    go None = cond-ap (λ (b : Bool). None) (nat_eq m n) true true
    go (Some first) = ap Some (each first)
        ∙ cond-ap Some (nat_eq m n) (f (session_row H n ms first)) (session_row H n ms first)

-- a report changes its session
pub report_session : (H : History) (t m bytes : ℕ) (s : Session) → session_of H m ≡ Some s → (n : ℕ)
    → session_of (entry t (Report m bytes) ∷ H) n
    ≡ cond (nat_eq s.number n) (Some (with_report bytes s)) (session_of H n)
report_session H t m bytes s e n =
    session_changed H (entry t (Report m bytes) ∷ H) m n s (with_report bytes) e
    (λ first. cond-ap (λ u. record (session_row H n (members (grants_of H) n) first) { used = u })
    (nat_eq m n) (max bytes (used_of H n)) (used_of H n))
