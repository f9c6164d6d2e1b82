-- A voucher's redemptions are its rows of portal_grants.
use Rattle.portal_model_laws.proofs.Common.{◌≡◌, ℕ, ◌+◌, Bool, true, false, cond, List, [], ◌∷◌, Option}
use Rattle.portal_model_laws.proofs.Common.{length, refl, arith, ap, sym, ◌∙◌, bytes_eq, count_by}
use Rattle.portal_model_laws.proofs.Common.{sum_by_push, Redeem, Session, entry, History, Grant, uses_of}
use Rattle.portal_model_laws.proofs.Common.{grants_of, kept_if, is_open_at, last_session_of, GrantRow}
use Rattle.portal_model_laws.proofs.Common.{grant_rows, row_of_grant}
use Rattle.portal_model_laws.specs.Laws.{UsesAreRows}
use Rattle.portal_model_laws.proofs.Placing.{granted}
use Rattle.portal_model_laws.proofs.Opens.{Adds, adds}

abbrev rows_with_code : List ℕ → List Grant → ℕ
rows_with_code code gs = count_by (λ g. bytes_eq g.code code) (grant_rows gs)

one-more : (c code : List ℕ) (n : ℕ) → cond (bytes_eq c code) (n + 1) n ≡ n + cond (bytes_eq c code) 1 0
one-more c code n = go (bytes_eq c code)
  where
    go : (b : Bool) → cond b (n + 1) n ≡ n + cond b 1 0
    go true = omega arith
    go false = omega arith

counted : (H : History) (t : ℕ) (d c code : List ℕ) (running : Option Session) → Adds H t d c running
    → uses_of H code ≡ rows_with_code code (grants_of H)
    → uses_of (entry t (Redeem d c) ∷ H) code ≡ rows_with_code code (grants_of (entry t (Redeem d c) ∷ H))
counted H t d c code running new before =
    let n : ℕ = rows_with_code code (grants_of H) in
    ap (λ (k : ℕ). cond (bytes_eq c code) (k + 1) k) before
    ∙ one-more c code n
    ∙ sym (sum_by_push (λ (g : GrantRow). cond (bytes_eq g.code code) 1 0) (grant_rows (grants_of H))
    (row_of_grant (length (grants_of H) + 1) (granted (grants_of H) running d c new.issued t)))
    ∙ ap (rows_with_code code) (sym new.grants)

pub uses_are_rows : UsesAreRows
uses_are_rows [] legal code = refl
uses_are_rows (entry t (Redeem d c) ∷ H) legal code = counted H t d c code
    (kept_if (is_open_at t) (last_session_of H d)) (adds H t d c legal) (uses_are_rows H legal.1 code)
uses_are_rows (_ ∷ H) legal code = uses_are_rows H legal.1 code
