-- A report of a session without an allowance does not change the row of its total.
use Rattle.portal_tables.proofs.Common.{◌≡◌, ℕ, Bool, true, false, cond, List, [], ◌∷◌, map, All, Option}
use Rattle.portal_tables.proofs.Common.{Some, None, option_map, refl, ap, ap₂, sym, ◌∙◌, nat_eq, max}
use Rattle.portal_tables.proofs.Common.{Decides-eqb, All-head, All-tail, All-map, All-weaker, IsFirst}
use Rattle.portal_tables.proofs.Common.{openings_first, session_at, all_sessions, with_report, History, Grant}
use Rattle.portal_tables.proofs.Common.{grants_of, members, oldest, session_of, session_row, totals_of}
use Rattle.portal_tables.proofs.Common.{openings, session_opened, total_row, totalled_if, remaining_of}
use Rattle.portal_tables.proofs.Common.{Session}
use Rattle.portal_model_laws.proofs.Basics.{map-map}

some_is : {X : Type 0} {a b : X} → Some a ≡ Some b → a ≡ b
some_is e = cc

the_number : (H : History) (n : ℕ) (s : Session) → session_of H n ≡ Some s → s.number ≡ n
the_number H n s e = go (oldest (members (grants_of H) n)) e
  where
    go : (o : Option Grant) → option_map (session_row H n (members (grants_of H) n)) o ≡ Some s → s.number ≡ n
    go None e = absurd (cc)
    go (Some g) e = ap (λ (x : Session). x.number) (sym (some_is e))

-- the row of a session without an allowance is the same after a report
module _ (H : History) (n bytes : ℕ) (s : Session) (found : session_of H n ≡ Some s)
    (none : s.allowance ≡ None) where
  total_alike : (x : Session) → session_of H x.number ≡ Some x → (b : Bool) → nat_eq s.number x.number ≡ b
      → cond b (total_row (with_report bytes s)) (total_row x) ≡ total_row x
  total_alike x is true e =
      let number : s.number ≡ x.number = (Decides-eqb s.number x.number).0 e in
      let own : session_of H s.number ≡ Some s = ap (session_of H) (the_number H n s found) ∙ found in
      let same : s ≡ x = some_is (sym own ∙ ap (session_of H) number ∙ is) in
      let left : remaining_of (max bytes s.used) s.allowance ≡ remaining_of s.used s.allowance =
      rw none refl in
      (λ i. record { number = s.number; ends = s.ends; remaining = left i }) ∙ ap total_row same
  total_alike x is false e = refl

  totals_alike : (xs : List Session) → All (λ x. session_of H x.number ≡ Some x) xs
      → map (totalled_if (with_report bytes s)) (map total_row xs) ≡ map total_row xs
  totals_alike [] all = refl
  totals_alike (x ∷ xs) all = ap₂ ◌∷◌ (total_alike x
      (All-head (λ (x : Session). session_of H x.number ≡ Some x) x xs all) (nat_eq s.number x.number) refl)
      (totals_alike xs (All-tail (λ (x : Session). session_of H x.number ≡ Some x) x xs all))

-- each session is found by its number
numbered : (H : History) → All (λ (x : Session). session_of H x.number ≡ Some x) (all_sessions H)
numbered H =
    All-map (λ (x : Session). session_of H x.number ≡ Some x) (session_opened H) (openings (grants_of H))
    (All-weaker (IsFirst (grants_of H))
    (λ g. session_of H (session_opened H g).number ≡ Some (session_opened H g))
    (λ g first. session_at H g first) (openings (grants_of H)) (openings_first (grants_of H)))

pub left_alone : (H : History) (n bytes : ℕ) (s : Session) → session_of H n ≡ Some s → s.allowance ≡ None
    → map (totalled_if (with_report bytes s)) (totals_of H) ≡ totals_of H
left_alone H n bytes s found none =
    let rows : totals_of H ≡ map total_row (all_sessions H) =
    sym (map-map (session_opened H) total_row (openings (grants_of H))) in
    ap (map (totalled_if (with_report bytes s))) rows
    ∙ totals_alike H n bytes s found none (all_sessions H) (numbered H) ∙ sym rows
