-- Requests and their responses settle what was acknowledged, and what is in doubt.
use Rattle.portal_http.proofs.Common.{◌≡◌, inl, inr, ℕ, List, [], ◌∷◌, Bool, true, false, Option, sym, ap}
use Rattle.portal_http.proofs.Common.{subst, ◌∙◌, Result, Ok, Command, Fingerprint, Accepted, Ledger}
use Rattle.portal_http.proofs.Common.{accepted_at, SettingsValue, Operation, Act, Rejection, Arrived}
use Rattle.portal_http.proofs.Common.{IsChecked, is_ok, with_command, Acknowledges, Leads, IsAccepted}
use Rattle.portal_http.proofs.Common.{IsInDoubt, AcknowledgedIsUnique}
use Rattle.std.specs.Bool.{MatchBool}
use Rattle.portal_http_request.specs.Laws.{ChecksAreExact}

-- with its command, where it was answered 200
abbrev Adds : SettingsValue → Ledger → Arrived → Ledger → Type 0
Adds settings L a after = (operation : Result Operation Rejection)
    × IsChecked settings a.seed a.bytes operation × (after ≡ with_command L operation a.moment)

module _ (checked_once : ChecksAreExact) where
  -- the ledger after one request
  acknowledged_once : (settings : SettingsValue) (L : Ledger) (a : Arrived) (r : List ℕ) (one other : Ledger)
      → Acknowledges settings L a r one → Acknowledges settings L a r other → one ≡ other
  acknowledged_once settings L a r one other = go (is_ok r)
    where
      go : (b : Bool) → MatchBool b (Adds settings L a one) (one ≡ L)
          → MatchBool b (Adds settings L a other) (other ≡ L) → one ≡ other
      go true (w, checked, is) (v, checked2, also) =
          is ∙ ap (λ (x : Result Operation Rejection). with_command L x a.moment)
          (checked_once settings a.seed a.bytes w v checked checked2) ∙ sym also
      go false is also = is ∙ sym also

  leads_once : (settings : SettingsValue) (L : Ledger) (arrivals : List Arrived)
      (responses : List (List ℕ)) (last other : Ledger)
      → Leads settings L arrivals responses last → Leads settings L arrivals responses other → last ≡ other
  leads_once settings L [] [] last other is also = is ∙ sym also
  leads_once settings L [] (r ∷ rs) last other is also = absurd is
  leads_once settings L (a ∷ rest) [] last other is also = absurd is
  leads_once settings L (a ∷ rest) (r ∷ rs) last other is also =
      let same = acknowledged_once settings L a r is.0 also.0 is.1 also.1 in
      leads_once settings is.0 rest rs last other is.3
      (subst (λ (K : Ledger). Leads settings K rest rs other) (sym same) also.3)

  -- the command and the fingerprint of a request
  abbrev command_in : Command → Option Fingerprint → Result Operation Rejection → Command
  command_in command mark (Ok (Act c m)) = c
  command_in command mark _ = command

  abbrev mark_in : Command → Option Fingerprint → Result Operation Rejection → Option Fingerprint
  mark_in command mark (Ok (Act c m)) = m
  mark_in command mark _ = mark

  accepted_once : (settings : SettingsValue) (L : Ledger) (a : Arrived) (own other : Accepted)
      → IsAccepted settings L a own → IsAccepted settings L a other → own ≡ other
  accepted_once settings L a own other (
    c,
    m,
    checked,
    is,
    free,
    passes,
  ) (d, n, checked2, also, free2, passes2) =
      let same = checked_once settings a.seed a.bytes (Ok (Act c m)) (Ok (Act d n)) checked checked2 in
      let command : c ≡ d = ap (command_in c m) same in
      let mark : m ≡ n = ap (mark_in c m) same in
      is ∙ ap (λ (x : Command). accepted_at L a.moment x m) command
      ∙ ap (λ (x : Option Fingerprint). accepted_at L a.moment d x) mark ∙ sym also

  doubt_once : (settings : SettingsValue) (L : Ledger) (arrivals : List Arrived)
      (responses : List (List ℕ)) (own other : Accepted)
      → IsInDoubt settings L arrivals responses own
      → IsInDoubt settings L arrivals responses other → own ≡ other
  doubt_once settings L [] rs own other is also = absurd is
  doubt_once settings L (a ∷ rest) [] own other is also = absurd is
  doubt_once settings L (a ∷ rest) (r ∷ rs) own other (inl is) (inl also) =
      accepted_once settings L a own other is.1 also.1
  doubt_once settings L (a ∷ rest) (r ∷ rs) own other (inl is) (inr also) = absurd (also.0 is.0)
  doubt_once settings L (a ∷ rest) (r ∷ rs) own other (inr is) (inl also) = absurd (is.0 also.0)
  doubt_once settings L (a ∷ rest) (r ∷ rs) own other (inr is) (inr also) =
      let same = acknowledged_once settings L a r is.1 also.1 is.2 also.2 in
      doubt_once settings is.1 rest rs own other is.3
      (subst (λ (K : Ledger). IsInDoubt settings K rest rs other) (sym same) also.3)

  pub acknowledged_is_unique : AcknowledgedIsUnique
  acknowledged_is_unique = record { leads = leads_once; in_doubt = doubt_once }
