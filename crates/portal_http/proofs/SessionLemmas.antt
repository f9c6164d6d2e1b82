-- What one session leaves.
use Rattle.portal_http.proofs.Common.{◌≡◌, ◌⊎◌, inl, inr, ℕ, List, ◌∷◌, length, take, subst, Accepted, Ledger}
use Rattle.portal_http.proofs.Common.{SettingsValue, State, MayBeFound, Arrived, Leads, IsInDoubt}
use Rattle.portal_http.proofs.HeadlineLemmas.{Ends, works, halts, doubts}

module _ (settings : SettingsValue) where
  -- the ledger after one session
  abbrev pub Leaves : Ledger → List Arrived → List (List ℕ) → Ledger → Type 0
  Leaves L arrivals responses next =
      (last : Ledger) × Leads settings L (take (length responses) arrivals) responses last
      × ((next ≡ last) ⊎ ((own : Accepted)
      × IsInDoubt settings L (take (length responses) arrivals) responses own × (next ≡ own ∷ last)))

  pub crash_state_is_allowed : (L : Ledger) (arrivals : List Arrived) (responses : List (List ℕ))
      (new : State) (found : Ledger)
      → Ends settings L (take (length responses) arrivals) responses new → MayBeFound new found
      → Leaves L arrivals responses found
  crash_state_is_allowed L arrivals responses new found (works last leads is) may =
      (last, leads, inl (subst (λ (s : State). MayBeFound s found) is may))
  crash_state_is_allowed L arrivals responses new found (halts last leads is) may =
      (last, leads, inl (subst (λ (s : State). MayBeFound s found) is may))
  crash_state_is_allowed L arrivals responses new found (doubts last leads own doubted is) may = (
    last,
    leads,
    elim (subst (λ (s : State). MayBeFound s found) is may) [
      | inl same ↦ inl same
      | inr one ↦ inr (own, doubted, one)
    ],
  )
