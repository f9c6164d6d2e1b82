-- The redemptions of a voucher, from what the tables say.
use Rattle.portal_desk_store.proofs.Common.{◌≡◌, inl, inr, ℕ, Bool, true, false, List, Option, Some, None}
use Rattle.portal_desk_store.proofs.Common.{refl}
use Rattle.portal_desk_store.proofs.Common.{sym, ap, subst, ◌∙◌, option_map, Result, Ok, Err, Refusal, Ledger}
use Rattle.portal_desk_store.proofs.Common.{history_of, State, running, stopped, ReadsOf, History, grants_of}
use Rattle.portal_desk_store.proofs.Common.{issued_of}
use Rattle.std.specs.Prelude.{is_some}
use Rattle.portal_desk.specs.Calls.{FindsThat, RefusesUnknown, Returns}
use Rattle.portal_model.specs.History.{IssuedVoucher, effective_moment}
use Rattle.portal_model.specs.Redemptions.{first_redemptions, last_redemptions_of, redemptions_among}
use Rattle.portal_model.specs.declared.redemptions.Redemption.{Redemption}
use Rattle.portal_model.specs.declared.refusal.Refusal.TheVariants as refusal
use Rattle.portal_model_laws.proofs.Basics.{is_some-none}
use Rattle.portal_desk_store.proofs.HeadLemmas.{Stays}

-- the list of a voucher at the effective time `at`
abbrev pub listed_at : List ℕ → ℕ → History → Option (List Redemption × Bool)
listed_at code at H = option_map first_redemptions
    (option_map (λ v. redemptions_among H at code (grants_of H)) (issued_of H code))

-- a code that was never issued
pub unknown_told : (code : List ℕ) (at : ℕ) (is_held : Bool) → is_held ≡ false → (before after : State)
    → ReadsOf before (λ L. is_held ≡ is_some (issued_of (history_of L) code)) after
    → RefusesUnknown refusal.UnknownCode (listed_at code at) before refusal.UnknownCode after
unknown_told code at is_held off (running L) after (is, same) =
    inl (
      refl,
      (
        ap (λ (o : Option IssuedVoucher). option_map first_redemptions
            (option_map (λ v. redemptions_among (history_of L) at code (grants_of (history_of L))) o))
            (sym (is_some-none (issued_of (history_of L) code) (sym is ∙ off))),
        same,
      ),
    )
unknown_told code at is_held off (stopped L doubt) after never = absurd never

-- a code that was issued
pub listed_told : (H : History) (code : List ℕ) (at : ℕ) (is_held : Bool) (found : List Redemption × Bool)
    → is_held ≡ true → is_held ≡ is_some (issued_of H code)
    → found ≡ first_redemptions (redemptions_among H at code (grants_of H))
    → (listed : List Redemption × Bool) × (listed_at code at H ≡ Some listed) × (found ≡ listed)
listed_told H code at is_held found on is told = go (issued_of H code) (sym is ∙ on)
  where
    listed : List Redemption × Bool
    listed = first_redemptions (redemptions_among H at code (grants_of H))

    go : (o : Option IssuedVoucher) → is_some o ≡ true
        → (listed : List Redemption × Bool)
        × (option_map first_redemptions (option_map (λ v. redemptions_among H at code (grants_of H)) o)
        ≡ Some listed) × (found ≡ listed)
    go None some = absurd (cc)
    go (Some v) some = (listed, refl, told)

-- the same of a call that lists them, or fails
pub listed_found : {A : Type 0} (shown : A → List Redemption × Bool) (L : Ledger) (code : List ℕ) (at : ℕ)
    (is_held : Bool) (result : Result A Refusal) (x : State)
    → is_held ≡ true → is_held ≡ is_some (issued_of (history_of L) code)
    → Returns result (λ found H. shown found ≡ first_redemptions (redemptions_among H at code (grants_of H)))
    (running L) x
    → FindsThat refusal.UnknownCode (listed_at code at) (λ found listed _. shown found ≡ listed) result
    (running L) x
listed_found shown L code at is_held (Ok found) x on is step =
    (listed_told (history_of L) code at is_held (shown found) on is step.0, step.1)
listed_found shown L code at is_held (Err r) x on is step = inr step

-- ---- by the head row

-- the ledger is unchanged, or the tables have stopped with it
pub listed_stays : {A X : Type 0} (given : History → Option X) (Is : A → X → History → Type 0)
    (result : Result A Refusal) (L : Ledger) (x : State)
    → FindsThat refusal.UnknownCode given Is result (running L) x → Stays L x
listed_stays given Is (Ok found) L x it = inl it.1
listed_stays given Is (Err r) L x (inl unknown) = inl unknown.1.1
listed_stays given Is (Err r) L x (inr (inl memory)) = inl memory.1
listed_stays given Is (Err r) L x (inr (inr over)) = inr over.1

-- at the effective time of a request
pub at_effective : {A : Type 0} (Is : A → List Redemption × Bool → History → Type 0) (code : List ℕ)
    (moment at : ℕ) (result : Result A Refusal) (L : Ledger) (x : State)
    → at ≡ effective_moment (history_of L) moment
    → FindsThat refusal.UnknownCode (listed_at code at) Is result (running L) x
    → FindsThat refusal.UnknownCode (λ H. last_redemptions_of H code moment) Is result (running L) x
at_effective Is code moment at (Ok found) L x same it =
    let told = it.0 in (
      (told.0, subst (λ (t : ℕ). listed_at code t (history_of L) ≡ Some told.0) same told.1, told.2),
      it.1,
    )
at_effective Is code moment at (Err r) L x same (inl unknown) =
    inl (unknown.0, (subst (λ (t : ℕ). None ≡ listed_at code t (history_of L)) same unknown.1.0, unknown.1.1))
at_effective Is code moment at (Err r) L x same (inr fails) = inr fails
