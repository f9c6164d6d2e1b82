-- Whether a desk has stopped, after a call of its tables.
use Rattle.portal_desk_store.proofs.Common.{◌≡◌, ◌⊎◌, inl, inr, Bool, true, sym, subst, ◌≢◌, Result, Ok, Err}
use Rattle.portal_desk_store.proofs.Common.{IfErr, Refusal, RefusalGivesStop, StoreFault, Memory}
use Rattle.portal_model.specs.declared.refusal.Refusal.TheVariants as refusal
use Rattle.portal_tables.specs.declared.errors.StoreFault.TheVariants.{Stopped}

memory_is_no_stop : refusal.NoMemory ≢ refusal.Stopped
memory_is_no_stop e = cc

-- out of memory
pub full : (r : Refusal) → r ≡ refusal.NoMemory → r ≢ refusal.Stopped
full r is = subst (λ (x : Refusal). x ≢ refusal.Stopped) (sym is) memory_is_no_stop

-- the same for an error of a call
pub lacks_memory : {T : Type 0} (result : Result T Refusal) → IfErr result (λ r. r ≡ refusal.NoMemory)
    → IfErr result (λ r. r ≢ refusal.Stopped)
lacks_memory (Ok x) memory = memory
lacks_memory (Err r) memory = full r memory

module _ (old new : Bool) where
  -- an error of the tables
  pub faulted : (fault : StoreFault) (r : Refusal)
      → ((fault ≡ Memory) × (new ≡ old)) ⊎ ((fault ≡ Stopped) × (new ≡ true))
      → (fault ≡ Memory → r ≡ refusal.NoMemory) → (fault ≡ Stopped → r ≡ refusal.Stopped)
      → RefusalGivesStop old new r
  faulted fault r (inl it) memory over = inr (full r (memory it.0), it.1)
  faulted fault r (inr it) memory over = inl (over it.0, it.1)
