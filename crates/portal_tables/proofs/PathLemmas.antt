-- Files to which nothing has happened since they were opened at a path.
use Rattle.portal_tables.proofs.Common.{◌≡◌, inl, inr, ℕ, Bool, List, [], ◌∷◌, cond, refl, ap, Image}
use Rattle.sqlite_disk.specs.Events.{Event, settled, replay}
use Rattle.sqlite_disk.specs.History.{MayLeave}

abbrev pub image : List ℕ → List ℕ → Image
image log db = record { log = log; db = db }

-- what a file held that is the log, or is not
pub start_of : (is_log which : Bool) (log db : List ℕ) → is_log ≡ which
    → cond is_log log db ≡ cond which log db
start_of is_log which log db same = ap (λ (b : Bool). cond b log db) same

module _ (mixes : Bool) (start held : List ℕ) (key : ℕ) (history : List Event) (same : start ≡ held)
    (alone : history ≡ settled key ∷ []) where
  pub reads_still : (replay start history).seen ≡ held
  reads_still = rw (same, alone) refl

  pub leaves_still : (left : List ℕ) → MayLeave mixes (replay start history).seen
      (replay start history).synced (replay start history).steps left → left ≡ held
  leaves_still left = rw (same, alone) (λ may. elim may [ inl read ↦ read | inr reached ↦ reached ])
