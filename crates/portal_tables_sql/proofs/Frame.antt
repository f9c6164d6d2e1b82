-- Calls that leave a connection as it was.
use Rattle.portal_tables_sql.proofs.Common.{◌≡◌, inl, inr, false, Result, OnErr, Ok, Err, IsTrue, ℕ, List}
use Rattle.portal_tables_sql.proofs.Common.{refl, arith, cases_Bool, Trees, Error, Held, state, State}
use Rattle.portal_tables_sql.proofs.Common.{KeepsCommit, Survives, ExecutesInside}
use Rattle.sqlite.specs.Store.{Ghosts}
use Rattle.sqlite.specs.Order.{Row}
use Rattle.sqlite.proofs.InsideLemmas.{inside_keeps}

-- a statement inside a transaction commits nothing
pub kept_inside : {S : Type 0} (g : Ghosts S) (old new : Held S) (sql : List ℕ) (params : Row)
    (r : Result ℕ Error) (P : Type 0) → (old.in_transaction ≡ false → P × (new ≡ old))
    → (IsTrue old.in_transaction → ExecutesInside 0 sql params (state g old) (state g new) r)
    → KeepsCommit (state g old) (state g new)
kept_inside g old new sql params r P ended runs = elim (cases_Bool old.in_transaction) [
  | inl inside ↦ inside_keeps (state g old) (state g new) 0 false sql params r (runs inside)
  | inr outside ↦ rw (ended outside).1 (record { was_open = λ h. h; committed = λ h. refl })
]

pub keeps_none : (s : State) → KeepsCommit s s
keeps_none s = record { was_open = λ h. h; committed = λ h. refl }

pub survives_none : (s : State) (P : Trees → Type 0) → Survives s s P
survives_none s P = record {
  clean = omega arith;
  shield = λ h. h;
  counts = omega arith;
  limit = refl;
  closes = λ clean h. inl h;
  crash = λ clean db h. inl h;
}

pub on_err : {A E P : Type 0} (r : Result A E) → P → OnErr r P
on_err (Ok a) p = tt
on_err (Err e) p = p
