-- What is caused, what is foreign, and what comes of memory alone.
use Rattle.portal_tables_rows.proofs.Common.{inl, refl, sym, subst, Result, Ok, Err, IfErr, State, RowError}
use Rattle.portal_tables_rows.specs.declared.rows.RowError.TheVariants.{Sql, ForeignRow}
use Rattle.portal_tables_rows.specs.Foreign.{IsCaused, IsMemory, IsOfStore, NotForeign, OnlyMemory}

-- memory that ran out is a cause, and no foreign row
pub error_caused : (old new : State) (e : RowError) → IsMemory e → IsCaused old new e
error_caused old new e memory = subst (IsCaused old new) (sym memory) (inl refl)

pub error_of_store : (e : RowError) → IsMemory e → IsOfStore e
error_of_store e memory = subst IsOfStore (sym memory) tt

module _ (old new : State) {X : Type 0} where
  pub memory_caused : (r : Result X RowError) → OnlyMemory r → IfErr r (IsCaused old new)
  memory_caused (Ok x) only = tt
  memory_caused (Err e) only = error_caused old new e only

  -- a foreign row is no cause
  pub not_foreign : (r : Result X RowError) → IfErr r (IsCaused old new) → NotForeign r
  not_foreign (Ok x) caused = tt
  not_foreign (Err (Sql e)) caused = tt
  not_foreign (Err ForeignRow) caused = caused
