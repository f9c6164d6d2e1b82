-- What holds of files that were opened, and opened again.
use Rattle.std.proofs.Common.{refl}
use Rattle.portal_os.proofs.Common.{◌≡◌, ◌∙◌, sym, subst, Bool, true, false, IsTrue, Result, Ok, Err, IfOk}
use Rattle.portal_os.proofs.Common.{Image, ComesFrom, IsCopied, Files, Ghosts, Held}
use Rattle.portal_os.proofs.Common.{AreFoundIn, file_state, image_of, over_files}
use Rattle.sqlite.specs.Files.{Finds}
use Rattle.sqlite_store.specs.declared.store.FileStore.{FileStore}
use Rattle.sqlite.specs.State.{HasCleanDisk}
use Rattle.sqlite.specs.Start.{FindsIn}
use Rattle.sqlite_trees.specs.Tree.{Trees}
use Rattle.portal_desk_store.specs.Attaching.{IsConnOpen}
use Rattle.portal_tables.specs.Images.{IsReopened}
use Rattle.portal_tables.specs.TablesRepresent.{ConnIsFaultFree}

module _ {D : Type 0} {g : Ghosts D} (conn : Held (FileStore D g)) where
  -- if the connection has been fault-free, its disk is clean
  pub clean_by : ConnIsFaultFree over_files conn → HasCleanDisk (file_state conn)
  unfolding ConnIsFaultFree
  clean_by honest = honest

  -- if it is open, the words of the desk say so
  pub open_by : IsTrue (file_state conn).is_open → IsConnOpen over_files conn
  unfolding IsConnOpen
  open_by live = live

-- what was opened is closed and opened again, or not: what holds of it as long as its disk is clean
pub honest_on : {C E : Type 0} (again : Result C E) (Clean : C → Type 0) (Was Output : Type 0)
    → IfOk again (λ c. Clean c → Was) → (Was → Output) → IfOk again (λ c. Clean c → Output)
honest_on (Ok c) Clean Was Output honest told = λ clean. told (honest clean)
honest_on (Err e) Clean Was Output honest told = tt

pub stands_on : {C E : Type 0} (again : Result C E) (Clean At : C → Type 0) (Was Before : Type 0)
    → IfOk again (λ c. Clean c → Was) → (Before → IfOk again (λ c. Clean c → At c)) → (Was → Before)
    → IfOk again (λ c. Clean c → At c)
stands_on (Ok c) Clean At Was Before honest represents opened =
    λ clean. represents (opened (honest clean)) clean
stands_on (Err e) Clean At Was Before honest represents opened = tt

module _ {D : Type 0} {g : Ghosts D} where
  abbrev Clean : Held (FileStore D g) → Type 0
  Clean conn = HasCleanDisk (file_state conn)

  -- what was opened, and perhaps closed and opened again, finds what the files held; where their log needed
  -- no copy, they were as ones that were closed
  pub from_on : {E : Type 0} (again : Result (Held (FileStore D g)) E) (image : Image) (copies needs : Bool)
      (first : Held (FileStore D g)) (files : Files D)
      → IfOk again (λ c. Clean c → Clean first)
      → IfOk again (λ c. Clean c → (file_state c).committed.trees ≡ (file_state first).committed.trees)
      → IfOk again (λ c. Clean c → IsTrue needs → IsReopened first c)
      → (Clean first → FindsIn image (file_state first)) → (Clean first → Finds files first)
      → (Clean first → IsTrue copies → needs ≡ false → IsCopied first files)
      → IfOk again (λ c. Clean c → ComesFrom image copies c)
  from_on (Ok c) image copies needs first files honest same reopened found finds alone = λ clean.
      let was = found (honest clean) in
      let here : FindsIn image (file_state c) = record {
        holds = λ db held. same clean ∙ was.holds db held;
        reads = subst (λ (db : Trees). AreFoundIn image db) (sym (same clean)) was.reads;
      } in (
        here,
        λ is. (
          first,
          was,
          by_need needs (reopened clean) (λ none. (
            files,
            alone (honest clean) is none,
            moved clean,
          )),
        ),
      )
    where
      by_need : (b : Bool) → (IsTrue b → IsReopened first c) → (b ≡ false → IsReopened first c)
          → IsReopened first c
      by_need true copied alone = copied refl
      by_need false copied alone = alone refl

      moved : Clean c → Finds files c
      moved clean =
          let it = finds (honest clean) in record {
            honest = it.honest;
            holds = λ db held. same clean ∙ it.holds db held;
            reads = subst (λ (db : Trees). AreFoundIn (image_of g files) db) (sym (same clean)) it.reads;
          }
  from_on (Err e) image copies needs first files honest same reopened found finds alone = tt
