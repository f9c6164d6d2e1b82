-- What is left of files that were not opened, or whose log was not copied, still holds what they held.
use Rattle.portal_os.proofs.Common.{◌≡◌, ◌∙◌, inl, inr, subst, sym, Result, Ok, Err, IfErr, Ghosts, Files}
use Rattle.portal_os.proofs.Common.{AreClean, Held, Image, ImageHoldsLedger, Ledger, file_state, image_of}
use Rattle.portal_os.proofs.Common.{ap₂, image, over_files}
use Rattle.std.specs.Prelude.{◌⊎◌}
use Rattle.portal_os.proofs.CopyingLemmas.{ledger_stands}
use Rattle.portal_os.specs.Copying.{KeepsDatabase, LeavesImage, LeavesNoMore, StandsFor}
use Rattle.portal_os.specs.Left.{LeavesOnly, LeavesUntouched, StillHolds, WhileClean, given, since}
use Rattle.portal_os.specs.Opening.{RefusesFiles, RefusesToOpen}
use Rattle.portal_os.specs.Errors.{program_error_of}
use Rattle.portal_os.specs.declared.opening_error.OpeningError.{OpeningError}
use Rattle.portal_os.specs.declared.remains.Remains.{Remains}
use Rattle.portal_os.specs.declared.remains.Remains.TheVariants as remains
use Rattle.portal_commands.specs.declared.place.Purpose.{Purpose}
use Rattle.portal_server.specs.declared.error.ProgramError.{ProgramError}
use Rattle.portal_tables.specs.Images.{FilesRepresent, ImageHolds, IsCrashStateOfStore, UnopenedHolds}
use Rattle.portal_tables.specs.TablesRepresent.{ConnRepresents, CrashStatesOfConnHold, Files as Tables}
use Rattle.portal_tables.specs.TablesRepresent.{FilesHold}
use Rattle.portal_tables.specs.declared.opening.Unopened.TheVariants.{Refused}
use Rattle.sqlite.specs.State.{HasCleanDisk}
use Rattle.sqlite.specs.declared.error.Error.{Error}
use Rattle.sqlite.specs.declared.file.Leftover.{Leftover}
use Rattle.sqlite.specs.declared.file.Leftover.TheVariants as left
use Rattle.sqlite_pool.proofs.StateLemmas.{clean_is}
use Rattle.sqlite_store.specs.FileStore.{files as store_files}
use Rattle.sqlite_store.specs.declared.store.FileStore.{FileStore}
use Rattle.sqlite_trees.proofs.Doubt.{no_doubt}
use Rattle.sqlite_trees.specs.declared.store.Store as stores
use Rattle.sqlite_wal.specs.Files.{outcomes}
use Rattle.sqlite_wal.specs.Reads.{OnlyReads}

pub err_since : {D T E : Type 0} (g : Ghosts D) (result : Result T E) (Fact : E → Type 0) (files : Files D)
    → (AreClean g files.log files.db → IfErr result (λ e. WhileClean g (Fact e)))
    → IfErr result (λ e. WhileClean g (Fact e))
err_since g (Ok done) Fact files told = tt
err_since g (Err e) Fact files told = since files told

module _ {D : Type 0} {g : Ghosts D} where
  -- what follows from a fact that holds while the disk is clean
  pub follows : {A B : Type 0} → (A → B) → WhileClean g A → WhileClean g B
  follows to (given is) = given (to is)
  follows to (since files told) = since files (λ clean. follows to (told clean))

  -- files that were only read
  pub read_represents : (files read : Files D) (L : Ledger) → image_of g read ≡ image_of g files
      → LeavesNoMore g files read → FilesRepresent g files L → FilesRepresent g read L
  read_represents files read L same fewer at = record {
    seen = subst (λ (i : Image). ImageHoldsLedger i L) (sym same) at.seen;
    left = λ image may. at.left image (fewer image may);
  }

  pub only_reads : (files read : Files D) → OnlyReads g files.log read.log → OnlyReads g files.db read.db
      → (image_of g read ≡ image_of g files) × LeavesNoMore g files read
  only_reads files read log db =
      (ap₂ image log.seen db.seen, λ i may. (log.crash i.log may.0, db.crash i.db may.1))

  pub read_holds : (files read : Files D) (L : Ledger) → LeavesNoMore g files read → FilesRepresent g files L
      → StillHolds {g = g} (left.Files read) L
  read_holds files read L fewer at = given (read, λ clean image may. at.left image (fewer image may))

  -- files whose log was copied
  pub copied_represents : (files copied : Files D) (L : Ledger)
      → StandsFor (image_of g files) (image_of g copied)
      → ((image : Image) → outcomes g copied.log copied.db image
      → outcomes g files.log files.db image ⊎ StandsFor (image_of g files) image)
      → FilesRepresent g files L → FilesRepresent g copied L
  copied_represents files copied L stands leaves at = record {
    seen = ledger_stands _ _ L stands at.seen;
    left = λ image may. elim (leaves image may) [
      | inl was ↦ at.left image was
      | inr it ↦ let r : ImageHoldsLedger image L = ledger_stands _ _ L it at.seen in ∣ r ∣₁
    ];
  }

  -- files whose log was not copied to the end
  pub kept_holds : (files kept : Files D) (L : Ledger)
      → (AreClean g kept.log kept.db → KeepsDatabase g files kept) → FilesRepresent g files L
      → StillHolds {g = g} (left.Files kept) L
  unfolding Tables ImageHolds
  kept_holds files kept L keeps at = given (
    kept,
    λ clean image may. elim at.seen [
      | inl held ↦ elim ((keeps clean).left image may) [
        | inl was ↦ at.left image was
        | inr holds ↦
            let r : ImageHoldsLedger image L = inl (held.0, holds held.0 held.1, held.2) in ∣ r ∣₁
      ]
      | inr nothing ↦ at.left image ((keeps clean).none nothing.0 image may)
    ],
  )

  -- the files of a store
  abbrev pair_of : FileStore D g → Files D
  pair_of it = record { log = (store_files it).0; db = (store_files it).1 }

  clean_store : (conn : Held (FileStore D g)) → AreClean g (pair_of conn.store).log (pair_of conn.store).db
      → HasCleanDisk (file_state conn)
  clean_store conn honest = no_doubt _ (clean_is conn.store.pool ∙ honest)

  -- files that were not closed, or not opened again
  pub unclosed_holds : (conn : Held (FileStore D g)) (store : FileStore D g) (L : Ledger)
      → (HasCleanDisk (file_state conn) → ConnRepresents over_files conn L)
      → (ConnRepresents over_files conn L
      → (tables : Tables) → IsCrashStateOfStore store tables → FilesHold tables L)
      → StillHolds (left.Store store) L
  unclosed_holds conn store L represents holds =
      since (pair_of conn.store) (λ honest.
      given (pair_of conn.store, λ clean. holds (represents (clean_store conn honest))))

  pub refused_holds : (conn : Held (FileStore D g)) (error : Error) (rest : Leftover D g) (L : Ledger)
      → (HasCleanDisk (file_state conn) → ConnRepresents over_files conn L)
      → (ConnRepresents over_files conn L → UnopenedHolds (Refused error rest) L) → StillHolds rest L
  refused_holds conn error rest L represents holds =
      since (pair_of conn.store) (λ honest.
      let (closed, kept) = holds (represents (clean_store conn honest)) in
      since closed (λ whole. given (closed, (kept whole).1)))

  -- in the words of the whole opening
  pub leaves_only : (image : Image) (files : Files D) (rest : Leftover D g) → LeavesImage g image files
      → LeavesUntouched files rest → LeavesOnly image rest
  leaves_only image files (left.Files now) only fewer = λ found may. only found (fewer found may)
  leaves_only image files (left.Unopened now) only never = never
  leaves_only image files (left.Store now) only never = never

  pub refuses_files : (image : Image) (purpose : Purpose) (rest : Remains D g) (cause : OpeningError)
      (error : ProgramError) → error ≡ program_error_of cause → RefusesToOpen image purpose rest
      → RefusesFiles image purpose rest error
  refuses_files image purpose remains.Nothing cause error is refuses = (cause, is)
  refuses_files image purpose (remains.Unopened files) cause error is refuses = (cause, is, refuses)
  refuses_files image purpose (remains.Refused conn) cause error is never = absurd never
  refuses_files image purpose (remains.Closed files) cause error is never = absurd never
  refuses_files image purpose (remains.Unclosed store) cause error is never = absurd never

-- each crash state of a connection that represents a ledger holds it
pub represented_left : {S : Type 0} (g : stores.Ghosts S) (conn : Held S) (L : Ledger)
    → ConnRepresents g conn L → CrashStatesOfConnHold g conn L
unfolding Tables ConnRepresents CrashStatesOfConnHold FilesHold
represented_left g conn L at = λ tables may. at.left tables may
