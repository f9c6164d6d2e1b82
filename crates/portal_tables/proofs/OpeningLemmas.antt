-- A connection to files that are opened, or opened again, represents the ledger that they hold.
use Rattle.portal_tables.proofs.Common.{◌≡◌, [], false, inl, inr, IsTrue, refl, subst, sym, ∥∥₁_elim, ∥∥₁_map}
use Rattle.portal_tables.proofs.Common.{Image, outcomes, Trees, Database, Held, state, Schema, IsCleanLeft}
use Rattle.portal_tables.proofs.Common.{IsNothing, LeavesFiles, image_of, file_state, over_files, IsOpened}
use Rattle.portal_tables.proofs.Common.{empty_is_sound, view, faults, recovers, is_shielded, Ledger}
use Rattle.portal_tables.proofs.Common.{CrashStateHolds, at_open, shows_under, is_any_name_taken, StoreHolds}
use Rattle.sqlite_disk.specs.declared.Disk.{Ghosts}
use Rattle.sqlite_disk.specs.declared.Files.{Files}
use Rattle.sqlite_wal.specs.Reads.{AreClean}
use Rattle.sqlite.specs.declared.FileStore.{FileStore}
use Rattle.sqlite.proofs.Callers.{finds_again}
use Rattle.sqlite.specs.Start.{FindsIn}
use Rattle.sqlite.specs.Steps.{over_memory, IsEmpty}
use Rattle.sqlite_trees.specs.declared.memory.MemStore.{MemStore}
use Rattle.sqlite.specs.Closing.{HoldsAlone, IsCopied}
use Rattle.sqlite.specs.declared.file.Leftover.{Leftover}
use Rattle.sqlite.specs.declared.file.Leftover.TheVariants as left
use Rattle.sqlite.specs.Files.{Finds}
use Rattle.sqlite_catalog.proofs.ReadLemmas.{lists_once}
use Rattle.sqlite_trees.specs.Objects.{catalog_tree}
use Rattle.sqlite_trees.specs.Props.{Trees-set}
use Rattle.sqlite_trees.specs.View.{IsQuiet}
use Rattle.portal_tables.specs.Images.{FilesRepresent, ClosedHold, ImageHolds, ImageHoldsLedger}
use Rattle.portal_tables.specs.Images.{LeftoverHolds, IsCrashStateOfStore}
use Rattle.portal_tables.specs.TablesRepresent.{ConnRepresents, Files as Tables, FilesHold}
use Rattle.portal_tables.proofs.LeftoverLemmas.{no_schema, found_empty, store_left, unopened_left}

-- the law of the store at a connection over files
abbrev pub IsSettledOver : {D : Type 0} {g : Ghosts D} → Held (FileStore D g) → Type 0
IsSettledOver c = (db : Trees) → IsTrue (file_state c).is_open → (file_state c).may_leave db
    → db ≡ (file_state c).committed.trees

-- an empty schema has none of the product's tables
bare : (schema : Schema) → schema ≡ record { tables = []; indexes = []; views = [] }
    → is_any_name_taken schema ≡ false
bare schema none = subst (λ (s : Schema). is_any_name_taken s ≡ false) (sym none) refl

new_shows : (L : Ledger) → L ≡ [] → (trees : Trees)
    → StoreHolds L (record { schema = no_schema; trees = trees })
new_shows L none trees = inr (inr (none, refl))

module _ {D : Type 0} {g : Ghosts D} (L : Ledger) where
  -- where there was no database yet, nothing was accepted
  blank_stands : (image : Image) (c : Held (FileStore D g)) → IsSettledOver c → IsNothing image → L ≡ []
      → IsOpened c → FindsIn image (file_state c) → ConnRepresents over_files c L
  unfolding ConnRepresents
  blank_stands image c law nothing none opened found =
      let s = file_state c in
      let live = opened.1 opened.0.is_open in
      let empty = found_empty image s.committed.trees nothing found.reads in
      let unlisted : s.committed.schema ≡ no_schema = lists_once (s.committed.trees catalog_tree)
      s.committed.schema no_schema live.1.lists (empty_is_sound s.committed.trees empty.1).lists in
      let fresh : is_any_name_taken s.now.schema ≡ false =
      bare s.now.schema (subst (λ (db : Database). db.schema ≡ no_schema) (sym opened.0.clean) unlisted) in
      at_open (StoreHolds L) s law opened.0.is_open opened.0.autocommit opened.0.clean live.0
      (inr (inr (none, fresh)))

  opened_stands : (image : Image) (c : Held (FileStore D g)) (left : Tables) → IsSettledOver c
      → ImageHolds image left → FilesHold left L → IsOpened c → FindsIn image (file_state c)
      → ConnRepresents over_files c L
  unfolding Tables ImageHolds FilesHold ConnRepresents
  opened_stands image c left law holds shown opened found =
      let s = file_state c in
      let live = opened.1 opened.0.is_open in
      let here : CrashStateHolds (StoreHolds L) s.committed.trees =
      subst (CrashStateHolds (StoreHolds L)) (sym (found.holds left holds)) shown in
      at_open (StoreHolds L) s law opened.0.is_open opened.0.autocommit opened.0.clean live.0
      (subst (StoreHolds L) (sym opened.0.clean)
      (shows_under (StoreHolds L) s.committed.trees s.committed.schema live.1 here))

  -- what the files held when they were opened, or were supposed to hold
  pub opens_from : (image : Image) (c : Held (FileStore D g)) → IsSettledOver c → ImageHoldsLedger image L
      → IsOpened c → FindsIn image (file_state c) → ConnRepresents over_files c L
  opens_from image c law (inl (left, holds, shown)) opened found =
      opened_stands image c left law holds shown opened found
  opens_from image c law (inr (nothing, none)) opened found =
      blank_stands image c law nothing none opened found

  pub opens : (files : Files D) (c : Held (FileStore D g)) → IsSettledOver c
      → ImageHoldsLedger (image_of g files) L → IsOpened c → Finds files c → ConnRepresents over_files c L
  opens files c law shown opened found =
      opens_from (image_of g files) c law shown opened (record { holds = found.holds; reads = found.reads })

  -- what is left of files that were not opened
  pub leftover_shows : (files : Files D) (rest : Leftover D g) → FilesRepresent g files L
      → LeavesFiles files rest → LeftoverHolds (image_of g files) rest L
  unfolding Tables ImageHolds IsCrashStateOfStore FilesHold
  leftover_shows files (left.Files now) at leaves = λ image may. at.left image (leaves image may)
  leftover_shows files (left.Unopened now) at leaves =
      unopened_left (StoreHolds L) (L ≡ []) (new_shows L) files at.seen at.left now leaves
  leftover_shows files (left.Store now) at leaves =
      store_left (StoreHolds L) (L ≡ []) (new_shows L) files at.seen now leaves

  -- files to which nothing has happened since they held the image
  pub untouched_at : (files : Files D) (image : Image) → image_of g files ≡ image
      → ((left : Image) → outcomes g files.log files.db left → left ≡ image) → ImageHoldsLedger image L
      → FilesRepresent g files L
  untouched_at files image same only shown = record {
    seen = subst (λ (i : Image). ImageHoldsLedger i L) (sym same) shown;
    left = λ left may. let r : ImageHoldsLedger left L =
        subst (λ (i : Image). ImageHoldsLedger i L) (sym (only left may)) shown in
        ∣ r ∣₁;
  }

  -- what is left of them, where they were not opened
  pub untouched_left : (files : Files D) (rest : Leftover D g) (image : Image) → image_of g files ≡ image
      → ((left : Image) → outcomes g files.log files.db left → left ≡ image) → ImageHoldsLedger image L
      → LeavesFiles files rest → LeftoverHolds image rest L
  untouched_left files rest image same only shown leaves =
      subst (λ (i : Image). LeftoverHolds i rest L) same
      (leftover_shows files rest (untouched_at files image same only shown) leaves)

  pub reopened_stands : (old again : Held (FileStore D g)) (files : Files D) → IsSettledOver again
      → ConnRepresents over_files old L → (AreClean g files.log files.db → IsCopied old files)
      → IsOpened again → Finds files again → ConnRepresents over_files again L
  unfolding ConnRepresents
  reopened_stands old again files law at closed opened found =
      let s = file_state again in
      let was : CrashStateHolds (StoreHolds L) (file_state old).committed.trees =
      subst (λ (db : Database). CrashStateHolds (StoreHolds L) db.trees) at.settled (
        (file_state old).now.schema,
        at.sound,
        at.shown,
      ) in
      let here : CrashStateHolds (StoreHolds L) s.committed.trees =
      subst (CrashStateHolds (StoreHolds L)) (sym (finds_again old again files closed found)) was in
      let live = opened.1 opened.0.is_open in
      at_open (StoreHolds L) s law opened.0.is_open opened.0.autocommit opened.0.clean live.0
      (subst (StoreHolds L) (sym opened.0.clean)
      (shows_under (StoreHolds L) s.committed.trees s.committed.schema live.1 here))

  -- a store that was not closed has no more crash states than its connection had
  pub unclosed_shows : (old : Held (FileStore D g)) (last : FileStore D g) → ConnRepresents over_files old L
      → IsQuiet view faults recovers is_shielded old.store last → (files : Tables)
      → IsCrashStateOfStore last files → FilesHold files L
  unfolding Tables IsCrashStateOfStore ConnRepresents FilesHold
  unclosed_shows old last at quiet trees may = at.left trees (quiet.outcomes trees may)

  -- files that were closed hold what the connection had committed
  module _ (old : Held (FileStore D g)) (files : Files D) (at : ConnRepresents over_files old L)
      (copied : IsCopied old files) where
    unfoldable committed : Tables
    unfolding Tables
    committed = (file_state old).committed.trees

    committed_shows : FilesHold committed L
    unfolding Tables committed ConnRepresents FilesHold
    committed_shows = subst (λ (db : Database). CrashStateHolds (StoreHolds L) db.trees) at.settled (
      (file_state old).now.schema,
      at.sound,
      at.shown,
    )

    held_shows : (image : Image) → HoldsAlone image (file_state old).committed.trees
        → ∥ ImageHoldsLedger image L ∥₁
    unfolding Tables committed ImageHolds
    held_shows image held = ∥∥₁_map held.both
        (λ holds. let r : ImageHoldsLedger image L = inl (committed, holds, committed_shows) in r)

    closed_shows : (image : Image) → outcomes g files.log files.db image → ∥ ImageHoldsLedger image L ∥₁
    closed_shows image may = held_shows image (copied.left image may)

    closed_left : (rest : Leftover D g) → LeavesFiles files rest → LeftoverHolds (image_of g files) rest L
    unfolding Tables committed ImageHolds IsCrashStateOfStore FilesHold
    closed_left (left.Files now) leaves = λ image may. closed_shows image (leaves image may)
    closed_left (left.Unopened now) leaves = λ image may.
        ∥∥₁_elim (held_shows (image_of g files) copied.seen) squash₁ (λ seen.
        unopened_left (StoreHolds L) (L ≡ []) (new_shows L) files seen closed_shows now leaves image may)
    closed_left (left.Store now) leaves = λ trees may.
        let same : trees ≡ committed =
        ∥∥₁_elim copied.seen.both (Trees-set _ _) (λ holds. (leaves trees may).1 committed holds) in
        subst (CrashStateHolds (StoreHolds L)) (sym same) committed_shows

    pub closed_show : (rest : Leftover D g) → (IsCleanLeft rest → LeavesFiles files rest)
        → ClosedHold files rest L
    closed_show rest leaves = (closed_shows, λ clean. closed_left rest (leaves clean))

-- a new database in memory holds the empty ledger
pub empty_stands : (c : Held MemStore) → IsEmpty (state over_memory c) → ConnRepresents over_memory c []
unfolding ConnRepresents
empty_stands c empty =
    at_open (StoreHolds []) (state over_memory c) (λ db live same. same)
    empty.0.is_open empty.0.autocommit empty.0.clean (empty.1 empty.0.is_open).0
    (inr (inr (refl, bare (state over_memory c).now.schema empty.2)))
