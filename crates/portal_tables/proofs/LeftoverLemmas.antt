-- What is left of files that were not opened.
use Rattle.portal_tables.proofs.Common.{◌≡◌, ◌⊎◌, inl, inr, ◌∙◌, ◌-◌, ◌*◌, ◌%◌, ◌≤◌, ◌<◌, ℕ, true, false}
use Rattle.portal_tables.proofs.Common.{true≢false, IsTrue, List, [], ◌++◌, ◌∷◌, length, take, slice_index}
use Rattle.portal_tables.proofs.Common.{Option, Some, unwrap_or, codes, refl, ap, sym, subst, arith}
use Rattle.portal_tables.proofs.Common.{get_or-take, eq-eqb, ne_eqb, zero-add, cases_Bool, cases_eq}
use Rattle.portal_tables.proofs.Common.{length-take, ∥∥₁_map, ∥∥₁_elim, Image, IsIgnored, pages_after}
use Rattle.portal_tables.proofs.Common.{outcomes, recovers, Trees, Schema, Database, HoldsDatabase, IsNothing}
use Rattle.portal_tables.proofs.Common.{AreFoundIn, LeavesFiles, NamesSize, SaysSums, image_of}
use Rattle.portal_tables.proofs.Common.{empty_is_sound, CrashStateHolds}
use Rattle.sqlite_disk.specs.declared.Disk.{Ghosts}
use Rattle.sqlite_disk.specs.declared.Files.{Files}
use Rattle.sqlite_wal.specs.Format.{part}
use Rattle.sqlite_wal.specs.Recovery as raw
use Rattle.sqlite_wal.proofs.PartLemmas.{slice_index-part, part_within}
use Rattle.sqlite_wal.proofs.RecoveryLemmas.{replays_once}
use Rattle.sqlite_wal.proofs.AppendLemmas.{some_value, page_from_pages}
use Rattle.sqlite_pages.specs.PageMap.{PageMap}
use Rattle.sqlite_pool.specs.Stored.{Adopts, is_summed, reserved, stored_size}
use Rattle.sqlite_pool.specs.StoredLaws.{trimmed_some}
use Rattle.sqlite_pool.specs.File.{header_in, IsSoundFile}
use Rattle.sqlite_pool.specs.Opening.{IsBlankFile}
use Rattle.sqlite_pool.proofs.ProbeLemmas.{first_byte, reserved_word, size_by_log, size_by_file}
use Rattle.sqlite_store.specs.declared.store.FileStore.{FileStore}
use Rattle.sqlite_store.specs.declared.store.open.Unopened.{Unopened}
use Rattle.sqlite_store.specs.Unopened.{state_of}
use Rattle.sqlite.specs.declared.file.Leftover.TheVariants as left
use Rattle.sqlite.specs.Files.{IsEmpty, IsKept}
use Rattle.sqlite.proofs.FileLemmas.{is_something}
use Rattle.portal_tables.specs.Images.{HasSums}

-- the schema of an empty database
abbrev pub no_schema : Schema
no_schema = record { tables = []; indexes = []; views = [] }

-- a file that begins as a database is not blank
module _ (size : ℕ) (image : Image) (pages : PageMap) (found : Adopts size image pages)
    (sound : IsSoundFile size pages) where
  begins_well : found.found.frames ≡ 0 → (16 ≤ length image.db) × (slice_index image.db 0 ≡ 83)
  begins_well none =
      let whole = stored_size size in
      let raw = found.found in
      let (page, is) = some_value (found.stored 1) found.whole.first in
      let alone : pages_after whole image.log image.db 0 1 ≡ Some page =
      ap (λ (p : PageMap). p 1) (ap (pages_after whole image.log image.db) (sym none) ∙ raw.gives) ∙ is in
      let start : (1 - 1) * whole ≡ 0 = omega arith in
      let front : part image.db 0 whole ≡ page = ap (λ (at : ℕ). part image.db at whole) (sym start)
      ∙ (page_from_pages whole image.log image.db 0 1 page alone).0 in
      let used : pages 1 ≡ Some (take size page) =
      ap (λ (p : PageMap). p 1) (sym found.shows) ∙ trimmed_some size _ 1 page is in
      let head : header_in pages ≡ take 100 (take size page) =
      ap (λ (o : Option (List ℕ)). take 100 (unwrap_or o [])) used in
      let magic : take 16 (take 100 (take size page)) ≡ codes "SQLite format 3" ++ 0 ∷ [] =
      ap (take 16) (sym head) ∙ sound.header.0.magic in
      let long : 16 ≤ size × 16 ≤ length page = (
        let n = sym (length-take 16 (take 100 (take size page))) ∙ ap length magic in
            omega (arith, n, length-take 100 (take size page), length-take size page),
        let n = sym (length-take 16 (take 100 (take size page))) ∙ ap length magic in
            omega (arith, n, length-take 100 (take size page), length-take size page),
      ) in
      let fits =
      part_within image.db 0 whole (omega (arith, long.0)) (ap length front ∙ found.whole.sized 1 page is) in
      let letter : slice_index page 0 ≡ 83 =
      sym (get_or-take size page 0 0 (omega (arith, long.0)))
      ∙ sym (get_or-take 100 (take size page) 0 0 (omega arith))
      ∙ sym (get_or-take 16 (take 100 (take size page)) 0 0 (omega arith))
      ∙ ap (λ (b : List ℕ). slice_index b 0) magic in (
        omega (arith, fits, long.0),
        sym (ap (slice_index image.db) (zero-add 0))
            ∙ sym (slice_index-part image.db 0 whole 0 (omega (arith, long.0)))
            ∙ ap (λ (b : List ℕ). slice_index b 0) front ∙ letter,
      )

  never_blank : (other : ℕ) → 0 < other → ¬ IsBlankFile other image
  never_blank other some (inl none) = omega (arith, found.found.present)
  never_blank other some (inr blank) =
      let raw = found.found in
      let none : raw.frames ≡ 0 = elim blank.0 [
        | inl ignored ↦
            replays_once (stored_size size) image.log raw.frames 0 raw.replays (inl (ignored.0, refl))
        | inr taken ↦ elim raw.replays [
          | inl ignored ↦ ignored.1
          | inr ours ↦ replays_once (stored_size size) image.log raw.frames 0 raw.replays
              (rw (sym ours.0.head.size ∙ taken.0.head.size) blank.0)
        ]
      ] in
      let (long, magic) = begins_well none in
      elim blank.1.0 [
        | inl short ↦ omega arith
        | inr more ↦ elim more [
          | inl zero' ↦ omega (arith, zero'.1)
          | inr rest ↦ rest.1 (magic ∙ sym (first_byte other some))
        ]
      ]

  pub never_nothing : ¬ IsNothing image
  never_nothing nothing = elim nothing [
    | inl plain ↦ never_blank _ (omega arith) plain
    | inr summed ↦ never_blank _ (omega arith) summed
  ]

-- what is found where there was nothing is empty
pub found_empty : (image : Image) (db : Trees) → IsNothing image → AreFoundIn image db → IsEmpty db
found_empty image db nothing (inl it) = absurd
    (∥∥₁_elim it.4 (λ x. absurd x) (λ ours. never_nothing it.0 image it.1 it.3 ours.file.sound nothing))
found_empty image db nothing (inr it) = it.1

-- ---- page sizes

plain_reserves_none : (size : ℕ) → is_summed size ≡ false → reserved size ≡ 0
plain_reserves_none size plain = elim (cases_eq (size % 16) 8) [
  | inl on ↦
      absurd (let e : is_summed size ≡ true = rw (eq-eqb (size % 16) 8 on) refl in true≢false (sym e ∙ plain))
  | inr off ↦ rw (ne_eqb (size % 16) 8 off) refl
]

summed_or_plain : (size : ℕ) → IsTrue (is_summed size) ⊎ (reserved size ≡ 0)
summed_or_plain size = elim (cases_eq (size % 16) 8) [
  | inl on ↦ inl (rw (eq-eqb (size % 16) 8 on) refl)
  | inr off ↦ inr (rw (ne_eqb (size % 16) 8 off) refl)
]

module _ (image : Image) (db : Trees) (held : HoldsDatabase image db) (size : ℕ)
    (named : NamesSize image (stored_size size)) where
  large : 504 ≤ held.0
  large = let few : reserved held.0 ≤ 8 = grind arith in omega (arith, held.1.0)

  stored_same : stored_size held.0 ≡ stored_size size
  stored_same = elim (cases_eq (stored_size held.0) (stored_size size)) [
    | inl same ↦ same
    | inr other ↦
        let seen = λ (signed : ¬ IsIgnored image.log).
        other (sym (size_by_log held.0 image held.2.pages held.2.found signed) ∙ sym (named.0 signed)) in
        absurd (seen (λ ignored. other (sym (size_by_file held.0 image held.2.pages held.2.found large
        held.2.ours.file.sound ignored) ∙ sym (named.1 ignored))))
  ]

  -- a database with no sums was opened by its own page size
  pub size_same : is_summed held.0 ≡ false
      → (IsTrue (is_summed size) → SaysSums (stored_size size) image) → held.0 ≡ size
  size_same plain says =
      let none = plain_reserves_none held.0 plain in
      elim (summed_or_plain size) [
        | inl summed ↦
            let found = held.2.found in
            let (page, is, len, word, letter) =
            reserved_word held.0 image held.2.pages found large held.2.ours.file.sound in
            let said = says summed found.stored page (subst (λ (n : ℕ). raw.Recovers n image found.stored)
            stored_same found.found) is (len ∙ stored_same) in
            omega (arith, word, said, none)
        | inr off ↦ omega (arith, none, off, stored_same)
      ]

-- ---- what they hold

or_else : (A B : Type 0) → ∥ A ∥₁ → ∥ A ⊎ B ∥₁
or_else A B one = ∥∥₁_map one (λ it. let r : A ⊎ B = inl it in r)

module _ (Shows : Database → Type 0) (Blank : Type 0)
    (bare : Blank → (trees : Trees) → Shows (record { schema = no_schema; trees = trees })) where
  empty_left : Blank → (db : Trees) → IsEmpty db → CrashStateHolds Shows db
  empty_left blank db empty = (no_schema, empty_is_sound db empty.1, bare blank db)

  -- the files hold tables that hold it, or no database yet
  abbrev Shown : Image → Type 0
  Shown image = ((db : Trees) × HoldsDatabase image db × CrashStateHolds Shows db) ⊎ (IsNothing image × Blank)

  module _ {D : Type 0} {g : Ghosts D} (files : Files D) (seen : Shown (image_of g files)) where
    pub store_left : (now : FileStore D g) → LeavesFiles files (left.Store now) → (trees : Trees)
        → recovers now trees → CrashStateHolds Shows trees
    store_left now leaves trees may =
        let it = leaves trees may in
        elim seen [
          | inl (db, held, shown) ↦ subst (CrashStateHolds Shows) (sym (it.1 db held)) shown
          | inr (nothing, blank) ↦ empty_left blank trees (found_empty (image_of g files) trees nothing it.0)
        ]

    module _ (old : (image : Image) → outcomes g files.log files.db image → ∥ Shown image ∥₁) where
      kept_shown : (db : Trees) (held : HoldsDatabase (image_of g files) db) → CrashStateHolds Shows db
          → (size : ℕ) → is_summed held.0 ≡ false → NamesSize (image_of g files) (stored_size size)
          → (IsTrue (is_summed size) → SaysSums (stored_size size) (image_of g files)) → (image : Image)
          → IsKept g files size image → ∥ Shown image ∥₁
      kept_shown db held shown size plain named says image kept = elim kept.same [
        | inl was ↦ old image was
        | inr exists ↦
            let same = size_same (image_of g files) db held size named plain says in
            let found =
            subst (λ (n : ℕ). Adopts n (image_of g files) held.2.pages → Adopts n image held.2.pages)
            (sym same) (exists.1 held.2.pages) held.2.found in
            let holds : HoldsDatabase image db = (
              held.0,
              held.1,
              record {
                pages = held.2.pages;
                wanted = held.2.wanted;
                schema = held.2.schema;
                found = found;
                ours = held.2.ours;
                reads = held.2.reads;
                sound = held.2.sound;
              },
            ) in
            ∣ inl (db, holds, shown) ∣₁
      ]

      pub unopened_left : (now : Unopened D g) → LeavesFiles files (left.Unopened now) → (image : Image)
          → (state_of now).may_leave image → ∥ Shown image ⊎ HasSums (image_of g files) ∥₁
      unopened_left now (inl (nothing, each)) image may = elim seen [
        | inl (db, held, shown) ↦ absurd (is_something (image_of g files) db held nothing)
        | inr (none, blank) ↦ or_else (Shown image) (HasSums (image_of g files)) (elim (each image may) [
          | inl was ↦ old image was
          | inr (inl still) ↦ ∣ inr (still, blank) ∣₁
          | inr (inr made) ↦
              ∥∥₁_map made (λ it. let r : Shown image = inl (it.0, it.1, empty_left blank it.0 it.2) in r)
        ])
      ]
      unopened_left now (inr (something, named, begins, says, each)) image may = elim seen [
        | inl (db, held, shown) ↦ elim (cases_Bool (is_summed held.0)) [
          | inl summed ↦ ∣ inr (db, held, summed) ∣₁
          | inr plain ↦ or_else (Shown image) (HasSums (image_of g files))
              (kept_shown db held shown (state_of now).page_size plain named says image (each image may))
        ]
        | inr (nothing, blank) ↦ absurd (something nothing)
      ]
