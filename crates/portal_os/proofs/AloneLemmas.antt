-- A database file beside a log with no frame holds all tables by itself, as it reads and after a crash.
use Rattle.portal_os.proofs.Common.{◌≡◌, ℕ, ◌<◌, List, [], ◌∷◌, true, false, Some, inl, inr, sym, ◌∙◌, ap}
use Rattle.portal_os.proofs.Common.{subst, arith, length, Image, IsPageSize, Held, Ghosts, Files, file_state}
use Rattle.portal_os.proofs.Common.{image_of, HoldsAlone, HoldsDatabase, IsCopied, IsAlone, IsIgnored}
use Rattle.portal_os.specs.Opening.{IsSettledAlone}
use Rattle.std.proofs.Common.{◌+◌, ◌-◌, ◌*◌, ◌≤◌, Option, take, slice_index, unwrap_or, cond, eqb, refl, ap₂}
use Rattle.std.proofs.Common.{get_or-take, le-ltb, lt-ltb, zero-add}
use Rattle.std.proofs.lemmas.Bool.{cases_lt}
use Rattle.std.proofs.lemmas.List.{get_or_past, length-take}
use Rattle.std.proofs.Math.Logic.{∥∥₁_map}
use Rattle.sqlite_wal.specs.Format.{part}
use Rattle.sqlite_wal.specs.Recovery.{Replays, pages_after}
use Rattle.sqlite_wal.specs.Recovery as raw
use Rattle.sqlite_wal.specs.PageSize.{size_in_file}
use Rattle.sqlite_wal.proofs.PartLemmas.{slice_index-part}
use Rattle.sqlite_wal.proofs.RecoveryLemmas.{replays_once}
use Rattle.sqlite_wal.proofs.AppendLemmas.{some_value, page_from_pages}
use Rattle.sqlite_pages.specs.PageMap.{PageMap}
use Rattle.sqlite_pool.specs.Stored.{stored_size, used_size, Adopts, is_among}
use Rattle.sqlite_pool.specs.StoredLaws.{trimmed_some}
use Rattle.sqlite_pool.specs.File.{header_in, IsSoundFile}
use Rattle.sqlite_pool.specs.Opening.{IsBlankFile}
use Rattle.sqlite_pool.proofs.ProbeLemmas.{first_byte}
use Rattle.sqlite_trees.specs.Tree.{Trees}
use Rattle.sqlite_schema.specs.declared.schema.Schema.{Schema}
use Rattle.sqlite_catalog.specs.Listing.{IsSound}
use Rattle.sqlite_store.specs.declared.store.FileStore.{FileStore}
use Rattle.sqlite_store.specs.Listing.{IsOurs}
use Rattle.sqlite.specs.State.{HasCleanDisk}
use Rattle.sqlite.specs.Files.{AreFoundIn, Finds, IsNothing, IsOpened}

-- nothing of a log that is passed over is replayed
pub none_replayed : (size : ℕ) (log : List ℕ) (frames : ℕ) → IsIgnored log → Replays size log frames
    → frames ≡ 0
none_replayed size log frames ignored replays = replays_once size log frames 0 replays (inl (ignored, refl))

bare_pages : (size : ℕ) (log db : List ℕ) → pages_after size log db 0 ≡ pages_after size [] db 0
unfolding pages_after
bare_pages size log db = refl

without_log : (size : ℕ) (image : Image) (pages : PageMap) → length image.log < 56
    → raw.Recovers size image pages → raw.Recovers size (record image { log = [] }) pages
without_log size image pages bare found =
    let none = none_replayed size image.log found.frames (inl bare) found.replays in record {
      frames = 0;
      replays = inl (inl (omega arith), refl);
      present = found.present;
      gives = sym (bare_pages size image.log image.db) ∙ (ap (pages_after size image.log image.db) (sym none)
          ∙ found.gives);
    }

adopts_alone : (size : ℕ) (image : Image) (pages : PageMap) → length image.log < 56 → Adopts size image pages
    → Adopts size (record image { log = [] }) pages
adopts_alone size image pages bare it =
    let none : it.numbers ≡ [] = empty_list it.numbers (none_replayed (stored_size size) image.log
    (length it.numbers) (inl bare) it.frames.0) in record {
      stored = it.stored;
      found = without_log (stored_size size) image it.stored bare it.found;
      whole = it.whole;
      numbers = [];
      frames = (inl (inl (omega arith), refl), λ i low. absurd (omega (arith, low)));
      sealed = λ n bytes is out. it.sealed n bytes is (subst (λ (ns : List ℕ). is_among ns n ≡ false)
          (sym none) out);
      shows = it.shows;
    }
  where
    empty_list : (ns : List ℕ) → length ns ≡ 0 → ns ≡ []
    empty_list [] none = refl
    empty_list (n ∷ more) none = absurd (omega (arith, none))

-- the size that the file names is that of its pages
module _ (size : ℕ) (image : Image) (pages : PageMap) (ignored : IsIgnored image.log)
    (found : Adopts size image pages) (sound : IsSoundFile size pages) where
  byte_of_file : (k : ℕ) → k < size → k < 100 → slice_index (header_in pages) k ≡ slice_index image.db k
  byte_of_file k small low =
      let whole = stored_size size in
      let raw = found.found in
      let none = none_replayed whole image.log raw.frames ignored raw.replays in
      let (page, is) = some_value (found.stored 1) found.whole.first in
      let alone : pages_after whole image.log image.db 0 1 ≡ Some page = ap (λ (p : PageMap). p 1)
      (ap (pages_after whole image.log image.db) (sym none) ∙ raw.gives) ∙ is in
      let start : (1 - 1) * whole ≡ 0 = omega arith in
      let front : part image.db 0 whole ≡ page = ap (λ (at : ℕ). part image.db at whole) (sym start)
      ∙ (page_from_pages whole image.log image.db 0 1 page alone).0 in
      let used : pages 1 ≡ Some (take size page) = ap (λ (p : PageMap). p 1) (sym found.shows)
      ∙ trimmed_some size _ 1 page is in
      let head : header_in pages ≡ take 100 (take size (part image.db 0 whole)) =
      ap (λ (o : Option (List ℕ)). take 100 (unwrap_or o [])) used
      ∙ ap (λ (b : List ℕ). take 100 (take size b)) (sym front) in
      ap (λ (b : List ℕ). slice_index b k) head ∙ get_or-take 100 (take size (part image.db 0 whole)) k 0 low
      ∙ get_or-take size (part image.db 0 whole) k 0 small
      ∙ slice_index-part image.db 0 whole k (omega (arith, small)) ∙ ap (slice_index image.db) (zero-add k)

  short_header : size ≤ 20 → (k : ℕ) → 20 ≤ k → slice_index (header_in pages) k ≡ 0
  short_header few k past =
      let (page, is) = some_value (found.stored 1) found.whole.first in
      let used : pages 1 ≡ Some (take size page) = ap (λ (p : PageMap). p 1) (sym found.shows)
      ∙ trimmed_some size _ 1 page is in
      let head : header_in pages ≡ take 100 (take size page) =
      ap (λ (o : Option (List ℕ)). take 100 (unwrap_or o [])) used in
      ap (λ (b : List ℕ). slice_index b k) head
      ∙ get_or_past (take 100 (take size page)) k 0
      (omega (arith, few, past, length-take 100 (take size page), length-take size page))

  -- the header has bytes at 20, so the page reaches that far
  reaches : 20 < size
  reaches = elim (cases_lt 20 size) [
    | inl more ↦ more
    | inr few ↦ absurd (omega (
      arith,
      sound.header.1.fractions,
      short_header few 20 (omega arith),
      short_header few 21 (omega arith),
      short_header few 22 (omega arith),
      short_header few 23
          (omega arith),
    ))
  ]

  pub size_named : 18 ≤ length image.db → size_in_file image.db ≡ stored_size size
  size_named long =
      let named = ap₂ (λ (a b : ℕ). a * 256 + b) (byte_of_file 16 (omega (arith, reaches)) (omega arith))
      (byte_of_file 17 (omega (arith, reaches)) (omega arith)) in
      rw (le-ltb (length image.db) 18 long) (ap (λ (n : ℕ). cond (eqb n 1) 65536 n) (sym named)
      ∙ sound.header.0.size)

-- the file names no size if it ends before that
pub named_within : (db : List ℕ) → IsPageSize (size_in_file db) → 18 ≤ length db
named_within db named = elim (cases_lt (length db) 18) [
  | inl short ↦ absurd (let none = rw (lt-ltb (length db) 18 short) at named.0 in omega (arith, none))
  | inr long ↦ long
]

no_blank : (image : Image) → IsAlone image → (size : ℕ) → 0 < size → ¬ IsBlankFile size image
no_blank image alone size some (inl none) = omega (arith, none, named_within image.db alone.sized)
no_blank image alone size some (inr blank) =
    elim blank.1.0 [
      | inl short ↦ omega (arith, short, named_within image.db alone.sized)
      | inr more ↦ elim more [
        | inl zeroed ↦ omega (arith, zeroed.1, alone.begins)
        | inr rest ↦ rest.1
            (alone.begins ∙ sym (first_byte size some))
      ]
    ]

something : (image : Image) → IsAlone image → ¬ IsNothing image
something image alone (inl plain) = no_blank image alone (used_size 4096 false) (omega arith) plain
something image alone (inr summed) = no_blank image alone (used_size 4096 true) (omega arith) summed

-- what an opening found in such files, they hold with their log and without it
held_alone : (image : Image) (db : Trees) (schema : Schema) → IsAlone image → IsSound schema db
    → AreFoundIn image db → HoldsAlone image db
held_alone image db schema alone sound (inr (nothing, empty)) = absurd (something image alone nothing)
held_alone image db schema alone sound (inl (size, pages, wanted, adopts, ours, reads)) =
    let sized = λ (o : IsOurs size true wanted pages). subst IsPageSize (size_named size image pages
    (inl alone.bare) adopts o.file.sound (named_within image.db alone.sized)) alone.sized in record {
      both = ∥∥₁_map ours (λ o.
          let r : HoldsDatabase image db = (
            size,
            sized o,
            record {
              pages = pages;
              wanted = wanted;
              schema =
                  schema;
              found = adopts;
              ours = o;
              reads = reads;
              sound = sound;
            },
          ) in r);
      alone = ∥∥₁_map ours (λ o.
          let r : HoldsDatabase (record image { log = [] }) db = (
            size,
            sized o,
            record {
              pages = pages;
              wanted = wanted;
              schema = schema;
              found =
                  adopts_alone size image pages alone.bare adopts;
              ours = o;
              reads = reads;
              sound = sound;
            },
          ) in
          r);
    }

module _ {D : Type 0} {g : Ghosts D} (files : Files D) (conn : Held (FileStore D g)) where
  -- their connection is as one whose log was copied
  pub copied_alone : IsSettledAlone g files → HasCleanDisk (file_state conn) → IsOpened conn
      → Finds files conn → IsCopied conn files
  copied_alone alone clean opened found =
      let live = opened.1 opened.0.is_open in
      let db = (file_state conn).committed in
      let held : HoldsAlone (image_of g files) db.trees = held_alone (image_of g files) db.trees db.schema
      alone.0 live.1 found.reads in record {
        was_clean = clean;
        was_open = opened.0.is_open;
        seen = held;
        left = λ image may. subst (λ (i : Image). HoldsAlone i db.trees)
            (ap₂ same_image (sym (alone.1 image.log may.0)) (sym (alone.2 image.db may.1))) held;
      }
    where
      same_image : List ℕ → List ℕ → Image
      same_image log db = record { log = log; db = db }
