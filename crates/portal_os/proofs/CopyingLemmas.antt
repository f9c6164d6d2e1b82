-- Two images of the same pages stand for each other, if the pages begin a database and end in no checksums.
-- So do two files before and after their log was recovered and copied.
use Rattle.portal_os.proofs.Common.{◌≡◌, ℕ, ◌<◌, List, Some, inl, inr, sym, ◌∙◌, ap, ap₂, arith, length}
use Rattle.portal_os.proofs.Common.{subst, subst₂, image, true, false, Bool, IsTrue, Result, Ok, Err, IfOk}
use Rattle.portal_os.proofs.Common.{Image, IsIgnored}
use Rattle.portal_os.proofs.Common.{AreFramesOf, AreFoundIn, HoldsDatabase, be32, ComesFrom, Ledger, Ghosts}
use Rattle.portal_os.proofs.Common.{AreClean, Files, Held, ImageHoldsLedger, IsPageSize, file_state, image_of}
use Rattle.portal_os.proofs.AloneLemmas.{none_replayed, named_within, size_named}
use Rattle.portal_os.specs.Copying.{BeginsPlain, HoldsAll, IsNamedPlain, KeepsDatabase, StandsFor}
use Rattle.std.proofs.Common.{◌+◌, ◌-◌, ◌*◌, ◌≤◌, ◌%◌, ◌≢◌, take, slice_index, cond, eqb, le-ltb, map}
use Rattle.std.proofs.Common.{take_all, zero-add, ne_eqb, eq-eqb}
use Rattle.std.specs.List.{range_with_len}
use Rattle.std.proofs.lemmas.Bool.{cases_eq, cases_lt, cond-true}
use Rattle.std.proofs.lemmas.List.FromFn.{length-map-range_with_len, get_or-map-range_with_len}
use Rattle.std.proofs.Math.Logic.{∥∥₁_elim}
use Rattle.sqlite_wal.specs.declared.log.Log.{Log}
use Rattle.sqlite_wal.specs.Log as log
use Rattle.sqlite_wal.specs.Files.{outcomes, seen_image}
use Rattle.sqlite_wal.specs.Format.{part, page_number, IsHeader}
use Rattle.sqlite_wal.specs.PageSize.{size_in_file}
use Rattle.sqlite_wal.specs.Recovery.{Pages, AreWhole, Replays, frame, pages_after}
use Rattle.sqlite_wal.specs.Recovery.{AddsNothing, KeepsImage, RecoversAs}
use Rattle.sqlite_wal.specs.Recovery as raw
use Rattle.sqlite_wal.specs.Reads.{OnlyReads}
use Rattle.sqlite_wal.specs.State.{IsSettled}
use Rattle.sqlite_wal.proofs.FormatLemmas.{be32-part}
use Rattle.sqlite_wal.proofs.LogLemmas.{settled, SeenMayStay}
use Rattle.sqlite_wal.proofs.PartLemmas.{slice_index-part, part_within}
use Rattle.sqlite_wal.proofs.RecoveryLemmas.{recovers_once, RecoversAs-from}
use Rattle.sqlite_wal.proofs.StateLemmas.{open_from}
use Rattle.sqlite_wal.proofs.AppendLemmas.{page_from_pages, some_value}
use Rattle.sqlite_wal.proofs.CreateLemmas.{begun_is_not_blank}
use Rattle.sqlite_pages.specs.PageMap.{PageMap}
use Rattle.sqlite_pool.specs.Header.{first_page}
use Rattle.sqlite_pool.specs.Stored.{reserved, stored_size, used_size, sealed, Adopts}
use Rattle.sqlite_pool.specs.File.{IsSoundFile}
use Rattle.sqlite_pool.proofs.ProbeLemmas.{first_byte, reserved_word}
use Rattle.sqlite_store.specs.declared.store.FileStore.{FileStore}
use Rattle.sqlite_store.specs.Listing.{IsOurs}
use Rattle.sqlite_trees.specs.Tree.{Trees}
use Rattle.sqlite.specs.Files.{IsNothing}
use Rattle.sqlite.specs.Start.{FindsIn}
use Rattle.sqlite.specs.State.{State}
use Rattle.portal_tables.specs.Images.{ImageHolds}
use Rattle.portal_tables.specs.TablesRepresent.{Files as Tables}

-- the pages of the first frames of a log
frames_of : (size : ℕ) (log : List ℕ) (frames : ℕ) → Replays size log frames
    → (numbers : List ℕ) × AreFramesOf size log numbers
frames_of size log frames replays =
    let number = λ (i : ℕ). page_number (frame size log i) in
    let numbers = map number (range_with_len 0 frames) in
    let len : length numbers ≡ frames = length-map-range_with_len number 0 frames in (
      numbers,
      (
        subst (Replays size log) (sym len) replays,
        λ i low. get_or-map-range_with_len number 0 frames i i 0 (omega (arith, len)) (zero-add i),
      ),
    )

-- a page that ends in no checksum is as it is stored
unsealed : (size : ℕ) (bytes : List ℕ) → length bytes ≡ size → size % 16 ≢ 8
    → bytes ≡ sealed (take size bytes)
unfolding sealed
unsealed size bytes len off =
    let all : take size bytes ≡ bytes = take_all size bytes (omega (arith, len)) in
    let differs : length bytes % 16 ≢ 8 = λ same. off (ap (λ (n : ℕ). n % 16) (sym len) ∙ same) in
    rw (all, ne_eqb (length bytes % 16) 8 differs)

-- a page whose length shows that it ends in no checksum
even : (used : ℕ) → reserved used ≡ 0 → used % 16 ≢ 8
even used none odd = let on : reserved used ≡ 8 = cond-true _ _ _ (eq-eqb _ _ odd) in omega arith

-- there is a database where the first page begins one
begun : (size : ℕ) (pages : Pages) (page : List ℕ) → 512 ≤ size → length page ≡ size → slice_index page 0 ≡ 83
    → (image : Image) → raw.Recovers size image pages → pages 1 ≡ Some page → ¬ IsNothing image
begun size pages page large long begins image found first nothing =
    let never = λ (other : ℕ) (some : 0 < other). let gate = first_byte other some in
    begun_is_not_blank (sealed (first_page other)) page size image pages found first long
    (omega (arith, large)) (begins ∙ sym gate)
    (λ none. let never = sym gate ∙ none in omega arith) in
    elim nothing [
      | inl plain ↦ never (used_size 4096 false) (omega arith) plain
      | inr summed ↦ never (used_size 4096 true) (omega arith) summed
    ]

-- pages that end in no checksums are as they are stored, wherever they are stored
moved : (used : ℕ) (shown : PageMap) (old new : Image) (it : Adopts used old shown) → reserved used ≡ 0
    → raw.Recovers (stored_size used) new it.stored → Adopts used new shown
moved used shown old new it none here =
    let (numbers, frames) = frames_of (stored_size used) new.log here.frames here.replays in record {
      stored = it.stored;
      found = here;
      whole = it.whole;
      numbers = numbers;
      frames = frames;
      sealed = λ n bytes is out. unsealed used bytes (omega (arith, it.whole.sized n bytes is, none))
          (even used none);
      shows = it.shows;
    }

-- an image with the pages of a database holds it
held_in : (old new : Image) (db : Trees) (held : HoldsDatabase old db) → reserved held.0 ≡ 0
    → ((pages : Pages) → raw.Recovers (stored_size held.0) old pages
    → raw.Recovers (stored_size held.0) new pages) → HoldsDatabase new db
held_in old new db (used, valid, held) none again = (
  used,
  valid,
  record {
    pages = held.pages;
    wanted = held.wanted;
    schema = held.schema;
    found = moved used held.pages old new held.found none (again held.found.stored held.found.found);
    ours = held.ours;
    reads = held.reads;
    sound = held.sound;
  },
)

module _ (size : ℕ) (pages : Pages) (page : List ℕ) (large : 512 ≤ size) (whole : AreWhole size pages)
    (first : pages 1 ≡ Some page) (begins : BeginsPlain size page) where
  long : length page ≡ size
  long = whole.sized 1 page first

  module _ (image : Image) (found : raw.Recovers size image pages) where
    -- there is a database in its files
    something : ¬ IsNothing image
    something = begun size pages page large long begins.begins image found first

    -- with no log, the first page is that of the database file
    front : IsIgnored image.log → part image.db 0 size ≡ page
    front ignored =
        let none = none_replayed size image.log found.frames ignored found.replays in
        let alone : pages_after size image.log image.db 0 1 ≡ Some page = ap (λ (p : Pages). p 1)
        (ap (pages_after size image.log image.db) (sym none) ∙ found.gives) ∙ first in
        let start : (1 - 1) * size ≡ 0 = omega arith in
        ap (λ (at : ℕ). part image.db at size) (sym start)
        ∙ (page_from_pages size image.log image.db 0 1 page alone).0

    reaches : IsIgnored image.log → size ≤ length image.db
    reaches ignored =
        omega (arith, part_within image.db 0 size (omega (arith, large)) (ap length (front ignored) ∙ long))

    named_by_file : IsIgnored image.log → size_in_file image.db ≡ size
    named_by_file ignored =
        let byte = λ (k : ℕ) (low : k < size).
        ap (slice_index image.db) (sym (zero-add k)) ∙ sym (slice_index-part image.db 0 size k low)
        ∙ ap (λ (b : List ℕ). slice_index b k) (front ignored) in
        let named = ap₂ (λ (a b : ℕ). a * 256 + b) (byte 16 (omega (arith, large))) (byte 17 (omega (
          arith,
          large,
        ))) in
        let sized = rw (le-ltb (length page) 18 (omega (arith, long, large))) at begins.sized in
        rw (le-ltb (length image.db) 18 (omega (arith, reaches ignored, large)))
        (ap (λ (n : ℕ). cond (eqb n 1) 65536 n) named ∙ sized)

    -- a database in them has pages of that size
    module _ (used : ℕ) (shown : PageMap) (adopts : Adopts used image shown) where
      one_size : IsSoundFile used shown → stored_size used ≡ size
      one_size sound =
          let by_file = λ (ignored : IsIgnored image.log).
          sym (size_named used image shown ignored adopts sound (omega (arith, reaches ignored, large)))
          ∙ named_by_file ignored in
          elim found.replays [
            | inl ignored ↦ by_file ignored.0
            | inr ours ↦ elim adopts.found.replays [
              | inl ignored ↦ by_file ignored.0
              | inr theirs ↦ sym theirs.0.head.size ∙ ours.0.head.size
            ]
          ]

      same_stored : stored_size used ≡ size → adopts.stored ≡ pages
      same_stored same = recovers_once size image adopts.stored pages
          (subst (λ (n : ℕ). raw.Recovers n image adopts.stored) same adopts.found) found

      -- and its pages end in no checksums
      no_sums : IsSoundFile used shown → (stored_size used ≡ size) × (reserved used ≡ 0)
      no_sums sound =
          let same = one_size sound in
          let few : reserved used ≤ 8 = grind arith in
          let (stored, at, len, word, magic) = reserved_word used image shown adopts
          (omega (arith, large)) sound in
          let both : Some stored ≡ Some page = sym at ∙ ap (λ (p : Pages). p 1) (same_stored same) ∙ first in
          let is : stored ≡ page = cc in
          (same, omega (arith, word, ap (λ (b : List ℕ). be32 b 20) is, begins.plain))

  -- two images of these pages
  module _ (old new : Image) (before : raw.Recovers size old pages)
      (after : raw.Recovers size new pages) where
    again : (used : ℕ) → stored_size used ≡ size → (stored : Pages)
        → raw.Recovers (stored_size used) old stored → raw.Recovers (stored_size used) new stored
    again used same stored is =
        let one = recovers_once size old stored pages
        (subst (λ (n : ℕ). raw.Recovers n old stored) same is) before in
        subst (λ (n : ℕ). raw.Recovers n new stored) (sym same)
        (subst (λ (p : Pages). raw.Recovers size new p) (sym one) after)

    -- the database of the one is that of the other
    holds_too : (db : Trees) → HoldsDatabase old db → HoldsDatabase new db
    holds_too db held =
        let it = held.2 in
        let fits = no_sums old before held.0 it.pages it.found it.ours.file.sound in
        held_in old new db held fits.1 (again held.0 fits.0)

    finds_too : (db : Trees) → AreFoundIn old db → AreFoundIn new db
    finds_too db (inr (nothing, empty)) = absurd (something old before nothing)
    finds_too db (inl (used, shown, wanted, adopts, ours, reads)) =
        let fits = λ (it : IsOurs used true wanted shown).
        no_sums old before used shown adopts it.file.sound in
        let none = λ (x y : ⊥). absurd {A = x ≡ y} x in
        let same : stored_size used ≡ size = elim (cases_eq (stored_size used) size) [
          | inl is ↦ is
          | inr other ↦ absurd (∥∥₁_elim ours none (λ it. other (fits it).0))
        ] in
        let unsummed : reserved used ≡ 0 = elim (cases_eq (reserved used) 0) [
          | inl is ↦ is
          | inr other ↦ absurd (∥∥₁_elim ours none (λ it. other (fits it).1))
        ] in
        inl (
          used,
          shown,
          wanted,
          moved used shown old new adopts unsummed
              (again used same adopts.stored adopts.found),
          ours,
          reads,
        )

  -- images of these pages stand for each other
  pub stands : (old new : Image) → raw.Recovers size old pages → raw.Recovers size new pages
      → StandsFor old new
  stands old new before after = record {
    holds = holds_too old new before after;
    reads = finds_too new old after before;
    nothing = λ nothing. absurd (something old before nothing);
  }

pub stays_itself : (it : Image) → StandsFor it it
stays_itself it = record { holds = λ db held. held; reads = λ db found. found; nothing = λ none. none }

-- the pages that were recovered are committed in the log that was copied
pub copied_stands : {D : Type 0} {g : Ghosts D} (last : Log D g) → SeenMayStay g
    → IsTrue (log.state last).is_open → (size : ℕ) (pages : Pages) (page : List ℕ) (before : Image)
    → raw.Recovers size before pages
    → pages 1 ≡ Some page → BeginsPlain size page → last.page_size ≡ size → (log.state last).committed ≡ pages
    → (left : Image) → (log.state last).may_leave left → StandsFor before left
copied_stands last stays is_open size pages page before found first begins same kept left may =
    let it = settled last is_open stays in
    let large : 512 ≤ size = subst (λ (n : ℕ). 512 ≤ n) same last.smallest in
    let whole : AreWhole size pages = subst (λ (n : ℕ). AreWhole n pages) same
    (subst (λ (p : Pages). AreWhole last.page_size p) kept it.whole) in
    let now : raw.Recovers size left pages = subst (λ (n : ℕ). raw.Recovers n left pages) same
    (subst (λ (p : Pages). raw.Recovers last.page_size left p) kept (it.durable left may)) in
    stands size pages page large whole first begins before left found now

-- the files name a size of pages, and a first page of that size ends in no checksum
module _ (size : ℕ) (image : Image) (named : IsNamedPlain size image) where
  -- a database in them has pages of that size
  module _ (used : ℕ) (shown : PageMap) (adopts : Adopts used image shown) where
    size_of_pages : IsSoundFile used shown → stored_size used ≡ size
    size_of_pages sound =
        let by_file = λ (ignored : IsIgnored image.log).
        let it = named.by_file ignored in
        sym (size_named used image shown ignored adopts sound
        (named_within image.db (subst IsPageSize (sym it) named.sized))) ∙ it in
        let by_log = λ (head : IsHeader (stored_size used) (raw.header image.log))
        (long : 56 ≤ length image.log).
        let signed : ¬ IsIgnored image.log = λ ignored. elim ignored [
          | inl short ↦ omega (arith, long, short)
          | inr unsigned ↦ unsigned head.signed
        ] in
        sym (sym (be32-part image.log 0 32 8 (omega arith)) ∙ head.size) ∙ named.by_log signed in
        elim adopts.found.replays [
          | inl ignored ↦ by_file ignored.0
          | inr theirs ↦ elim (cases_lt (length image.log) 56) [
            | inl short ↦ by_file (inl short)
            | inr long ↦ by_log theirs.0.head long
          ]
        ]

    -- and its pages end in no checksums
    plain_pages : IsSoundFile used shown → (stored_size used ≡ size) × (reserved used ≡ 0)
    plain_pages sound =
        let same = size_of_pages sound in
        let few : reserved used ≤ 8 = grind arith in
        let large : 512 ≤ size = named.sized.0 in
        let (stored, at, len, word, magic) = reserved_word used image shown adopts
        (omega (arith, large)) sound in
        let here = subst (λ (n : ℕ). raw.Recovers n image adopts.stored) same adopts.found in
        (same, omega (arith, word, (named.head adopts.stored stored here at (len ∙ same)).1))

  holds_named : (new : Image) → RecoversAs size image new → HoldsAll image new
  holds_named new recovers db held =
      let it = held.2 in
      let fits = plain_pages held.0 it.pages it.found it.ours.file.sound in
      held_in image new db held fits.1 (λ pages found.
      subst (λ (n : ℕ). raw.Recovers n new pages) (sym fits.0)
      (recovers pages (subst (λ (n : ℕ). raw.Recovers n image pages) fits.0 found)))

  -- files in which there is none stand for no pages
  unread : IsNothing image → raw.IsUnreadable size image
  unread nothing pages found whole =
      let (page, is) = some_value (pages 1) whole.first in
      let long = whole.sized 1 page is in
      begun size pages page named.sized.0 long (named.head pages page found is long).0 image found is nothing

-- What a crash leaves of files once their log was recovered stands for the pages that were recovered. A crash
-- or an error on the way to their copy leaves the same.
module _ {D : Type 0} {g : Ghosts D} (it : Log D g) (stays : SeenMayStay g)
    (ready : IsTrue (log.state it).is_ready) (size : ℕ) (same : it.page_size ≡ size) (old : Image)
    (found : IsTrue (log.state it).is_clean → raw.Recovers size old (log.state it).committed)
    (before after : Image → Type 0) (adds : AddsNothing size (log.state it).may_leave after) where
  settles : IsTrue (log.state it).is_clean → IsSettled (log.state it)
  settles clean = settled it (open_from (log.state it) ready clean) stays

  pub kept_after : KeepsImage size old before after
  kept_after left may =
      let (mid, was, recovers) = adds left may in
      let pages = (log.state it).committed in
      inr (RecoversAs-from size old left pages (found was.0)
      (recovers pages (subst (λ (n : ℕ). raw.Recovers n mid pages) same ((settles was.0).durable mid was))))

  pub still_after : raw.IsUnreadable size old → (left : Image) → after left → before left
  still_after unread left may =
      let clean = (adds left may).1.0 in
      let pages = (log.state it).committed in
      absurd (unread pages (found clean)
      (subst (λ (n : ℕ). AreWhole n pages) same (settles clean).whole))

-- files that were named, and whose log was recovered and perhaps copied
pub keeps_database : {D : Type 0} {g : Ghosts D} (size : ℕ) (files left : Files D)
    → (AreClean g files.log files.db → IsNamedPlain size (image_of g files))
    → (AreClean g left.log left.db → AreClean g files.log files.db)
    → KeepsImage size (image_of g files)
    (λ image. AreClean g files.log files.db × outcomes g files.log files.db image)
    (λ image. AreClean g left.log left.db × outcomes g left.log left.db image)
    → (raw.IsUnreadable size (image_of g files) → (image : Image)
    → AreClean g left.log left.db × outcomes g left.log left.db image
    → AreClean g files.log files.db × outcomes g files.log files.db image)
    → AreClean g left.log left.db → KeepsDatabase g files left
keeps_database {g} size files left named honest kept still clean =
    let plain = named (honest clean) in record {
      left = λ image may. elim (kept image (clean, may)) [
        | inl was ↦ inl was.1
        | inr recovers ↦ inr (holds_named size (image_of g files) plain image recovers)
      ];
      none = λ nothing image may.
          (still (unread size (image_of g files) plain nothing) image (clean, may)).1;
    }

-- what a crash leaves of a log and a database file that are clean
abbrev LeavesOf : {D : Type 0} → Ghosts D → D × D → Image → Type 0
LeavesOf g pair left = AreClean g pair.0 pair.1 × outcomes g pair.0 pair.1 left

module _ {D : Type 0} {g : Ghosts D} where
  -- the same, by the logs that took the files
  pub keeps_log : (size : ℕ) (files left : Files D) (old new : Log D g)
      → (AreClean g files.log files.db → IsNamedPlain size (image_of g files))
      → ◌≡◌ {A = D × D} (log.files old) (files.log, files.db)
      → ◌≡◌ {A = D × D} (left.log, left.db) (log.files new)
      → old.page_size ≡ size → (IsTrue (log.state new).is_clean → IsTrue (log.state old).is_clean)
      → KeepsImage old.page_size (log.image old) (log.state old).may_leave (log.state new).may_leave
      → (raw.IsUnreadable old.page_size (log.image old) → (image : Image)
      → (log.state new).may_leave image → (log.state old).may_leave image)
      → AreClean g left.log left.db → KeepsDatabase g files left
  keeps_log size files left old new named was now same honest kept still =
      let honest_now = subst₂ (λ (a b : D × D). AreClean g b.0 b.1 → AreClean g a.0 a.1)
      was (sym now) honest in
      let kept_now = subst₂ (λ (a b : D × D).
      KeepsImage size (seen_image g a.0 a.1) (LeavesOf g a) (LeavesOf g b)) was (sym now)
      (subst (λ (n : ℕ). KeepsImage n (log.image old) (log.state old).may_leave (log.state new).may_leave)
      same kept) in
      let still_now = subst₂ (λ (a b : D × D). raw.IsUnreadable size (seen_image g a.0 a.1)
      → (image : Image) → LeavesOf g b image → LeavesOf g a image) was (sym now)
      (λ unread. still (subst (λ (n : ℕ). raw.IsUnreadable n (log.image old)) (sym same) unread)) in
      keeps_database size files left named honest_now kept_now still_now

  -- what is kept of files that were only read before
  pub keeps_read : (files read left : Files D) → OnlyReads g files.log read.log
      → OnlyReads g files.db read.db → KeepsDatabase g read left → KeepsDatabase g files left
  keeps_read files read left log db it =
      let same : image_of g read ≡ image_of g files = ap₂ image log.seen db.seen in
      let fewer = λ (i : Image) (may : outcomes g read.log read.db i).
      let r : outcomes g files.log files.db i = (log.crash i.log may.0, db.crash i.db may.1) in r in record {
        left = λ i may. elim (it.left i may) [
          | inl was ↦ inl (fewer i was)
          | inr holds ↦ inr (λ trees held.
              holds trees (subst (λ (j : Image). HoldsDatabase j trees) (sym same) held))
        ];
        none = λ nothing i may. fewer i (it.none (subst IsNothing (sym same) nothing) i may);
      }

-- what the old image holds and finds, the new one does
pub ledger_stands : (old new : Image) (L : Ledger) → StandsFor old new → ImageHoldsLedger old L
    → ImageHoldsLedger new L
unfolding Tables ImageHolds
ledger_stands old new L it (inl (tables, held, shows)) = inl (tables, it.holds tables held, shows)
ledger_stands old new L it (inr (nothing, none)) = inr (it.nothing nothing, none)

finds_stands : (old new : Image) (s : State) → StandsFor old new → FindsIn new s → FindsIn old s
finds_stands old new s it found = record {
  holds = λ db held. found.holds db (it.holds db held);
  reads = it.reads s.committed.trees found.reads;
}

module _ {D : Type 0} {g : Ghosts D} where
  -- a connection to the files whose log was copied comes from those that were
  pub comes_stands : {E : Type 0} (opened : Result (Held (FileStore D g)) E) (old new : Image) (copies : Bool)
      (Clean : Held (FileStore D g) → Type 0) (Was : Type 0)
      → IfOk opened (λ c. Clean c → Was) → (Was → StandsFor old new)
      → IfOk opened (λ c. Clean c → ComesFrom new copies c)
      → IfOk opened (λ c. Clean c → ComesFrom old copies c)
  comes_stands (Ok c) old new copies Clean Was honest stands from = λ clean.
      let it = stands (honest clean) in
      let was = from clean in (
        finds_stands old new (file_state c) it was.0,
        λ asked. let first = was.1 asked in (
          first.0,
          finds_stands old new (file_state first.0) it first.1,
          first.2,
        ),
      )
  comes_stands (Err e) old new copies Clean Was honest stands from = tt
