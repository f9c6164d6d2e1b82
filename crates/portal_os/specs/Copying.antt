-- Two files whose log is copied before they are opened.
use Rattle.std.specs.Prelude.{◌≡◌, ◌⊎◌, ℕ, List, Some, length, slice_index}
use Rattle.sqlite_disk.specs.declared.Disk.{Ghosts}
use Rattle.sqlite_disk.specs.declared.Files.{Files}
use Rattle.sqlite_wal.specs.Files.{outcomes}
use Rattle.sqlite_wal.specs.Format.{be32}
use Rattle.sqlite_wal.specs.PageSize.{IsPageSize, size_in_file}
use Rattle.sqlite_wal.specs.Recovery.{Image, IsIgnored, Pages, Recovers}
use Rattle.sqlite.specs.Files.{AreFoundIn, HoldsDatabase, IsNothing, image_of}
use Rattle.sqlite_trees.specs.Tree.{Trees}

-- The new image holds the database that the old one holds.
abbrev pub HoldsAll : Image → Image → Type 0
HoldsAll old new = (db : Trees) → HoldsDatabase old db → HoldsDatabase new db

-- The new image stands for the old one: it holds the database that the old one holds, and what an opening
-- finds in it is what it finds in the old one.
pub record StandsFor (old new : Image) : Type 0 where
  pub holds : HoldsAll old new
  pub reads : (db : Trees) → AreFoundIn new db → AreFoundIn old db
  pub nothing : IsNothing old → IsNothing new

-- The bytes begin a database with pages of this size, which end in no checksums.
pub record BeginsPlain (size : ℕ) (page : List ℕ) : Type 0 where
  pub begins : slice_index page 0 ≡ 83
  pub sized : size_in_file page ≡ size
  pub plain : be32 page 20 ≡ 0x0040_2020

-- The log, or else the file, names this size of pages; and a first page of that size begins a database whose
-- pages end in no checksums.
pub record IsNamedPlain (size : ℕ) (image : Image) : Type 0 where
  pub sized : IsPageSize size
  pub by_log : ¬ IsIgnored image.log → be32 image.log 8 ≡ size
  pub by_file : IsIgnored image.log → size_in_file image.db ≡ size
  pub head : (pages : Pages) (first : List ℕ) → Recovers size image pages → pages 1 ≡ Some first
      → length first ≡ size → (slice_index first 0 ≡ 83) × (be32 first 20 ≡ 0x0040_2020)

module _ {D : Type 0} (g : Ghosts D) where
  -- A crash leaves this image of the two files, and nothing else.
  abbrev pub LeavesImage : Image → Files D → Type 0
  LeavesImage image files = (left : Image) → outcomes g files.log files.db left → left ≡ image

  -- A crash leaves nothing of the two files that it did not leave before.
  abbrev pub LeavesNoMore : Files D → Files D → Type 0
  LeavesNoMore old new =
      (image : Image) → outcomes g new.log new.db image → outcomes g old.log old.db image

  -- A crash leaves of the two files what it left before, or what holds the database that they held. If they
  -- held none yet, it leaves what it left before.
  pub record KeepsDatabase (old new : Files D) : Type 0 where
    pub left : (image : Image) → outcomes g new.log new.db image
        → outcomes g old.log old.db image ⊎ HoldsAll (image_of g old) image
    pub none : IsNothing (image_of g old) → LeavesNoMore old new
