-- The words of other crates that the proofs cite, passed on from one place.
pub use Rattle.std.proofs.Common.{List, None, Option, Some, [], ap, ap₂, arith, false, inl, inr, length}
pub use Rattle.std.proofs.Common.{rules, subst, subst₂, suc, sym, true, true≢false, zero, ℕ, ◌<◌, ◌∙◌, ◌∷◌}
pub use Rattle.std.proofs.Common.{◌≡◌}
pub use Rattle.std.specs.Prelude.{Bool, Err, IfErr, IfOk, IsTrue, Ok, Result}
pub use Rattle.portal_os.specs.Opening.{AreCommitted, AreCopied, AreWhole, ComesFrom, HoldsCommits}
pub use Rattle.portal_os.specs.Opening.{IsAlone}
pub use Rattle.portal_ledger.specs.Ledger.{Ledger}
pub use Rattle.portal_tables.proofs.PathLemmas.{image}
pub use Rattle.portal_tables.specs.Images.{ImageHoldsLedger}
pub use Rattle.sqlite.specs.Closing.{HoldsAlone, IsCopied}
pub use Rattle.sqlite.specs.Files.{AreFoundIn, FailsToClose, HoldsDatabase, IsClosed, file_state, image_of}
pub use Rattle.sqlite.specs.Files.{over_files}
pub use Rattle.sqlite.specs.Held.{Held}
pub use Rattle.sqlite_disk.specs.declared.Disk.{Ghosts}
pub use Rattle.sqlite_disk.specs.declared.Files.{Files}
pub use Rattle.sqlite_store.specs.FileStore.{faults, is_shielded, recovers, view}
pub use Rattle.sqlite_wal.specs.Format.{be32}
pub use Rattle.sqlite_wal.specs.PageSize.{IsPageSize, Names, bytes_of}
pub use Rattle.sqlite_wal.specs.Reads.{AreClean}
pub use Rattle.sqlite_wal.specs.Recovery.{AreFramesOf, Image, IsCommitted, IsIgnored}
pub use Rattle.sqlite_wal.specs.declared.page_size.PageSize.{PageSize}
