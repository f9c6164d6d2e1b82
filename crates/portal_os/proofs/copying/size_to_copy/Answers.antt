use Rattle.portal_os.proofs.Common.{◌∙◌, List, ℕ, Option, Files, Image, IsIgnored, Names, PageSize}
use Rattle.portal_os.proofs.Common.{ap, ap₂, be32, bytes_of, image, subst, sym}
use Rattle.std.proofs.lemmas.Bool.{and_from}
use Rattle.sqlite_wal.proofs.CleanLemmas.{halves}
use Rattle.sqlite_wal.specs.PageSize.{size_in_file}
use Rattle.sqlite_wal.specs.Recovery.{Recovers}
use Rattle.portal_os.proofs.copying.size_to_copy.Goals as goal

pub returns-then-word-eq-NO_SUMS-clause-named : goal.returns-then-word-eq-NO_SUMS-clause-named
returns-then-word-eq-NO_SUMS-clause-named g c clean =
    let disk = g.D.Disk in
    let size : PageSize = c.in-Ok-Some.size in
    let named : Files _ = c.probe_page_size.new.files in
    let last : Files _ = c.probe_first_page.new.files in
    let half = halves disk last.log last.db clean in
    let before = and_from (disk.is_clean named.log) (disk.is_clean named.db)
    (c.probe_first_page.ensures.log.clean half.0) (c.probe_first_page.ensures.db.clean half.1) in
    let log = c.len.ensures.seen in
    let same = ap₂ image (c.probe_page_size.ensures.log.seen ∙ log) c.probe_page_size.ensures.db.seen in
    let is = c.in-Ok-Some.field-0-is in record {
      sized = (size.smallest, size.largest, size.power, size.aligned);
      by_log = λ read.
          let it = subst (λ (f : Option PageSize). Names f (be32 (disk.seen c.len.new.self) 8)) is
          (c.in-Ok-Some.ensures.by_log before (λ ignored. read (subst IsIgnored log ignored))) in
          sym (it.1 ∙ ap (λ (b : List ℕ). be32 b 8) log);
      by_file = λ ignored.
          let it = subst (λ (f : Option PageSize). Names f (size_in_file (disk.seen c.args.files.now.db))) is
          (c.in-Ok-Some.ensures.by_file before (subst IsIgnored (sym log) ignored)) in
          sym it.1;
      head = λ pages first recovers at long.
          let it = c.in-Ok-probe_first_page.ensures.value clean pages first
          (subst (λ (i : Image). Recovers (bytes_of size) i pages) (sym same) recovers) at long in
          (sym it.0 ∙ c.if-first-eq83.true, sym it.1 ∙ c.if-word-eq-NO_SUMS.true);
    }
