use Rattle.sqlite_store.specs.Laws.{settled_at}
use Rattle.portal_tables.proofs.OpeningLemmas.{closed_show, reopened_stands, unclosed_shows}
use Rattle.portal_tables.proofs.opening.reopen.Goals as goal

pub returns-in-Ok-open_files-clause-opened : goal.returns-in-Ok-open_files-clause-opened
returns-in-Ok-open_files-clause-opened g c h at clean =
    let again = c.in-Ok-open_files.again in
    reopened_stands h c.args.conn again c.in-Ok.files
    (λ db. settled_at again.store g.met.D.Disk.seen_may_stay db)
    at c.in-Ok.ensures.copied (c.in-Ok-open_files.ensures.opened clean)
    (c.in-Ok-open_files.ensures.found clean)

pub returns-in-Ok-open_files-clause-reopened : goal.returns-in-Ok-open_files-clause-reopened
returns-in-Ok-open_files-clause-reopened g c clean =
    let found = c.in-Ok-open_files.ensures.found clean in
    (c.in-Ok.files, c.in-Ok.ensures.copied found.honest, found)

pub returns-in-Ok-open_files-clause-live : goal.returns-in-Ok-open_files-clause-live
returns-in-Ok-open_files-clause-live g c clean = (c.in-Ok-open_files.ensures.opened clean).0.is_open

pub returns-in-Err-open_files-clause-fails_to_open : goal.returns-in-Err-open_files-clause-fails_to_open
returns-in-Err-open_files-clause-fails_to_open g c h at = (
  c.in-Ok.files,
  λ honest. closed_show h c.args.conn c.in-Ok.files at (c.in-Ok.ensures.copied honest)
      c.in-Err-open_files.left c.in-Err-open_files.ensures.unharmed,
)

pub returns-in-Err-clause-fails_to_open : goal.returns-in-Err-clause-fails_to_open
returns-in-Err-clause-fails_to_open g c h at =
    unclosed_shows h c.args.conn c.in-Err.store at c.in-Err.ensures.err.0.quiet
