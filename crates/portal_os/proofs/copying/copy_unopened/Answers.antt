use Rattle.portal_os.proofs.Common.{ap₂, sym, subst, image}
use Rattle.portal_os.proofs.CopyingLemmas.{keeps_read, stays_itself}
use Rattle.portal_os.specs.Copying.{StandsFor}
use Rattle.sqlite.specs.Files.{image_of}
use Rattle.portal_os.proofs.copying.copy_unopened.Goals as goal

pub returns-in-None-clause-seen : goal.returns-in-None-clause-seen
returns-in-None-clause-seen g c clean =
    subst (StandsFor (image_of g.D.Disk c.args.files))
    (sym (ap₂ image c.in-None.ensures.log.seen c.in-None.ensures.db.seen))
    (stays_itself (image_of g.D.Disk c.args.files))

pub returns-in-Err-clause-kept : goal.returns-in-Err-clause-kept
returns-in-Err-clause-kept g c clean =
    keeps_read c.args.files c.size_to_copy.new.files c.in-Err.left
    c.in-Some.ensures.log c.in-Some.ensures.db (c.in-Err.ensures.kept clean)
