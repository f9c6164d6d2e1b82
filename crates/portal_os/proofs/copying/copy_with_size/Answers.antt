use Rattle.portal_os.proofs.Common.{bytes_of}
use Rattle.portal_os.proofs.CopyingLemmas.{keeps_log}
use Rattle.portal_os.proofs.copying.copy_with_size.Goals as goal

pub returns-in-Ok-new-clause-kept : goal.returns-in-Ok-new-clause-kept
returns-in-Ok-new-clause-kept g c =
    keeps_log (bytes_of c.args.size) c.args.files c.into_files-in-Err-recover_and_copy.result
    c.in-Ok-new.log c.recover_and_copy.new.log c.requires.named c.in-Ok-new.ensures.files
    c.into_files-in-Err-recover_and_copy.ensures c.in-Ok-new.ensures.size
    c.recover_and_copy.ensures.honest c.recover_and_copy.ensures.kept c.recover_and_copy.ensures.still
