use Rattle.portal_os.proofs.LeftLemmas.{read_holds}
use Rattle.portal_os.specs.Left.{given}
use Rattle.portal_os.proofs.opening.open_with_clock.Goals as goal

pub returns-in-Ok-open_database_files-clause-opens : goal.returns-in-Ok-open_database_files-clause-opens
returns-in-Ok-open_database_files-clause-opens g c =
    rw c.set_clock.ensures c.in-Ok-open_database_files.ensures.opens

pub returns-in-Err-clause-kept : goal.returns-in-Err-clause-kept
returns-in-Err-clause-kept g c L at = read_holds c.args.files c.args.files L (λ image may. may) at

pub returns-in-Err-clause-untouched : goal.returns-in-Err-clause-untouched
returns-in-Err-clause-untouched g c missing = given (λ image may. may)
