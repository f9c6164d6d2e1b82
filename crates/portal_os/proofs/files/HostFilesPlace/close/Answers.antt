use Rattle.portal_os.proofs.files.HostFilesPlace.close.Goals as goal

pub returns-in-Ok-clause-closed : goal.returns-in-Ok-clause-closed
returns-in-Ok-clause-closed g c = λ honest. (c.in-Ok.ensures.copied honest, c.in-Ok.ensures.whole honest)

pub returns-in-Err-clause-fails : goal.returns-in-Err-clause-fails
returns-in-Err-clause-fails g c = c.in-Err.ensures.left
