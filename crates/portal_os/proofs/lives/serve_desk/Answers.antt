use Rattle.portal_os.proofs.Common.{ap, ◌∙◌, over_files}
use Rattle.std.specs.Prelude.{◌++◌}
use Rattle.portal_desk_store.specs.DeskRepresents.{IsCrashStateOfDesk, settings_of}
use Rattle.portal_os.proofs.LifeLemmas.{survived}
use Rattle.portal_os.proofs.lives.serve_desk.Goals as goal

pub returns : goal.returns
returns g c L represents honest image may =
    let fault_free = c.release_desk_files.ensures.fault_free honest in
    let (responses, more, survives) =
    c.run.ensures.survives fault_free L (represents (c.run.ensures.fault_free fault_free)) in
    survived (settings_of c.args.desk) L c.args.arrivals.now c.run.new.out.items responses
    (λ tables. IsCrashStateOfDesk over_files c.run.new.desk tables) image
    (more ∙ ap (λ rs. rs ++ responses) c.new-responses.ensures.items) survives
    (c.release_desk_files.ensures.kept honest image may)
