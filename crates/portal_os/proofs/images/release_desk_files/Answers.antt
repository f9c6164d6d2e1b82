use Rattle.std.proofs.Math.Logic.{∥∥₁_map}
use Rattle.sqlite.specs.Files.{over_files}
use Rattle.portal_desk_store.specs.DeskRepresents.{IsCrashStateOfDesk}
use Rattle.portal_tables.specs.Images.{ImageHolds}
use Rattle.portal_tables.specs.TablesRepresent.{IsCrashStateOfConn, Files as Tables}
use Rattle.portal_os.proofs.ImageLemmas.{desk_leaves, state_left}
use Rattle.portal_os.proofs.images.release_desk_files.Goals as goal

pub returns-clause-left : goal.returns-clause-left
returns-clause-left g c honest s at image may =
    state_left s image (λ (tables : Tables). IsCrashStateOfConn over_files c.release.result tables)
    (λ tables left. desk_leaves over_files c.args.desk s at tables (c.release.ensures.left tables left))
    (c.release_conn_files.ensures.left honest image may)

pub returns-clause-kept : goal.returns-clause-kept
returns-clause-kept g c honest image may =
    ∥∥₁_map (c.release_conn_files.ensures.left honest image may) (λ it.
    let kept : (tables : Tables) × IsCrashStateOfDesk over_files c.args.desk tables
    × ImageHolds image tables = (it.0, c.release.ensures.left it.0 it.1, it.2) in kept)
