use Rattle.portal_os.proofs.ImageLemmas.{clean_disk, image_holds}
use Rattle.portal_os.proofs.ImageLemmas.{honest_by, may_leave_by}
use Rattle.portal_os.proofs.images.release_conn_files.Goals as goal

pub returns-clause-fault_free : goal.returns-clause-fault_free
returns-clause-fault_free g c honest =
    honest_by c.args.conn
    (clean_disk c.args.conn c.into_store-store.result
    c.close.result c.close.ensures c.into_store-store.ensures.quiet honest)

pub returns-clause-left : goal.returns-clause-left
returns-clause-left g c honest image may =
    let it = c.into_store-store.ensures in
    may_leave_by c.args.conn image
    (image_holds c.args.conn c.into_store-store.result
    c.close.result c.close.ensures it.quiet it.numbered it.sound honest image may)
