use Rattle.portal_tables_rows.proofs.WritesLemmas.{writes_then}
use Rattle.portal_tables_rows.proofs.commands.apply_with_fingerprint.Goals as goal

pub returns : goal.returns
returns g c = writes_then g.S.Store c.in_ok-apply_changes.ensures c.insert_request_if_keyed.ensures
