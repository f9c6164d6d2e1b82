use Rattle.portal_tables.proofs.StateLemmas.{released, released_honest, released_left}
use Rattle.portal_tables.proofs.tables.Tables.release.Goals as goal

pub returns-clause-represents : goal.returns-clause-represents
returns-clause-represents g c h at = released g.S.Store h c.args.self at

pub returns-clause-fault_free : goal.returns-clause-fault_free
returns-clause-fault_free g c clean = released_honest g.S.Store c.args.self clean

pub returns-clause-left : goal.returns-clause-left
returns-clause-left g c files may = released_left g.S.Store c.args.self files may
