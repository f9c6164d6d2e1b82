use Rattle.portal_tables_rows.proofs.Common.{map, grant_read}
use Rattle.portal_tables_rows.proofs.audits.counts_agree.Goals as goal

pub returns-clause-agree : goal.returns-clause-agree
returns-clause-agree c =
    c.are_counts_right.ensures (map grant_read c.args.grants.now) c.in_ok-uses.ensures.uses
