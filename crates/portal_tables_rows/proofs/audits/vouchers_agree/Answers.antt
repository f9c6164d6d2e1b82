use Rattle.portal_tables_rows.proofs.Common.{map, count_read}
use Rattle.portal_tables_rows.proofs.audits.vouchers_agree.Goals as goal

pub returns-clause-agree : goal.returns-clause-agree
returns-clause-agree c =
    c.are_codes_among.ensures (map count_read c.args.counts.now) c.in_ok-codes.ensures.codes
