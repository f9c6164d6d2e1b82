use Rattle.portal_tables_rows.proofs.Common.{ap, ◌∙◌, map, bytes_eq, contains, list_any, take_all, text_of}
use Rattle.portal_tables_rows.proofs.Common.{CountRow, count_read}
use Rattle.portal_tables_rows.proofs.AuditLemmas.{counted_step}
use Rattle.portal_tables_rows.proofs.audits.counted_codes.Goals as goal

pub loop-count-preserved : goal.loop-count-preserved
loop-count-preserved c =
    counted_step c.args.counts.now c.loop-count.count-index c.count-item.result c.signs.ensures.code
    c.loop-count-test.true c.count-item.is (contains bytes_eq c.loop-count.codes)
    (contains bytes_eq c.insert.new.self) c.loop-count.invariant
    c.in_ok-insert.ensures.updates.0

pub returns-clause-codes : goal.returns-clause-codes
returns-clause-codes c = λ code is_code. c.loop-count.invariant code is_code
    ∙ ap (λ counts. list_any (λ (k : CountRow). bytes_eq k.code (text_of code)) (map count_read counts))
    (take_all c.loop-count.count-index c.args.counts.now c.loop-count-test.false)
