use Rattle.portal_tables_rows.proofs.Common.{IfOk-weaker}
use Rattle.portal_tables_rows.proofs.KeyLemmas.{codes_distinct}
use Rattle.portal_tables_rows.proofs.keys.are_codes_distinct.Goals as goal

pub returns-clause-distinct : goal.returns-clause-distinct
returns-clause-distinct c all =
    let it = codes_distinct c.args.codes.items all in
    IfOk-weaker c.are_distinct.result _ _
    (λ distinct same. (λ on. it.0 (same.0 on), λ apart. same.1 (it.1 apart)))
    c.are_distinct.ensures.distinct
