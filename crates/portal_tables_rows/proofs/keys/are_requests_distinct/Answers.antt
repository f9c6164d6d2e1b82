use Rattle.portal_tables_rows.proofs.Common.{refl, IfOk-weaker}
use Rattle.portal_tables_rows.specs.Audit.{same_key}
use Rattle.portal_tables_rows.specs.Requests.{key_read}
use Rattle.portal_tables_rows.specs.contracts.stored_requests.RequestKeyPartialEq.TheImpl as derived
use Rattle.portal_tables_rows.proofs.KeyLemmas.{distinct_by}
use Rattle.portal_tables_rows.proofs.keys.are_requests_distinct.Goals as goal

pub returns-clause-distinct : goal.returns-clause-distinct
returns-clause-distinct c =
    let it = distinct_by derived.eq-value.it same_key key_read c.args.requests.items (λ x y h k. refl) in
    IfOk-weaker c.are_distinct.result _ _
    (λ distinct same. (λ on. it.0 (same.0 on), λ apart. same.1 (it.1 apart)))
    c.are_distinct.ensures.distinct
