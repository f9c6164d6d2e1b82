use Rattle.portal_tables_rows.proofs.Common.{◌≡◌, true, false, rules, IfOk-weaker}
use Rattle.portal_tables_rows.proofs.KeyLemmas.{refused}
use Rattle.portal_tables_rows.proofs.audits.rows_agree.Goals as goal

pub returns-then-not-branch-2-clause-agree : goal.returns-then-not-branch-2-clause-agree
returns-then-not-branch-2-clause-agree c t read batches counts totals requests =
    let off : c.in_ok-are_references_there.field-0 ≡ false = search rules in
    refused c.in_ok-are_references_there.field-0 off
    (c.in_ok-are_references_there.ensures.there t read batches counts) (λ all. all.1)

pub returns-clause-agree : goal.returns-clause-agree
returns-clause-agree c =
    let distinct : c.in_ok-are_keys_distinct.field-0 ≡ true = search rules in
    let there : c.in_ok-are_references_there.field-0 ≡ true = search rules in
    IfOk-weaker c.counters_agree.result _ _ (λ agree same t read batches counts totals requests.
    let it = same t read counts totals in (
      λ on. (
        (c.in_ok-are_keys_distinct.ensures.distinct t read batches counts requests).0 distinct,
        (c.in_ok-are_references_there.ensures.there t read batches counts).0 there,
        it.0 on,
      ),
      λ all. it.1 all.2,
    )) c.counters_agree.ensures.agree
