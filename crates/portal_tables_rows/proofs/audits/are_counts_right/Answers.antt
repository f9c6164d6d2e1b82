use Rattle.portal_tables_rows.proofs.Common.{rules, tests, sym, ◌∙◌, YieldsList-from_slice}
use Rattle.portal_tables_rows.proofs.Common.{all_from_yields_List, list_all-map, CountValue, count_read}
use Rattle.portal_tables_rows.proofs.Common.{is_counted}
use Rattle.portal_tables_rows.proofs.audits.are_counts_right.Goals as goal

pub returns : goal.returns
returns c grants counted =
    all_from_yields_List (λ (k : CountValue). is_counted grants (count_read k)) _ _ _ c.all.ensures.ran
    (YieldsList-from_slice c.args.counts.now cc) (λ x b q k. search (rules, tests))
    ∙ sym (list_all-map (is_counted grants) count_read c.args.counts.now)
