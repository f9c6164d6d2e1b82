use Rattle.portal_tables_rows.proofs.Common.{◌≡◌, All, map, take, text_of, IsCode, count_read}
use Rattle.portal_tables_rows.proofs.keys.codes_of_counts.Given as goal

abbrev pub invariant-loop-count : goal.invariant-loop-count
invariant-loop-count l = record {
  read : map text_of l.codes.items ≡ map (λ x. (count_read x).code) (take l.count-index l.counts);
  codes : All IsCode l.codes.items;
}
