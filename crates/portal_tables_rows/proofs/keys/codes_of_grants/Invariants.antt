use Rattle.portal_tables_rows.proofs.Common.{◌≡◌, All, map, take, text_of, IsCode, grant_read}
use Rattle.portal_tables_rows.proofs.keys.codes_of_grants.Given as goal

abbrev pub invariant-loop-grant : goal.invariant-loop-grant
invariant-loop-grant l = record {
  read : map text_of l.codes.items ≡ map (λ x. (grant_read x).code) (take l.grant-index l.grants);
  codes : All IsCode l.codes.items;
}
