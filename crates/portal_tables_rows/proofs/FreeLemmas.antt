-- What the tests of a schema mean.
use Rattle.portal_tables_rows.proofs.Common.{◌≡◌, true, Schema, any_autoincrement, AreNamesFree}
use Rattle.portal_tables_rows.proofs.Common.{are_names_free}
use Rattle.sqlite_rules.proofs.ListLemmas.{test_has}
use Rattle.portal_tables_sql.specs.Harmless.{are_harmless}
use Rattle.portal_tables_sql.specs.Tables.{name_of, our_tables}
use Rattle.portal_tables_sql.proofs.HarmlessLemmas.{both, counts_of, unacted_of}
use Rattle.portal_tables_sql.proofs.TableLemmas.{listed}

pub free_is : (schema : Schema) → are_names_free schema ≡ true → AreNamesFree schema
free_is schema e =
    let parts = both _ _ e in
    record {
      numbered = counts_of (any_autoincrement schema) _ parts.0;
      unacted = λ x. unacted_of schema (name_of x)
          (test_has (λ y. are_harmless (name_of y) schema) our_tables x parts.1 (listed x));
    }
