use Rattle.std.proofs.Common.{sym, ◌∙◌}
use Rattle.portal_tables_rows.proofs.IndexedLemmas.{indexed_stands}
use Rattle.portal_tables_rows.proofs.schema_versions.is_indexed.Goals as goal

pub returns-clause-index : goal.returns-clause-index
returns-clause-index c on = indexed_stands c.args.schema.now (sym c.has_our_indexes-are_made.ensures ∙ on)
