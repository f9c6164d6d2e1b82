-- The indexes of this schema version.
use Rattle.std.specs.Prelude.{◌≡◌, true, [], ◌∷◌, codes, List, ℕ}
use Rattle.sqlite.specs.Schema.{Schema}
use Rattle.sqlite_schema.specs.declared.schema.Index.{Index}
use Rattle.sqlite_schema.specs.Names.{same_name}
use Rattle.sqlite_rules.specs.Lists.{Has}
use Rattle.portal_tables_sql.specs.declared.our_tables.OurTable.{OurTable}
use Rattle.portal_tables_sql.specs.declared.our_tables.OurTable.TheVariants as our
use Rattle.portal_tables_sql.specs.declared.our_indexes.OurIndex.{OurIndex}
use Rattle.portal_tables_sql.specs.declared.our_indexes.OurIndex.TheVariants as by

-- an index by its name, its table, the places of its columns in a row (0 is the rowid), and the statement
-- that creates it
pub record IndexDescription : Type 0 where
  pub name : List ℕ
  pub table : OurTable
  pub columns : List ℕ
  pub create : List ℕ

abbrev pub described_index : OurIndex → IndexDescription
described_index by.PlansById = record {
  name = codes "portal_plans_by_id";
  table = our.Plans;
  columns = 1 ∷ [];
  create = codes "CREATE INDEX portal_plans_by_id ON portal_plans (id)";
}
described_index by.BatchesById = record {
  name = codes "portal_batches_by_id";
  table = our.Batches;
  columns = 1 ∷ [];
  create = codes "CREATE INDEX portal_batches_by_id ON portal_batches (id)";
}
described_index by.BatchesByIssue = record {
  name = codes "portal_batches_by_issue";
  table = our.Batches;
  columns = 3 ∷ 1 ∷ [];
  create = codes "CREATE INDEX portal_batches_by_issue ON portal_batches (issued, id)";
}
described_index by.VouchersByCode = record {
  name = codes "portal_vouchers_by_code";
  table = our.Vouchers;
  columns = 1 ∷ [];
  create = codes "CREATE INDEX portal_vouchers_by_code ON portal_vouchers (code)";
}
described_index by.VouchersByBatch = record {
  name = codes "portal_vouchers_by_batch";
  table = our.Vouchers;
  columns = 2 ∷ 3 ∷ [];
  create = codes "CREATE INDEX portal_vouchers_by_batch ON portal_vouchers (batch_id, place)";
}
described_index by.SessionsByDevice = record {
  name = codes "portal_sessions_by_device";
  table = our.Sessions;
  columns = 2 ∷ 0 ∷ [];
  create = codes "CREATE INDEX portal_sessions_by_device ON portal_sessions (device, number)";
}
described_index by.GrantsByCode = record {
  name = codes "portal_grants_by_code";
  table = our.Grants;
  columns = 2 ∷ [];
  create = codes "CREATE INDEX portal_grants_by_code ON portal_grants (code)";
}
described_index by.RequestsByKey = record {
  name = codes "portal_requests_by_key";
  table = our.Requests;
  columns = 1 ∷ 2 ∷ [];
  create = codes "CREATE INDEX portal_requests_by_key ON portal_requests (caller, number)";
}

abbrev pub our_indexes : List OurIndex
our_indexes = by.PlansById ∷ by.BatchesById ∷ by.BatchesByIssue ∷ by.VouchersByCode ∷ by.VouchersByBatch
    ∷ by.SessionsByDevice ∷ by.GrantsByCode ∷ by.RequestsByKey ∷ []

-- the index of portal_counts, which schema version 5 has
abbrev pub old_index_name : List ℕ
old_index_name = codes "portal_counts_by_code"

-- the index is this one, on the table with the tree
pub record IsOurIndex (x : OurIndex) (index : Index) (tree : ℕ) : Type 0 where
  pub name : same_name index.name (described_index x).name ≡ true
  pub table : index.table ≡ tree
  pub columns : index.columns ≡ (described_index x).columns

-- the schema has it
abbrev pub HasOurIndex : OurIndex → Schema → ℕ → Type 0
HasOurIndex x schema tree = (index : Index) × Has schema.indexes index × IsOurIndex x index tree
