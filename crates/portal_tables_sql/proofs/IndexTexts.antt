-- The texts that create the indexes, under any schema that has their tables.
use Rattle.portal_tables_sql.proofs.Common.{◌≡◌, Ok, ℕ, false, true, refl, Index, index_defined_by}
use Rattle.portal_tables_sql.proofs.Common.{Table}
use Rattle.sqlite_schema.specs.Names.{same_name}
use Rattle.sqlite_value.specs.declared.keys.Order.{Order}
use Rattle.portal_tables_sql.proofs.IndexLemmas.{IsIndex}
use Rattle.portal_tables_sql.specs.Indexes.{described_index}
use Rattle.portal_tables_sql.specs.Tables.{table_of}
use Rattle.portal_tables_sql.specs.declared.our_indexes.OurIndex.{OurIndex}
use Rattle.portal_tables_sql.specs.declared.our_indexes.OurIndex.TheVariants as by
use Rattle.sqlite_tied.specs.Compute.{everything}

abbrev pub indexed_table : OurIndex → ℕ → Table
indexed_table x = table_of (described_index x).table

pub makes_index : (x : OurIndex) → IsIndex (described_index x).create (indexed_table x)
unfolding everything
makes_index by.PlansById = record {
  statement = _;
  text = record { parsed = _; read = refl; is = refl; timeless = refl; counted = refl; whole = refl };
  name = (described_index by.PlansById).name;
  untimed = λ schema. refl;
  unshown = λ schema base. refl;
  makes = λ schema at tree exists base. simp (exists.named, exists.there) refl;
  whole = refl;
}
makes_index by.BatchesById = record {
  statement = _;
  text = record { parsed = _; read = refl; is = refl; timeless = refl; counted = refl; whole = refl };
  name = (described_index by.BatchesById).name;
  untimed = λ schema. refl;
  unshown = λ schema base. refl;
  makes = λ schema at tree exists base. simp (exists.named, exists.there) refl;
  whole = refl;
}
makes_index by.BatchesByIssue = record {
  statement = _;
  text = record { parsed = _; read = refl; is = refl; timeless = refl; counted = refl; whole = refl };
  name = (described_index by.BatchesByIssue).name;
  untimed = λ schema. refl;
  unshown = λ schema base. refl;
  makes = λ schema at tree exists base. simp (exists.named, exists.there) refl;
  whole = refl;
}
makes_index by.VouchersByCode = record {
  statement = _;
  text = record { parsed = _; read = refl; is = refl; timeless = refl; counted = refl; whole = refl };
  name = (described_index by.VouchersByCode).name;
  untimed = λ schema. refl;
  unshown = λ schema base. refl;
  makes = λ schema at tree exists base. simp (exists.named, exists.there) refl;
  whole = refl;
}
makes_index by.VouchersByBatch = record {
  statement = _;
  text = record { parsed = _; read = refl; is = refl; timeless = refl; counted = refl; whole = refl };
  name = (described_index by.VouchersByBatch).name;
  untimed = λ schema. refl;
  unshown = λ schema base. refl;
  makes = λ schema at tree exists base. simp (exists.named, exists.there) refl;
  whole = refl;
}
makes_index by.SessionsByDevice = record {
  statement = _;
  text = record { parsed = _; read = refl; is = refl; timeless = refl; counted = refl; whole = refl };
  name = (described_index by.SessionsByDevice).name;
  untimed = λ schema. refl;
  unshown = λ schema base. refl;
  makes = λ schema at tree exists base. simp (exists.named, exists.there) refl;
  whole = refl;
}
makes_index by.GrantsByCode = record {
  statement = _;
  text = record { parsed = _; read = refl; is = refl; timeless = refl; counted = refl; whole = refl };
  name = (described_index by.GrantsByCode).name;
  untimed = λ schema. refl;
  unshown = λ schema base. refl;
  makes = λ schema at tree exists base. simp (exists.named, exists.there) refl;
  whole = refl;
}
makes_index by.RequestsByKey = record {
  statement = _;
  text = record { parsed = _; read = refl; is = refl; timeless = refl; counted = refl; whole = refl };
  name = (described_index by.RequestsByKey).name;
  untimed = λ schema. refl;
  unshown = λ schema base. refl;
  makes = λ schema at tree exists base. simp (exists.named, exists.there) refl;
  whole = refl;
}

-- the index that the text makes, whatever its order
abbrev pub index_at : OurIndex → ℕ → Order → Index
index_at x tree order = record {
  name = (described_index x).name;
  tree = 0;
  table = tree;
  columns = (described_index x).columns;
  order = order;
  is_unique = false;
}

pub index_defined : (x : OurIndex) (tree : ℕ) → (order : Order)
    × (index_defined_by (indexed_table x tree) (described_index x).create ≡ Ok (index_at x tree order))
unfolding everything
index_defined by.PlansById tree = (_, refl)
index_defined by.BatchesById tree = (_, refl)
index_defined by.BatchesByIssue tree = (_, refl)
index_defined by.VouchersByCode tree = (_, refl)
index_defined by.VouchersByBatch tree = (_, refl)
index_defined by.SessionsByDevice tree = (_, refl)
index_defined by.GrantsByCode tree = (_, refl)
index_defined by.RequestsByKey tree = (_, refl)

pub index_names_itself : (x : OurIndex) → same_name (described_index x).name (described_index x).name ≡ true
unfolding same_name
index_names_itself by.PlansById = refl
index_names_itself by.BatchesById = refl
index_names_itself by.BatchesByIssue = refl
index_names_itself by.VouchersByCode = refl
index_names_itself by.VouchersByBatch = refl
index_names_itself by.SessionsByDevice = refl
index_names_itself by.GrantsByCode = refl
index_names_itself by.RequestsByKey = refl
