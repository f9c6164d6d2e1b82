-- What the test of the indexes means.
use Rattle.portal_tables_rows.proofs.Common.{◌≡◌, ◌||◌, inl, inr, ℕ, Bool, true, List, [], ◌∷◌, Some}
use Rattle.portal_tables_rows.proofs.Common.{refl, sym, ap, ◌∙◌, true≢false, slice_get}
use Rattle.portal_tables_rows.proofs.Common.{option_and_then, list_any, cases_Bool, eqb-true, Schema}
use Rattle.portal_tables_rows.proofs.Common.{Index, table_named, Has, both, subst}
use Rattle.portal_tables_rows.proofs.Common.{TablePlaces, TablesExist, this_schema_version}
use Rattle.portal_tables_rows.proofs.Common.{Database, Contents}
use Rattle.portal_tables_rows.proofs.Common.{Holds, HoldsIn}
use Rattle.std.proofs.lemmas.Slice.Eq.{bytes_eq-Decides}
use Rattle.sqlite_rules.proofs.ListLemmas.{test_has}
use Rattle.portal_tables_sql.specs.Indexes.{described_index, our_indexes, HasOurIndex}
use Rattle.portal_tables_sql.specs.Tables.{Together, name_of, table_of}
use Rattle.portal_tables_sql.specs.declared.our_indexes.OurIndex.{OurIndex}
use Rattle.portal_tables_sql.proofs.TableLemmas.{name_is, tree_is}
use Rattle.portal_tables_rows.specs.SchemaVersions.{has_index_on, has_our_index, is_indexed, is_our_index}
use Rattle.portal_tables_rows.proofs.Indexing.{is_there}

any_of : {X : Type 0} (p : X → Bool) (xs : List X) → list_any p xs ≡ true → (x : X) × Has xs x × (p x ≡ true)
any_of p [] h = absurd (true≢false (sym h))
any_of p (y ∷ xs) h = elim (cases_Bool (p y)) [
  | inl on ↦ (y, inl refl, on)
  | inr off ↦ let it = any_of p xs (sym (ap (λ b. b || list_any p xs) off) ∙ h) in (it.0, inr it.1, it.2)
]

index_there : (x : OurIndex) (schema : Schema) (at tree : ℕ) → has_our_index schema x ≡ true
    → table_named schema (name_of (described_index x).table) ≡ Some at
    → slice_get schema.tables at ≡ Some (table_of (described_index x).table tree) → HasOurIndex x schema tree
index_there x schema at tree on named there =
    let table : option_and_then (slice_get schema.tables)
    (table_named schema (name_of (described_index x).table))
    ≡ Some (table_of (described_index x).table tree) =
    ap (option_and_then (slice_get schema.tables)) named ∙ there in
    let on_tree : list_any (is_our_index x (table_of (described_index x).table tree).tree) schema.indexes ≡
    true =
    sym (ap (has_index_on x schema.indexes) table) ∙ on in
    let any : list_any (is_our_index x tree) schema.indexes ≡ true =
    subst (λ n. list_any (is_our_index x n) schema.indexes ≡ true)
    (tree_is Together (described_index x).table tree) on_tree in
    let it = any_of (is_our_index x tree) schema.indexes any in
    let index : Index = it.0 in
    let parts = both _ _ it.2 in
    let rest = both _ _ parts.1 in (
      index,
      it.1,
      record {
        name = parts.0;
        table = eqb-true index.table tree rest.0;
        columns = (bytes_eq-Decides index.columns (described_index x).columns).0 rest.1;
      },
    )

pub indexed_stands : (schema : Schema) → is_indexed schema ≡ true → (places : TablePlaces)
    → TablesExist Together this_schema_version [] schema places
    → TablesExist Together this_schema_version our_indexes schema places
indexed_stands schema on places s = record {
  tables = s.tables;
  indexed = λ x has.
      let table = (described_index x).table in
      let there = (s.tables table (is_there x)).exists in
      index_there x schema (places table).at (places table).tree
      (test_has (has_our_index schema) our_indexes x on has)
      (subst (λ n. table_named schema n ≡ Some (places table).at) (name_is Together table (places table).tree)
      there.named) there.there;
}

-- the indexes are not asked for
pub less_indexed : (db : Database) (t : Contents) → Holds db t → HoldsIn this_schema_version [] db t
less_indexed db t h = record {
  places = h.places;
  tables_exist = record { tables = h.tables_exist.tables; indexed = λ x on. absurd on };
  store = h.store;
  sound = h.sound;
}
