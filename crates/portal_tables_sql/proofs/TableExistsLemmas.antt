-- A table still exists after another one is created, and one that is created exists.
use Rattle.portal_tables_sql.proofs.Common.{◌≡◌, inl, inr, ℕ, zero, suc, ◌||◌, ◌+◌, ◌^◌, ◌<◌, ◌≤◌, ◌==◌}
use Rattle.portal_tables_sql.proofs.Common.{nat_le, max, List, [], ◌∷◌, ◌++◌, Option, Some, None, is_some}
use Rattle.portal_tables_sql.proofs.Common.{slice_get, find, fold, refl, true, false, Bool, ap, sym, ◌∙◌}
use Rattle.portal_tables_sql.proofs.Common.{length, arith, filter, zero-add, ne_eqb, eq-eqb, nat_tests}
use Rattle.portal_tables_sql.proofs.Common.{position_from, cases_Bool, Index, Schema, Table, Trees}
use Rattle.portal_tables_sql.proofs.Common.{table_named, same_name, Has, IsSound, IsTableRow, is_table_row}
use Rattle.portal_tables_sql.proofs.Common.{place_has, catalog_tree, TableExists}
use Rattle.sqlite_catalog.specs.Change.{created, next_tree, past_views, is_used}
use Rattle.sqlite_catalog.proofs.ListFacts.{most_from, most_above}
use Rattle.sqlite_catalog.proofs.LayoutLemmas.{zipped_left}
use Rattle.portal_tables_sql.proofs.Named.{has_part}

module _ {X : Type 0} (p : X → Bool) where
  pub placed_before : (from at : ℕ) (xs ys : List X) → position_from p from xs ≡ Some at
      → position_from p from (xs ++ ys) ≡ Some at
  placed_before from at [] ys is = absurd cc
  placed_before from at (x ∷ xs) ys is = elim (cases_Bool (p x)) [
    | inl e ↦ rw e (rw e at is)
    | inr n ↦ rw n (placed_before (from + 1) at xs ys (rw n at is))
  ]

  placed_last : (from : ℕ) (xs : List X) (x : X) → position_from p from xs ≡ None → p x ≡ true
      → position_from p from (xs ++ x ∷ []) ≡ Some (from + length xs)
  placed_last from [] x none hit = rw hit (ap Some (omega arith))
  placed_last from (y ∷ xs) x none hit = elim (cases_Bool (p y)) [
    | inl here ↦ absurd (let e = rw here at none in cc)
    | inr n ↦ rw n (placed_last (from + 1) xs x (rw n at none) hit ∙ ap Some (omega arith))
  ]

  found_before : (x : X) (xs ys : List X) → find p xs ≡ Some x → find p (xs ++ ys) ≡ Some x
  found_before x [] ys is = absurd cc
  found_before x (y ∷ xs) ys is = elim (cases_Bool (p y)) [
    | inl e ↦ rw e (rw e at is)
    | inr n ↦ rw n (found_before x xs ys (rw n at is))
  ]

  found_last : (xs : List X) (x : X) → ((y : X) → Has xs y → p y ≡ false) → p x ≡ true
      → find p (xs ++ x ∷ []) ≡ Some x
  found_last [] x none hit = rw hit refl
  found_last (y ∷ xs) x none hit = rw (none y (inl refl)) (found_last xs x (λ z h. none z (inr h)) hit)

pub got_before : {X : Type 0} (at : ℕ) (x : X) (xs ys : List X) → slice_get xs at ≡ Some x
    → slice_get (xs ++ ys) at ≡ Some x
got_before at x [] ys is = absurd cc
got_before zero x (z ∷ xs) ys is = is
got_before (suc at) x (z ∷ xs) ys is = got_before at x xs ys is

got_last : {X : Type 0} (xs : List X) (x : X) → slice_get (xs ++ x ∷ []) (length xs) ≡ Some x
got_last [] x = refl
got_last (y ∷ xs) x = got_last xs x

same_itself : (schema : Schema) (table : Table) → is_used schema table.name ≡ false
    → table_named schema table.name ≡ None
same_itself schema table free = none_of (table_named schema table.name) (or_false _ _ (or_false _ _ free).0).0
  where
    or_false : (a b : Bool) → (a || b) ≡ false → (a ≡ false) × (b ≡ false)
    or_false true b e = absurd cc
    or_false false b e = (refl, e)

    none_of : (o : Option ℕ) → is_some o ≡ false → o ≡ None
    none_of None e = refl
    none_of (Some n) e = absurd cc

-- a tree that a database lists is low
low_tree : (schema : Schema) (db : Trees) (table : Table) → IsSound schema db
    → Has schema.tables table → table.tree < 65536
low_tree schema db table sound has =
    let r = zipped_left IsTableRow (filter is_table_row (db catalog_tree)) schema.tables table
    sound.lists.listed.tables has in
    r.2.described.low

not_le : (n : ℕ) → n < 65536 → nat_le (2 ^ 31) n ≡ false
not_le n low = grind (arith, nat_tests)

pub has_last : {X : Type 0} (xs : List X) (x : X) → Has (xs ++ x ∷ []) x
has_last [] x = inl refl
has_last (y ∷ xs) x = inr (has_last xs x)

below_next : (schema : Schema) (t : Table) → Has schema.tables t → t.tree < next_tree schema
below_next schema t has =
    let tables : ℕ = fold (λ n (u : Table). max n (u.tree + 1)) (past_views schema) schema.tables in
    let first : t.tree < tables =
    most_above (λ (u : Table). u.tree) (past_views schema) schema.tables t has in
    let more : tables ≤ next_tree schema = most_from (λ (i : Index). i.tree) tables schema.indexes in
    omega arith

pub still_stands : (schema : Schema) (at : ℕ) (table made : Table) → TableExists schema at table
    → TableExists (created schema made) at table
still_stands schema at table made h = record {
  named = placed_before _ 0 at schema.tables _ h.named;
  there = got_before at table schema.tables _ h.there;
  low = h.low;
  typed = found_before _ table schema.tables _ h.typed;
  only = λ t listed same. elim (has_part schema.tables _ t listed) [
    | inl was ↦ h.only t was same
    | inr (inl new) ↦
        let low : table.tree < next_tree schema =
        below_next schema table (place_has schema.tables at table h.there) in
        let off : (next_tree schema == table.tree) ≡ false =
        ne_eqb (next_tree schema) table.tree (omega arith) in
        absurd
        (let clash : true ≡ false = sym same ∙ ap (λ (u : Table). u.tree == table.tree) new ∙ off in cc)
    | inr (inr none) ↦ absurd none
  ];
}

pub now_stands : (schema : Schema) (db : Trees) (table : Table) → is_used schema table.name ≡ false
    → same_name table.name table.name ≡ true → IsSound (created schema table) db
    → TableExists (created schema table) (length schema.tables) (record table { tree = next_tree schema })
now_stands schema db table free itself sound =
    let new : Table = record table { tree = next_tree schema } in
    let low : next_tree schema < 65536 =
    low_tree (created schema table) db new sound (has_last schema.tables new) in
    record {
      named = placed_last _ 0 schema.tables new (same_itself schema table free) itself
          ∙ ap Some (zero-add (length schema.tables));
      there = got_last schema.tables new;
      low = not_le (next_tree schema) low;
      typed = found_last _ schema.tables new (λ t has. let up : t.tree < next_tree schema =
          below_next schema t has in ne_eqb t.tree (next_tree schema) (omega arith)) (eq-eqb _ _ refl);
      only = λ t listed same. elim (has_part schema.tables _ t listed) [
        | inl was ↦
            let up : t.tree < next_tree schema = below_next schema t was in
            let off : (t.tree == next_tree schema) ≡ false = ne_eqb t.tree (next_tree schema) (omega arith) in
            absurd (let clash : true ≡ false = sym same ∙ off in cc)
        | inr (inl it) ↦ it
        | inr (inr none) ↦ absurd none
      ];
    }
