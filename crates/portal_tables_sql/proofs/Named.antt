-- That no foreign key acts on a table, by names: a CREATE TABLE does not change it.
use Rattle.portal_tables_sql.proofs.Common.{◌≡◌, ◌⊎◌, inl, inr, ℕ, List, [], ◌∷◌, ◌++◌, Option, Some, None}
use Rattle.portal_tables_sql.proofs.Common.{IfSome, refl, true, false, Bool, ◌==◌, ap, sym, ◌∙◌, find}
use Rattle.portal_tables_sql.proofs.Common.{cases_Bool, option_map, option_and_then, Table, Schema, Reference}
use Rattle.portal_tables_sql.proofs.Common.{NoAction, same_name, key_in, key_places, declared_order}
use Rattle.portal_tables_sql.proofs.Common.{ParentKey, Has, TableExists, IsUnacted, IsUnactedBy}
use Rattle.sqlite_value.specs.declared.keys.Order.{Order}
use Rattle.sqlite_catalog.specs.Change.{created}

pub has_part : {X : Type 0} (xs ys : List X) (x : X) → Has (xs ++ ys) x → Has xs x ⊎ Has ys x
has_part [] ys x h = inr h
has_part (y ∷ xs) ys x (inl e) = inl (inl e)
has_part (y ∷ xs) ys x (inr h) = elim (has_part xs ys x h) [ inl a ↦ inl (inr a) | inr b ↦ inr b ]

-- a table whose own keys have NO ACTION may be made beside it
pub still_unacted : (schema : Schema) (table : Table) (name : List ℕ)
    → ((ref : Reference) → Has table.references ref → (ref.on_delete ≡ NoAction) × (ref.on_update ≡ NoAction))
    → IsUnactedBy schema name → IsUnactedBy (created schema table) name
still_unacted schema table name idle h child ref listed has = elim (has_part schema.tables _ child listed) [
  | inl was ↦ h child ref was has
  | inr (inl new) ↦ inl (idle ref (rw (ap (λ (t : Table). t.references) new) at has))
  | inr (inr none) ↦ absurd none
]

pub found_has : {X : Type 0} (p : X → Bool) (xs : List X) (x : X) → find p xs ≡ Some x
    → Has xs x × (p x ≡ true)
found_has p [] x is = absurd cc
found_has p (y ∷ xs) x is = elim (cases_Bool (p y)) [
  | inl on ↦ let same : ◌≡◌ {A = Option _} (Some y) (Some x) = rw on at is in
      let e : y ≡ x = cc in
      (inl (sym e), ap p (sym e) ∙ on)
  | inr off ↦ let r = found_has p xs x (rw off at is) in (inr r.0, r.1)
]

abbrev keyed : ℕ → List ℕ → Order → ParentKey
keyed tree places o = (tree, places, o)

keyed_by : (tree : ℕ) (t : Table) (places : Option (List ℕ)) → (t.tree == tree) ≡ false
    → IfSome (option_and_then (key_in t) places) (λ (key : ParentKey). (key.0 == tree) ≡ false)
keyed_by tree t None other = tt
keyed_by tree t (Some places) other = ordered (declared_order t places)
  where
    ordered : (o : Option Order)
        → IfSome (option_map (keyed t.tree places) o) (λ (key : ParentKey). (key.0 == tree) ≡ false)
    ordered None = tt
    ordered (Some o) = other

-- no other table has its tree
pub unacted_by : (schema : Schema) (at : ℕ) (table : Table) → TableExists schema at table
    → IsUnactedBy schema table.name → IsUnacted schema table.tree
unacted_by schema at table exists h child ref listed has = elim (h child ref listed has) [
  | inl idle ↦ inl idle
  | inr other ↦ inr (away other (find (λ t. same_name t.name ref.parent) schema.tables) refl)
]
  where
    away : same_name table.name ref.parent ≡ false → (got : Option Table)
        → find (λ t. same_name t.name ref.parent) schema.tables ≡ got
        → IfSome (option_and_then (λ t. option_and_then (key_in t) (key_places t ref.parent_columns)) got)
        (λ (key : ParentKey). (key.0 == table.tree) ≡ false)
    away other None is = tt
    away other (Some t) is =
        let found = found_has (λ (u : Table). same_name u.name ref.parent) schema.tables t is in
        keyed_by table.tree t (key_places t ref.parent_columns) (elim (cases_Bool (t.tree == table.tree)) [
          | inl same ↦ absurd (let e = exists.only t found.0 same in let clash : true ≡ false =
              sym found.1 ∙ ap (λ (u : Table). same_name u.name ref.parent) e ∙ other in cc)
          | inr off ↦ off
        ])
