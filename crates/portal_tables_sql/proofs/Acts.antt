-- Where no foreign key acts, an edit is its one step.
use Rattle.portal_tables_sql.proofs.Common.{◌≡◌, inl, inr, ℕ, List, [], ◌∷◌, Option, Some, None, IfSome, refl}
use Rattle.portal_tables_sql.proofs.Common.{true, false, Bool, if◌then◌else◌, ◌==◌, ap, filter_map, ◌&&◌}
use Rattle.portal_tables_sql.proofs.Common.{Table, Schema, Enforced, Deferred, Off, Reference, NoAction}
use Rattle.portal_tables_sql.proofs.Common.{ParentKey, parent_key, Has, IsUnacted}
use Rattle.std.specs.List.{flat_map}
use Rattle.sqlite.specs.Order.{Row}
use Rattle.sqlite_schema.specs.declared.schema.Keys.{Keys}
use Rattle.sqlite_rules.specs.declared.action.Deed.{Deed}
use Rattle.sqlite_rules.specs.Action.{Work, works, work_by, deed_for, pairs}

none_mapped : {X Y : Type 0} (f : X → Option Y) (xs : List X)
    → ((x : X) → Has xs x → f x ≡ None) → filter_map f xs ≡ []
none_mapped f [] none = refl
none_mapped f (x ∷ xs) none = rw (none x (inl refl)) (none_mapped f xs (λ y h. none y (inr h)))

none_flat : {X Y : Type 0} (f : X → List Y) (xs : List X)
    → ((x : X) → Has xs x → f x ≡ []) → flat_map f xs ≡ []
none_flat f [] none = refl
none_flat f (x ∷ xs) none = rw (none x (inl refl)) (none_flat f xs (λ y h. none y (inr h)))

no_deed : (keys : Keys) (deletes : Bool) (ref : Reference) → ref.on_delete ≡ NoAction
    → ref.on_update ≡ NoAction → deed_for keys deletes ref ≡ None
no_deed Enforced true ref a b = rw a refl
no_deed Enforced false ref a b = rw b refl
no_deed Deferred true ref a b = rw a refl
no_deed Deferred false ref a b = rw b refl
no_deed Off deletes ref a b = refl

elsewhere : (depth tree : ℕ) (moves : List (Row × Row)) (child : Table) (ref : Reference) (deed : Option Deed)
    (key : Option ParentKey) → IfSome key (λ k. (k.0 == tree) ≡ false)
    → work_by depth tree moves child ref deed key ≡ None
elsewhere depth tree moves child ref None key other = refl
elsewhere depth tree moves child ref (Some deed) None other = refl
elsewhere depth tree moves child ref (Some deed) (Some key) other = rw other refl

pub no_works : (schema : Schema) (keys : Keys) (depth tree : ℕ) (olds news : List Row) → IsUnacted schema tree
    → works schema keys depth tree olds news ≡ []
no_works schema keys depth tree olds news unacted = none_flat _ schema.tables
    (λ child listed. none_mapped _ child.references (λ ref has. elim (unacted child ref listed has) [
      | inl idle ↦
          ap (λ deed. work_by depth tree (pairs olds news) child ref deed (parent_key schema.tables ref))
          (no_deed keys _ ref idle.0 idle.1)
      | inr away ↦ elsewhere depth tree (pairs olds news) child ref _ _ away
    ]))

-- rows that are put in where none is taken out set off nothing
pub no_takers : (schema : Schema) (keys : Keys) (depth tree : ℕ) (news : List Row)
    → works schema keys depth tree [] news ≡ []
no_takers schema keys depth tree news = none_flat _ schema.tables (λ child listed. none_mapped _
    child.references (λ ref has. still (deed_for keys _ ref) (parent_key schema.tables ref) child ref))
  where
    still : (deed : Option Deed) (key : Option ParentKey) (child : Table) (ref : Reference)
        → work_by depth tree [] child ref deed key ≡ None
    still None key child ref = refl
    still (Some deed) None child ref = refl
    still (Some deed) (Some key) child ref = off (key.0 == tree) (Some _)
      where
        off : (b : Bool) (w : Option Work) → (if b && false then w else None) ≡ None
        off true w = refl
        off false w = refl
