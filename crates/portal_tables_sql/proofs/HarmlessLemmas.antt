-- What the test of a schema means, and the query that reads no table.
use Rattle.portal_tables_sql.proofs.Common.{◌≡◌, ◌⊎◌, inl, inr, ℕ, List, Bool, true, false, ◌&&◌, ◌||◌, not}
use Rattle.portal_tables_sql.proofs.Common.{refl, ◌∙◌, Schema, State, IsUnchanged, NoAction, Restrict}
use Rattle.portal_tables_sql.proofs.Common.{Cascade, SetNull, SetDefault, test_has, IsUnactedBy, IsUndone}
use Rattle.portal_tables_sql.proofs.Common.{IsAsBefore}
use Rattle.sqlite_schema.specs.declared.schema.Action.{Action}
use Rattle.portal_tables_sql.specs.Harmless.{has_no_action, is_harmless, are_harmless}

idle_is : (a : Action) → has_no_action a ≡ true → a ≡ NoAction
idle_is NoAction e = refl
idle_is Restrict e = absurd (cc)
idle_is Cascade e = absurd (cc)
idle_is SetNull e = absurd (cc)
idle_is SetDefault e = absurd (cc)

harmless_by : (i j s : Bool) → ((i && j) || not s) ≡ true → ((i ≡ true) × (j ≡ true)) ⊎ (s ≡ false)
harmless_by true true s e = inl (refl, refl)
harmless_by i j false e = inr refl
harmless_by true false true e = absurd (cc)
harmless_by false j true e = absurd (cc)

-- a schema that passes the test has no foreign key that acts on a table of the name
pub unacted_of : (schema : Schema) (name : List ℕ) → are_harmless name schema ≡ true → IsUnactedBy schema name
unacted_of schema name all child ref listed has =
    let one =
    test_has (is_harmless name) child.references ref (test_has _ schema.tables child all listed) has in
    elim (harmless_by (has_no_action ref.on_delete) (has_no_action ref.on_update) _ one) [
      | inl idle ↦ inl (idle_is ref.on_delete idle.0, idle_is ref.on_update idle.1)
      | inr other ↦ inr other
    ]

pub both : (a b : Bool) → (a && b) ≡ true → (a ≡ true) × (b ≡ true)
both true b e = (refl, e)
both false b e = absurd (cc)

pub counts_of : (c s : Bool) → (not c || s) ≡ true → (c && not s) ≡ false
counts_of false s e = refl
counts_of true true e = refl
counts_of true false e = absurd (cc)

pub as_before : (old mid new : State) → IsUndone old mid → IsUnchanged mid new → IsAsBefore old new
as_before old mid new undone same = record {
  is_open = same.0.is_open;
  now = same.0.now_is ∙ undone.now same.0.was_open;
  committed = same.0.committed_is ∙ undone.committed same.0.was_open;
  ended = same.0.mode ∙ undone.ended;
}
