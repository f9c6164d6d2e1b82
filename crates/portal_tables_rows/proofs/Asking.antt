-- A text that writes nothing under any schema, whether it is understood or not.
use Rattle.portal_tables_rows.proofs.Common.{◌≡◌, inl, inr, ◌+◌, ℕ, List, [], None, Ok, Err, Result, refl}
use Rattle.portal_tables_rows.proofs.Common.{sym, ap, subst, ◌∙◌, cases_Bool, Schema, Command, reads_listing}
use Rattle.portal_tables_rows.proofs.Common.{listing_schema, is_select, if_select, Compiled, CompileError}
use Rattle.portal_tables_rows.proofs.Common.{IsText}
use Rattle.sqlite.specs.Listing.{understood}
use Rattle.portal_tables_sql.proofs.Texts.{same_value, compiled_ok, compiled_err}
use Rattle.sqlite_ast.specs.declared.Statement.{Statement}
use Rattle.sqlite_resolve.specs.declared.error.CompileError.TheVariants.{NoSuchTable}
use Rattle.sqlite_resolve.specs.Lowering.{Checked}
use Rattle.sqlite_resolve.specs.Compile.{compiled, returning, command, timed, small, with_command}

-- it has no RETURNING, and does not read the time
abbrev pub IsIdle : Compiled → Type 0
IsIdle c = (c.returning ≡ None) × (c.formats ≡ [])

pub no_value : {B E : Type 0} {a : E} {b : B} → ◌≡◌ {A = Result B E} (Err a) (Ok b) → ⊥
no_value e = cc

module _ (sql : List ℕ) (statement : Statement) (count : ℕ) (t : IsText sql statement count)
    (untimed : (schema : Schema) → timed schema [] statement ≡ [])
    (unshown : (schema : Schema) (base : ℕ) → returning schema base statement ≡ Ok None) where
  compiled_idle : (schema : Schema) (c : Compiled) → compiled schema sql ≡ Ok c → IsIdle c
  compiled_idle schema c is = go (command schema [] (small t.parsed.names + 0) statement) refl
    where
      go : (r : Checked Command) → command schema [] (small t.parsed.names + 0) statement ≡ r → IsIdle c
      go (Ok k) as_command =
          let e : with_command t.parsed ([], (k, None)) ≡ c = same_value (sym
          (compiled_ok schema sql statement count t (untimed schema) (unshown schema) k as_command) ∙ is) in
          (sym (ap (λ (x : Compiled). x.returning) e), sym (ap (λ (x : Compiled). x.formats) e))
      go (Err e) as_command = absurd (no_value (sym
          (compiled_err schema sql statement count t (untimed schema) (unshown schema) e as_command) ∙ is))

  listed_idle : (r : Result Compiled CompileError) (c : Compiled) → ((x : Compiled) → r ≡ Ok x → IsIdle x)
      → if_select r ≡ Ok c → IsIdle c
  listed_idle (Err e) c idle is = absurd (no_value is)
  listed_idle (Ok x) c idle is = elim (cases_Bool (is_select x.command)) [
    | inl chosen ↦ let e : x ≡ c = same_value (rw chosen at is) in subst IsIdle e (idle x refl)
    | inr other ↦ absurd (no_value (rw other at is))
  ]

  pub understood_idle : (schema : Schema) (c : Compiled) → understood schema sql ≡ Ok c → IsIdle c
  unfolding understood
  understood_idle schema c is = elim (cases_Bool (reads_listing schema sql)) [
    | inl listing ↦
        listed_idle (compiled listing_schema sql) c (compiled_idle listing_schema) (rw listing at is)
    | inr own ↦ compiled_idle schema c (rw own at is)
  ]

  -- a table that is not there, and is none of the list of tables
  pub lacking : (schema : Schema) → command schema [] (small t.parsed.names + 0) statement ≡ Err NoSuchTable
      → command listing_schema [] (small t.parsed.names + 0) statement ≡ Err NoSuchTable
      → understood schema sql ≡ Err NoSuchTable
  unfolding understood
  lacking schema is listed =
      let known =
      compiled_err schema sql statement count t (untimed schema) (unshown schema) NoSuchTable is in
      let other = compiled_err listing_schema sql statement count t (untimed listing_schema)
      (unshown listing_schema) NoSuchTable listed in
      rw (known, other) refl
