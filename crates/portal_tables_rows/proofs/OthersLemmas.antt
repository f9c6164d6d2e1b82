-- Statements on the product's tables keep the rows of the other tables.
use Rattle.portal_tables_rows.proofs.Common.{◌≡◌, true, true≢false, refl, sym, ap, subst, ◌∙◌, Schema, Table}
use Rattle.portal_tables_rows.proofs.Common.{Database, Has, is_own, KeepsOthers}
use Rattle.sqlite_schema.specs.Names.{same_name}
use Rattle.portal_tables_sql.specs.Tables.{name_of}
use Rattle.portal_tables_sql.specs.declared.our_tables.OurTable.{OurTable}
use Rattle.portal_tables_sql.specs.declared.our_tables.OurTable.TheVariants as our
use Rattle.portal_tables_rows.proofs.HoldsLemmas.{Touches}

-- ---- our names

pub own_named : (x : OurTable) → is_own (name_of x) ≡ true
unfolding same_name
own_named our.Head = refl
own_named our.Plans = refl
own_named our.Batches = refl
own_named our.Vouchers = refl
own_named our.Sessions = refl
own_named our.Grants = refl
own_named our.Counts = refl
own_named our.Totals = refl
own_named our.Requests = refl

-- ---- statements

pub kept_others : (db : Database) (table : Table) (after : Database) → is_own table.name ≡ true
    → Touches db table after → KeepsOthers db after
kept_others db table after own k x has other = (
  subst (λ (s : Schema). Has s.tables x) (sym k.schema) has,
  k.beside x has (λ is. true≢false (sym own ∙ ap (λ (t : Table). is_own t.name) (sym is) ∙ other)),
)

pub others_none : (db : Database) → KeepsOthers db db
others_none db x has other = (has, refl)

pub others_then : (a b c : Database) → KeepsOthers a b → KeepsOthers b c → KeepsOthers a c
others_then a b c p q x has other =
    let one = p x has other in
    let two = q x one.0 other in
    (two.0, two.1 ∙ one.1)
