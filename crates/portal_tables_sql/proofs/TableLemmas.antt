-- What each description says of its table.
use Rattle.portal_tables_sql.proofs.Common.{◌≡◌, ◌≤◌, arith, inl, inr, ℕ, true, false, refl, Has}
use Rattle.portal_tables_sql.proofs.Common.{Table}
use Rattle.portal_tables_sql.proofs.Common.{Reference, NoAction}
use Rattle.sqlite_schema.specs.Names.{same_name}
use Rattle.std.specs.List.{AllByRecursion}
use Rattle.portal_tables_sql.proofs.Makes.{IsCreate}
use Rattle.portal_tables_sql.proofs.CreateTexts as texts
use Rattle.portal_tables_sql.specs.Tables.{Layout, Apart, Together, table_in, table_of, name_of, create_of}
use Rattle.portal_tables_sql.specs.Tables.{our_tables}
use Rattle.portal_tables_sql.specs.declared.our_tables.OurTable.{OurTable}
use Rattle.portal_tables_sql.specs.declared.our_tables.OurTable.TheVariants as our

-- what holds of each by itself
abbrev pub for_each : (P : OurTable → Type 0) → P our.Head → P our.Plans → P our.Batches → P our.Vouchers
    → P our.Sessions → P our.Grants → P our.Counts → P our.Totals → P our.Requests → (x : OurTable) → P x
for_each P a b c d e f g h i our.Head = a
for_each P a b c d e f g h i our.Plans = b
for_each P a b c d e f g h i our.Batches = c
for_each P a b c d e f g h i our.Vouchers = d
for_each P a b c d e f g h i our.Sessions = e
for_each P a b c d e f g h i our.Grants = f
for_each P a b c d e f g h i our.Counts = g
for_each P a b c d e f g h i our.Totals = h
for_each P a b c d e f g h i our.Requests = i

-- each is in the list
pub listed : (x : OurTable) → Has our_tables x
listed our.Head = inl refl
listed our.Plans = inr (inl refl)
listed our.Batches = inr (inr (inl refl))
listed our.Vouchers = inr (inr (inr (inl refl)))
listed our.Sessions = inr (inr (inr (inr (inl refl))))
listed our.Grants = inr (inr (inr (inr (inr (inl refl)))))
listed our.Counts = inr (inr (inr (inr (inr (inr (inl refl))))))
listed our.Totals = inr (inr (inr (inr (inr (inr (inr (inl refl)))))))
listed our.Requests = inr (inr (inr (inr (inr (inr (inr (inr (inl refl))))))))

-- the statement creates the table
pub creates : (x : OurTable) → IsCreate (create_of x) (table_of x 0)
creates our.Head = texts.makes_head
creates our.Plans = texts.makes_plans
creates our.Batches = texts.makes_batches
creates our.Vouchers = texts.makes_vouchers
creates our.Sessions = texts.makes_sessions
creates our.Grants = texts.makes_grants
creates our.Counts = texts.makes_counts
creates our.Totals = texts.makes_totals
creates our.Requests = texts.makes_requests

pub counts_none : (x : OurTable) → (table_of x 0).is_counted ≡ false
counts_none our.Head = refl
counts_none our.Plans = refl
counts_none our.Batches = refl
counts_none our.Vouchers = refl
counts_none our.Sessions = refl
counts_none our.Grants = refl
counts_none our.Counts = refl
counts_none our.Totals = refl
counts_none our.Requests = refl

-- the tree alone depends on the number
pub placed : (x : OurTable) (n : ℕ) → record (table_of x 0) { tree = n } ≡ table_of x n
placed our.Head n = refl
placed our.Plans n = refl
placed our.Batches n = refl
placed our.Vouchers n = refl
placed our.Sessions n = refl
placed our.Grants n = refl
placed our.Counts n = refl
placed our.Totals n = refl
placed our.Requests n = refl

pub tree_is : (layout : Layout) (x : OurTable) (n : ℕ) → (table_in layout x n).tree ≡ n
tree_is (Apart keyed) our.Head n = refl
tree_is (Apart keyed) our.Plans n = refl
tree_is (Apart keyed) our.Batches n = refl
tree_is (Apart keyed) our.Vouchers n = refl
tree_is (Apart keyed) our.Sessions n = refl
tree_is (Apart keyed) our.Grants n = refl
tree_is (Apart keyed) our.Counts n = refl
tree_is (Apart keyed) our.Totals n = refl
tree_is (Apart keyed) our.Requests n = refl
tree_is Together our.Head n = refl
tree_is Together our.Plans n = refl
tree_is Together our.Batches n = refl
tree_is Together our.Vouchers n = refl
tree_is Together our.Sessions n = refl
tree_is Together our.Grants n = refl
tree_is Together our.Counts n = refl
tree_is Together our.Totals n = refl
tree_is Together our.Requests n = refl

pub name_is : (layout : Layout) (x : OurTable) (n : ℕ) → (table_in layout x n).name ≡ name_of x
name_is (Apart keyed) our.Head n = refl
name_is (Apart keyed) our.Plans n = refl
name_is (Apart keyed) our.Batches n = refl
name_is (Apart keyed) our.Vouchers n = refl
name_is (Apart keyed) our.Sessions n = refl
name_is (Apart keyed) our.Grants n = refl
name_is (Apart keyed) our.Counts n = refl
name_is (Apart keyed) our.Totals n = refl
name_is (Apart keyed) our.Requests n = refl
name_is Together our.Head n = refl
name_is Together our.Plans n = refl
name_is Together our.Batches n = refl
name_is Together our.Vouchers n = refl
name_is Together our.Sessions n = refl
name_is Together our.Grants n = refl
name_is Together our.Counts n = refl
name_is Together our.Totals n = refl
name_is Together our.Requests n = refl

pub names_itself : (x : OurTable) → same_name (name_of x) (name_of x) ≡ true
unfolding same_name
names_itself our.Head = refl
names_itself our.Plans = refl
names_itself our.Batches = refl
names_itself our.Vouchers = refl
names_itself our.Sessions = refl
names_itself our.Grants = refl
names_itself our.Counts = refl
names_itself our.Totals = refl
names_itself our.Requests = refl

-- its foreign keys have NO ACTION
abbrev pub IsIdle : Table → Type 0
IsIdle table = AllByRecursion (λ (ref : Reference). (ref.on_delete ≡ NoAction) × (ref.on_update ≡ NoAction))
    table.references

pub idle : (x : OurTable) → IsIdle (table_of x 0)
idle = for_each _ tt tt tt tt tt tt tt tt tt

-- a table that each schema version has
pub always : (v : ℕ) → 0 ≤ v
always v = omega arith
