-- Copying the rows of a table: what is read of them, and what inserting them makes of the rows.
use Rattle.std.specs.Prelude.{◌≡◌, List, [], ◌∷◌, map}
use Rattle.sqlite.specs.Order.{Row}
use Rattle.sqlite.specs.State.{State}
use Rattle.std.specs.Prelude.{true}
use Rattle.portal_model.specs.declared.plan.Plan.{Plan}
use Rattle.portal_model.specs.declared.record.Batch.{Batch}
use Rattle.portal_model.specs.Rows.{GrantRow}
use Rattle.portal_ledger.specs.RequestRow.{RequestRow}
use Rattle.portal_tables_sql.specs.declared.copied_tables.CopiedTable.{CopiedTable}
use Rattle.portal_tables_sql.specs.declared.copied_tables.CopiedTable.TheVariants as copied
use Rattle.portal_tables_rows.specs.Contents.{Contents, HeadRow, head_cells, plan_cells, batch_cells}
use Rattle.portal_tables_rows.specs.Contents.{grant_cells, request_cells}
use Rattle.portal_tables_rows.specs.Holds.{Holds}
use Rattle.portal_tables_rows.specs.Others.{KeepsOthers}
use Rattle.portal_tables_rows.specs.Steps.{with_head, with_plan, with_batch, with_grant, with_request}
use Rattle.portal_tables_rows.specs.declared.copies.WholeTable.{WholeTable}

-- the columns of each row of the table, as SELECT gives them
abbrev pub cells_of : CopiedTable → Contents → List Row
cells_of copied.Head t = map head_cells t.heads
cells_of copied.Plans t = map plan_cells t.plans
cells_of copied.Batches t = map batch_cells t.batches
cells_of copied.Grants t = map grant_cells t.grants
cells_of copied.Requests t = map request_cells t.requests

-- a table with what was read of it
abbrev pub table_read : WholeTable → CopiedTable × List Row
table_read w = (w.table, w.rows.items)

-- just these tables were read, and of each all of its rows
abbrev pub AreRead : List WholeTable → List CopiedTable → Contents → Type 0
AreRead read tables t = map table_read read ≡ map (λ x. (x, cells_of x t)) tables

-- ---- rows that are added

-- t with one row more of the table, which shows these cells
abbrev pub AddsRow : CopiedTable → Row → Contents → Contents → Type 0
AddsRow copied.Head row t now = (p : HeadRow) × (head_cells p ≡ row) × (now ≡ with_head p t)
AddsRow copied.Plans row t now = (p : Plan) × (plan_cells p ≡ row) × (now ≡ with_plan p t)
AddsRow copied.Batches row t now = (p : Batch) × (batch_cells p ≡ row) × (now ≡ with_batch p t)
AddsRow copied.Grants row t now = (p : GrantRow) × (grant_cells p ≡ row) × (now ≡ with_grant p t)
AddsRow copied.Requests row t now = (p : RequestRow) × (request_cells p ≡ row) × (now ≡ with_request p t)

-- from t to now, one step for each element
abbrev pub Chain : {X : Type 0} → (X → Contents → Contents → Type 0) → List X → Contents → Contents → Type 0
Chain Step [] t now = now ≡ t
Chain Step (x ∷ xs) t now = (mid : Contents) × Step x t mid × Chain Step xs mid now

abbrev pub AddsRows : CopiedTable → List Row → Contents → Contents → Type 0
AddsRows x = Chain (AddsRow x)

abbrev pub AddsTables : List (CopiedTable × List Row) → Contents → Contents → Type 0
AddsTables = Chain (λ w. AddsRows w.0 w.1)

-- Inside a transaction the rows changed by this relation, and the other tables were kept. Nothing is
-- committed.
pub record Adds (Relates : Contents → Contents → Type 0) (old new : State) : Type 0 where
  pub holds : (t now : Contents) → Relates t now → Holds old.now t → Holds new.now now
  pub others : (t now : Contents) → Relates t now → Holds old.now t → KeepsOthers old.now new.now
  pub committed : new.committed ≡ old.committed
  pub mode : new.in_transaction ≡ true
