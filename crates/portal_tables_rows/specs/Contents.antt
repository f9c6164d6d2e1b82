-- The rows of the tables as values, and the cells in which each is stored.
use Rattle.std.specs.Prelude.{ℕ, ℤ, pos, Bool, if◌then◌else◌, List, [], ◌∷◌, ◌++◌, Option}
use Rattle.sqlite.specs.declared.types.Value.{Value}
use Rattle.sqlite.specs.declared.types.Value.TheVariants.{Null, Int, Text, Blob}
use Rattle.sqlite.specs.Order.{Row}
use Rattle.sqlite.specs.Values.{or_null as nullable}
use Rattle.portal_tables_sql.specs.Stored.{number, or_null}
use Rattle.portal_model.specs.declared.plan.Plan.{Plan}
use Rattle.portal_model.specs.declared.record.Batch.{Batch}
use Rattle.portal_model.specs.Rows.{VoucherRow, SessionRow, GrantRow, CountRow, TotalRow}
use Rattle.portal_ledger.specs.RequestRow.{RequestRow}

-- a row of portal_head
pub record HeadRow : Type 0 where
  pub id : ℕ
  pub schema_version : ℕ
  pub last : ℕ
  pub grants : ℕ
  pub sessions : ℕ

-- The rows of each table in the order of the rowids. Codes and devices are here the texts in which they are
-- stored.
pub record Contents : Type 0 where
  pub heads : List HeadRow
  pub plans : List Plan
  pub batches : List Batch
  pub vouchers : List VoucherRow
  pub sessions : List SessionRow
  pub grants : List GrantRow
  pub counts : List CountRow
  pub totals : List TotalRow
  pub requests : List RequestRow

-- a row of portal_vouchers: a voucher with how often it was redeemed
pub record WholeVoucher : Type 0 where
  pub row : VoucherRow
  pub redeemed : ℕ

-- a row of portal_sessions: a session with its end and its remaining allowance
pub record WholeSession : Type 0 where
  pub row : SessionRow
  pub ends : Option ℕ
  pub remaining : Option ℤ

-- the count of the voucher
abbrev pub count_of : WholeVoucher → CountRow
count_of w = record { code = w.row.code; redeemed = w.redeemed }

-- the total of the session
abbrev pub total_of : WholeSession → TotalRow
total_of w = record { number = w.row.number; ends = w.ends; remaining = w.remaining }

-- the cell of a boolean
abbrev pub flag : Bool → Value
flag b = Int (if b then pos 1 else pos 0)

abbrev pub signed_or_null : Option ℤ → Value
signed_or_null = nullable Int

abbrev pub text_or_null : Option (List ℕ) → Value
text_or_null = nullable Text

-- The stored row of a table with an INTEGER PRIMARY KEY: the rowid is the key, and the key's own column is
-- NULL.

abbrev pub head_stored : HeadRow → Row
head_stored h =
    number h.id ∷ Null ∷ number h.schema_version ∷ number h.last ∷ number h.grants ∷ number h.sessions ∷ []

abbrev pub session_stored : SessionRow → Row
session_stored s = number s.number ∷ Null ∷ Text s.device ∷ Text s.plan ∷ number s.opened
    ∷ number s.used ∷ or_null s.closed ∷ []

abbrev pub whole_session_stored : WholeSession → Row
whole_session_stored w = session_stored w.row ++ or_null w.ends ∷ signed_or_null w.remaining ∷ []

abbrev pub grant_stored : GrantRow → Row
grant_stored g = number g.number ∷ Null ∷ Text g.code ∷ number g.session ∷ number g.moment
    ∷ number g.seconds ∷ number g.bytes ∷ []

abbrev pub total_stored : TotalRow → Row
total_stored m = number m.number ∷ Null ∷ or_null m.ends ∷ signed_or_null m.remaining ∷ []

-- What SELECT gives of a row. For a table with a TEXT key it is the stored row without the rowid.

abbrev pub head_cells : HeadRow → Row
head_cells h =
    number h.id ∷ number h.schema_version ∷ number h.last ∷ number h.grants ∷ number h.sessions ∷ []

abbrev pub plan_cells : Plan → Row
plan_cells p = Text p.id ∷ number p.price ∷ number p.uses ∷ number p.seconds ∷ number p.bytes
    ∷ number p.shelf_days ∷ flag p.extend ∷ []

abbrev pub batch_cells : Batch → Row
batch_cells b = Text b.id ∷ Text b.plan ∷ number b.issued ∷ number b.expires ∷ number b.size ∷ []

abbrev pub voucher_cells : VoucherRow → Row
voucher_cells v =
    Text v.code ∷ Text v.batch ∷ number v.place ∷ or_null v.sold ∷ or_null v.refunded ∷ or_null v.amount ∷ []

abbrev pub whole_voucher_cells : WholeVoucher → Row
whole_voucher_cells w = voucher_cells w.row ++ number w.redeemed ∷ []

abbrev pub session_cells : SessionRow → Row
session_cells s =
    number s.number ∷ Text s.device ∷ Text s.plan ∷ number s.opened ∷ number s.used ∷ or_null s.closed ∷ []

abbrev pub whole_session_cells : WholeSession → Row
whole_session_cells w = session_cells w.row ++ or_null w.ends ∷ signed_or_null w.remaining ∷ []

abbrev pub grant_cells : GrantRow → Row
grant_cells g = number g.number ∷ Text g.code ∷ number g.session ∷ number g.moment
    ∷ number g.seconds ∷ number g.bytes ∷ []

abbrev pub count_cells : CountRow → Row
count_cells k = Text k.code ∷ number k.redeemed ∷ []

abbrev pub total_cells : TotalRow → Row
total_cells m = number m.number ∷ or_null m.ends ∷ signed_or_null m.remaining ∷ []

abbrev pub request_cells : RequestRow → Row
request_cells k =
    Text k.caller ∷ Text k.number ∷ Text k.method ∷ Text k.path ∷ Blob k.body ∷ number k.answer.kind
    ∷ text_or_null k.answer.word ∷ number k.answer.n1 ∷ or_null k.answer.n2 ∷ or_null k.answer.n3 ∷ []
