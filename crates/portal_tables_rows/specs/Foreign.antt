-- Which rows this product writes, and when a call may give ForeignRow.
use Rattle.std.specs.Prelude.{◌≡◌, ℕ, ◌≤◌, Option, List, length, Result, IsSome, IfSome, IfErr}
use Rattle.sqlite.specs.State.{State, HasCleanDisk}
use Rattle.sqlite.specs.declared.error.Error.TheVariants.{SqliteFailure}
use Rattle.sqlite.specs.declared.error.ErrorCode.TheVariants.{OutOfMemory}
use Rattle.sqlite.specs.Effect.{Database}
use Rattle.sqlite.specs.Order.{Row}
use Rattle.sqlite_rules.specs.Lists.{Has}
use Rattle.portal_tables_sql.specs.Causes.{HasCause}
use Rattle.portal_tables_sql.specs.Finds.{columns}
use Rattle.portal_codes.specs.Code.{IsCode, text_of}
use Rattle.portal_model.specs.Device.{IsDevice, text_of_device}
use Rattle.portal_model.specs.IdText.{IsIdText}
use Rattle.portal_model.specs.Terms.{AreTerms}
use Rattle.portal_model.specs.Verdict.{greatest_moment}
use Rattle.portal_model.specs.Rows.{VoucherRow, SessionRow, GrantRow, CountRow, TotalRow}
use Rattle.portal_model.specs.declared.plan.Plan.{Plan}
use Rattle.portal_model.specs.declared.record.Batch.{Batch}
use Rattle.portal_model.specs.declared.change.Answer.{Answer}
use Rattle.portal_model.specs.declared.change.Answer.TheVariants.{IssueAnswer}
use Rattle.portal_ledger.specs.declared.request.KeptRequest.{KeptRequest}
use Rattle.portal_ledger.specs.Fingerprint.{IsFingerprint}
use Rattle.portal_ledger.specs.RequestRow.{RequestRow, IsAnswerTyped, row_of_request}
use Rattle.portal_tables_rows.specs.declared.rows.RowError.{RowError}
use Rattle.portal_tables_rows.specs.declared.rows.RowError.TheVariants.{Sql, ForeignRow}
use Rattle.portal_tables_rows.specs.Contents.{Contents, HeadRow, WholeVoucher, WholeSession}

-- ---- rows that this product writes

-- the text is a code in its printed form
abbrev pub IsPrintedCode : List ℕ → Type 0
IsPrintedCode text = (code : List ℕ) × IsCode code × (text_of code ≡ text)

-- the text is a device in its printed form
abbrev pub IsPrintedDevice : List ℕ → Type 0
IsPrintedDevice text = (device : List ℕ) × IsDevice device × (text_of_device device ≡ text)

-- the time is not past the greatest one
abbrev pub IsMomentCell : ℕ → Type 0
IsMomentCell moment = moment ≤ greatest_moment

-- the same of a time that may be missing
abbrev pub IsMomentIfSome : Option ℕ → Type 0
IsMomentIfSome moment = IfSome moment IsMomentCell

abbrev pub IsOwnHead : HeadRow → Type 0
IsOwnHead h = (h.id ≡ 1) × IsMomentCell h.last

pub record IsOwnPlan (p : Plan) : Type 0 where
  pub id : IsIdText p.id
  pub terms : AreTerms p.price p.uses p.seconds p.bytes p.shelf_days

pub record IsOwnBatch (b : Batch) : Type 0 where
  pub id : IsIdText b.id
  pub plan : IsIdText b.plan
  pub issued : IsMomentCell b.issued
  pub expires : IsMomentCell b.expires

pub record IsOwnVoucher (v : VoucherRow) : Type 0 where
  pub code : IsPrintedCode v.code
  pub batch : IsIdText v.batch
  pub sold : IsMomentIfSome v.sold
  pub refunded : IsMomentIfSome v.refunded
  pub amount : IsSome v.refunded → IsSome v.amount

-- a voucher that was refunded
abbrev pub IsOwnRefund : VoucherRow → Type 0
IsOwnRefund v = IsOwnVoucher v × IsSome v.refunded

pub record IsOwnSession (s : SessionRow) : Type 0 where
  pub device : IsPrintedDevice s.device
  pub plan : IsIdText s.plan
  pub opened : IsMomentCell s.opened
  pub closed : IsMomentIfSome s.closed

pub record IsOwnGrant (g : GrantRow) : Type 0 where
  pub code : IsPrintedCode g.code
  pub moment : IsMomentCell g.moment

-- a voucher with its count, and a session with its total
abbrev pub IsOwnWholeVoucher : WholeVoucher → Type 0
IsOwnWholeVoucher w = IsOwnVoucher w.row

abbrev pub IsOwnWholeSession : WholeSession → Type 0
IsOwnWholeSession w = IsOwnSession w.row × IsMomentIfSome w.ends

abbrev pub IsOwnCount : CountRow → Type 0
IsOwnCount k = IsPrintedCode k.code

abbrev pub IsOwnTotal : TotalRow → Type 0
IsOwnTotal m = IsMomentIfSome m.ends

-- the code of an answer is valid, its batch is an id, and its expiry is a time
abbrev pub IsOwnAnswer : Answer → Type 0
IsOwnAnswer (IssueAnswer batch count expires) = IsIdText batch × IsMomentCell expires
IsOwnAnswer answer = IsAnswerTyped answer

-- the row of a request, with its answer, that this product can store
pub record IsOwnRequest (k : RequestRow) : Type 0 where
  pub kept : KeptRequest
  pub mark : IsFingerprint kept.mark
  pub answer : IsOwnAnswer kept.answer
  pub is : row_of_request kept ≡ k

-- each of the values is one that this product writes
abbrev pub AreOwn : {P : Type 0} → (P → Type 0) → List P → Type 0
AreOwn {P = P} IsOwn ps = (p : P) → Has ps p → IsOwn p

-- the cells are those of a value that this product writes
abbrev pub IsOfOwn : {P C : Type 0} → (P → C) → (P → Type 0) → C → Type 0
IsOfOwn {P = P} cells IsOwn shown = (p : P) × IsOwn p × (cells p ≡ shown)

-- a row of a result has these columns, and they are of the kind that this product writes
abbrev pub IsOwnRow : (Row → Type 0) → ℕ → Row → Type 0
IsOwnRow IsOwn count row = IsOwn (columns count row) × (count ≤ length row)

-- each row has the cells of a value that this product writes
abbrev pub AreOfOwn : {P : Type 0} → (P → Row) → ℕ → (P → Type 0) → List Row → Type 0
AreOfOwn cells count IsOwn rows = AreOwn (IsOwnRow (IsOfOwn cells IsOwn) count) rows

-- each row of each table is one that this product writes
pub record AreOwnRows (t : Contents) : Type 0 where
  pub heads : AreOwn IsOwnHead t.heads
  pub plans : AreOwn IsOwnPlan t.plans
  pub batches : AreOwn IsOwnBatch t.batches
  pub vouchers : AreOwn IsOwnVoucher t.vouchers
  pub sessions : AreOwn IsOwnSession t.sessions
  pub grants : AreOwn IsOwnGrant t.grants
  pub counts : AreOwn IsOwnCount t.counts
  pub totals : AreOwn IsOwnTotal t.totals
  pub requests : AreOwn IsOwnRequest t.requests

-- ---- errors

-- the error is one of SQLite, not ForeignRow
abbrev pub IsOfStore : RowError → Type 0
IsOfStore (Sql e) = Unit {0}
IsOfStore ForeignRow = ⊥

-- the call did not give ForeignRow
abbrev pub NotForeign : {X : Type 0} → Result X RowError → Type 0
NotForeign r = IfErr r IsOfStore

-- memory ran out
abbrev pub IsMemory : RowError → Type 0
IsMemory e = e ≡ Sql (SqliteFailure OutOfMemory)

-- the call failed only where memory ran out
abbrev pub OnlyMemory : {X : Type 0} → Result X RowError → Type 0
OnlyMemory r = IfErr r IsMemory

-- the same if the cells are those of a value that this product writes
abbrev pub SparesOwn : {P C X : Type 0} → (P → C) → (P → Type 0) → C → Result X RowError → Type 0
SparesOwn {P = P} cells IsOwn shown r = (p : P) → IsOwn p → cells p ≡ shown → OnlyMemory r

-- an error has a cause, and none of them is a foreign row
abbrev pub IsCaused : State → State → RowError → Type 0
IsCaused old new (Sql e) = HasCause old new e
IsCaused old new ForeignRow = ⊥

-- A call fails only for a cause, unless the database does not hold rows of which Own is true.
abbrev pub BlamesCause : {X : Type 0} → (Database → Contents → Type 0) → (Contents → Type 0) → State → State
    → Result X RowError → Type 0
BlamesCause Holds Own old new r =
    HasCleanDisk new → (t : Contents) → Holds old.now t → Own t → IfErr r (IsCaused old new)

-- A call gives ForeignRow only if the database does not hold rows of which Own is true.
abbrev pub BlamesForeign : {X : Type 0} → (Database → Contents → Type 0) → (Contents → Type 0) → State → State
    → Result X RowError → Type 0
BlamesForeign Holds Own old new r = HasCleanDisk new → (t : Contents) → Holds old.now t → Own t → NotForeign r
