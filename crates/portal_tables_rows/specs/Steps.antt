-- The rows after each statement, and the promises of statements and transactions.
use Rattle.std.specs.Prelude.{◌≡◌, ℕ, cond, nat_eq, true, false, IsTrue, List, [], ◌∷◌, ◌++◌, map, None}
use Rattle.std.specs.Prelude.{Result, Option, ℤ}
use Rattle.sqlite.specs.Store.{Ghosts}
use Rattle.sqlite.specs.Tree.{Trees}
use Rattle.sqlite.specs.State.{State}
use Rattle.sqlite.specs.declared.error.Error.{Error}
use Rattle.sqlite.specs.declared.transaction.Transaction.{Transaction}
use Rattle.portal_tables_sql.specs.Inside.{Inside}
use Rattle.portal_tables_sql.specs.Stored.{put_by}
use Rattle.portal_model.specs.declared.plan.Plan.{Plan}
use Rattle.portal_model.specs.declared.record.Batch.{Batch}
use Rattle.portal_model.specs.declared.record.Session.{Session}
use Rattle.portal_model.specs.Device.{text_of_device}
use Rattle.portal_model.specs.Rows.{VoucherRow, SessionRow, GrantRow, CountRow, TotalRow, sold_if}
use Rattle.portal_model.specs.Rows.{refunded_if, used_if, closed_if, counted_if}
use Rattle.portal_tables_rows.specs.declared.column_values.Total.{Total}
use Rattle.portal_ledger.specs.RequestRow.{RequestRow}
use Rattle.portal_tables_rows.specs.Contents.{Contents, HeadRow, WholeVoucher, WholeSession, count_of}
use Rattle.portal_tables_rows.specs.Contents.{total_of}
use Rattle.portal_tables_rows.specs.Holds.{Holds, CrashStateHoldsRows}
use Rattle.portal_tables_rows.specs.Others.{KeepsOthers, CrashStateHasOthers}

-- ---- new rows

-- a voucher that is neither sold nor refunded
abbrev pub new_voucher : List ℕ → ℕ → List ℕ → VoucherRow
new_voucher batch place code =
    record { code = code; batch = batch; place = place; sold = None; refunded = None; amount = None }

-- a session that is opened on the plan
abbrev pub opened_row : Session → List ℕ → SessionRow
opened_row s plan = record {
  number = s.number;
  device = text_of_device s.device;
  plan = plan;
  opened = s.opened;
  used = 0;
  closed = None;
}

-- a redemption on the terms of the plan
abbrev pub granted_row : ℕ → List ℕ → ℕ → ℕ → Plan → GrantRow
granted_row number code session at plan = record {
  number = number;
  code = code;
  session = session;
  moment = at;
  seconds = plan.seconds;
  bytes = plan.bytes;
}

-- the same voucher, which was not redeemed
abbrev pub new_whole_voucher : List ℕ → ℕ → List ℕ → WholeVoucher
new_whole_voucher batch place code = record { row = new_voucher batch place code; redeemed = 0 }

-- the session that is opened, with its end and this remaining allowance
abbrev pub opened_whole : Session → List ℕ → Option ℤ → WholeSession
opened_whole s plan remaining = record { row = opened_row s plan; ends = s.ends; remaining = remaining }

-- how often the voucher with the code was redeemed
abbrev pub count_row : List ℕ → ℕ → CountRow
count_row code redeemed = record { code = code; redeemed = redeemed }

-- the end of a session and its remaining allowance
abbrev pub ends_row : Total → TotalRow
ends_row m = record { number = m.number; ends = m.ends; remaining = m.remaining }

-- the head row of an empty database
abbrev pub first_head : ℕ → HeadRow
first_head schema_version =
    record { id = 1; schema_version = schema_version; last = 0; grants = 0; sessions = 0 }

-- ---- one row more

abbrev pub with_plan : Plan → Contents → Contents
with_plan p t = record t { plans = t.plans ++ p ∷ [] }

abbrev pub with_plans : List Plan → Contents → Contents
with_plans ps t = record t { plans = t.plans ++ ps }

abbrev pub with_batch : Batch → Contents → Contents
with_batch b t = record t { batches = t.batches ++ b ∷ [] }

abbrev pub with_voucher : VoucherRow → Contents → Contents
with_voucher v t = record t { vouchers = t.vouchers ++ v ∷ [] }

abbrev pub with_vouchers : List VoucherRow → Contents → Contents
with_vouchers vs t = record t { vouchers = t.vouchers ++ vs }

abbrev pub with_count : CountRow → Contents → Contents
with_count k t = record t { counts = t.counts ++ k ∷ [] }

abbrev pub with_counts : List CountRow → Contents → Contents
with_counts ks t = record t { counts = t.counts ++ ks }

abbrev pub with_request : RequestRow → Contents → Contents
with_request k t = record t { requests = t.requests ++ k ∷ [] }

-- in its place by number

abbrev pub with_head : HeadRow → Contents → Contents
with_head h t = record t { heads = put_by (λ (x : HeadRow). x.id) h t.heads }

abbrev pub with_session : SessionRow → Contents → Contents
with_session s t = record t { sessions = put_by (λ (x : SessionRow). x.number) s t.sessions }

abbrev pub with_grant : GrantRow → Contents → Contents
with_grant g t = record t { grants = put_by (λ (x : GrantRow). x.number) g t.grants }

abbrev pub with_total : TotalRow → Contents → Contents
with_total m t = record t { totals = put_by (λ (x : TotalRow). x.number) m t.totals }

-- a voucher with its count, and a session with its total

abbrev pub with_whole_voucher : WholeVoucher → Contents → Contents
with_whole_voucher w t = with_count (count_of w) (with_voucher w.row t)

abbrev pub with_whole_session : WholeSession → Contents → Contents
with_whole_session w t = with_total (total_of w) (with_session w.row t)

-- ---- a row changed

-- the voucher with the code is sold at this time
abbrev pub with_sale : List ℕ → ℕ → Contents → Contents
with_sale code at t = record t { vouchers = map (sold_if code at) t.vouchers }

-- the voucher with the code is refunded at this time
abbrev pub with_refund : List ℕ → ℕ → ℕ → Contents → Contents
with_refund code at amount t = record t { vouchers = map (refunded_if code at amount) t.vouchers }

-- the head row with this time of the last command
abbrev pub with_moment_if : ℕ → HeadRow → HeadRow
with_moment_if at h = cond (nat_eq 1 h.id) (record h { last = at }) h

-- the time of the last command is this one
abbrev pub with_moment : ℕ → Contents → Contents
with_moment at t = record t { heads = map (with_moment_if at) t.heads }

-- the head row with this time of the last command and these numbers of rows
abbrev pub with_numbers_if : ℕ → ℕ → ℕ → HeadRow → HeadRow
with_numbers_if at grants sessions h =
    cond (nat_eq 1 h.id) (record h { last = at; grants = grants; sessions = sessions }) h

-- the time of the last command and the numbers of redemptions and sessions are these
abbrev pub with_numbers : ℕ → ℕ → ℕ → Contents → Contents
with_numbers at grants sessions t = record t { heads = map (with_numbers_if at grants sessions) t.heads }

-- the head row with this schema version
abbrev pub with_schema_version_if : ℕ → HeadRow → HeadRow
with_schema_version_if schema_version h =
    cond (nat_eq 1 h.id) (record h { schema_version = schema_version }) h

-- the schema version is this one
abbrev pub with_schema_version : ℕ → Contents → Contents
with_schema_version schema_version t =
    record t { heads = map (with_schema_version_if schema_version) t.heads }

-- the session with the number has used so many bytes
abbrev pub with_use : ℕ → ℕ → Contents → Contents
with_use number used t = record t { sessions = map (used_if number used) t.sessions }

-- the session with the number is closed at this time
abbrev pub with_close : ℕ → ℕ → Contents → Contents
with_close number at t = record t { sessions = map (closed_if number at) t.sessions }

-- the voucher with the code was redeemed so often
abbrev pub with_redeemed : List ℕ → ℕ → Contents → Contents
with_redeemed code redeemed t = record t { counts = map (counted_if code redeemed) t.counts }

-- the total of the session with this number, with its new end and remaining allowance
abbrev pub with_ends_if : TotalRow → TotalRow → TotalRow
with_ends_if new m =
    cond (nat_eq new.number m.number) (record m { ends = new.ends; remaining = new.remaining }) m

-- the session with the number has this end and this remaining allowance
abbrev pub with_ends : TotalRow → Contents → Contents
with_ends new t = record t { totals = map (with_ends_if new) t.totals }

-- ---- statements and transactions

-- A statement inside a transaction changed the rows by f and kept the other tables. Nothing is committed.
pub record MakesRows (f : Contents → Contents) (old new : State) : Type 0 where
  pub holds : (t : Contents) → Holds old.now t → Holds new.now (f t)
  pub others : (t : Contents) → Holds old.now t → KeepsOthers old.now new.now
  pub committed : new.committed ≡ old.committed
  pub mode : new.in_transaction ≡ true

-- a call on a transaction that changes the rows by f
abbrev pub Writes : {S : Type 0} → Ghosts S → (Contents → Contents) → Transaction S → Transaction S
    → Result (Unit {0}) Error → Type 0
Writes g f = Inside g (MakesRows f)

-- A command changed the rows by f and kept the other tables. It is committed, and the connection is outside a
-- transaction.
pub record CommitsRows (f : Contents → Contents) (old new : State) : Type 0 where
  pub holds : (t : Contents) → Holds old.now t → Holds new.now (f t)
  pub others : (t : Contents) → Holds old.now t → KeepsOthers old.now new.now
  pub committed : new.committed ≡ new.now
  pub ended : new.in_transaction ≡ false
  pub is_open : IsTrue new.is_open

-- the crash states that are added: they hold the rows changed by f, and the other tables
abbrev pub MayCommitRows : (Contents → Contents) → State → Trees → Type 0
MayCommitRows f old trees =
    (t : Contents) → Holds old.now t → CrashStateHoldsRows trees (f t) × CrashStateHasOthers old.now trees
