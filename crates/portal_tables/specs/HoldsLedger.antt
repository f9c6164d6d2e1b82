-- When a database holds a history or a ledger.
use Rattle.std.specs.Prelude.{◌≡◌, ℕ, IsTrue, List, [], ◌∷◌, map, Option, Result, IfOk}
use Rattle.sqlite.specs.Effect.{Database}
use Rattle.sqlite_rules.specs.Lists.{Has}
use Rattle.sqlite.specs.Store.{Ghosts}
use Rattle.sqlite.specs.Held.{Held, state}
use Rattle.sqlite.specs.State.{State, HasCleanDisk}
use Rattle.portal_codes.specs.Code.{text_of}
use Rattle.portal_model.specs.declared.record.Head.{Head}
use Rattle.portal_model.specs.Device.{text_of_device}
use Rattle.portal_model.specs.History.{History}
use Rattle.portal_model.specs.Rows.{Rows, VoucherRow, SessionRow, GrantRow, CountRow, rows_of, sessions_of}
use Rattle.portal_model.specs.Rows.{totals_of}
use Rattle.portal_model.specs.Verdict.{IsLegal}
use Rattle.portal_tables_rows.specs.Contents.{Contents, HeadRow}
use Rattle.portal_ledger.specs.Ledger.{Ledger, IsSound, AllRows, all_rows_of, held_in}
use Rattle.portal_ledger.specs.Fingerprint.{Fingerprint}
use Rattle.portal_ledger.specs.declared.caller.Caller.{Caller}
use Rattle.portal_ledger.specs.declared.request.KeptRequest.{KeptRequest}
use Rattle.portal_ledger.specs.RequestRow.{RequestRow, row_of_request}
use Rattle.portal_tables_sql.specs.Looks.{Looks}
use Rattle.portal_tables_rows.specs.Foreign.{AreOwnRows}
use Rattle.portal_tables_rows.specs.Holds.{Holds, HasTables, this_schema_version}
use Rattle.portal_tables_rows.specs.Read.{session_read, session_total}
use Rattle.portal_tables_rows.specs.declared.rows.RowError.{RowError}
use Rattle.portal_tables_rows.specs.declared.rows.SessionValue.{SessionValue}

-- codes and devices as they are printed

-- a row with its code in printed form
abbrev pub voucher_kept : VoucherRow → VoucherRow
voucher_kept v = record v { code = text_of v.code }

-- a row with its device in printed form
abbrev pub session_kept : SessionRow → SessionRow
session_kept s = record s { device = text_of_device s.device }

-- a row with its code in printed form
abbrev pub grant_kept : GrantRow → GrantRow
grant_kept g = record g { code = text_of g.code }

-- a row with its code in printed form
abbrev pub count_kept : CountRow → CountRow
count_kept k = record k { code = text_of k.code }

-- the one row of portal_head
abbrev pub head_kept : ℕ → Head → HeadRow
head_kept schema_version h = record {
  id = 1;
  schema_version = schema_version;
  last = h.last;
  grants = h.grants;
  sessions = h.sessions;
}

-- the rows as the tables store them, with these rows of portal_requests
abbrev pub contents_of : List RequestRow → ℕ → Rows → Contents
contents_of requests schema_version r = record {
  heads = head_kept schema_version r.head ∷ [];
  plans = r.plans;
  batches = r.batches;
  vouchers = map voucher_kept r.vouchers;
  sessions = map session_kept r.sessions;
  grants = map grant_kept r.grants;
  counts = map count_kept r.counts;
  totals = r.totals;
  requests = requests;
}

-- the rows of all tables as the tables store them
abbrev pub all_contents_of : ℕ → AllRows → Contents
all_contents_of schema_version r = contents_of (map row_of_request r.requests) schema_version r.rows

-- the tables hold just the rows of the ledger
abbrev pub HoldsLedger : Ledger → Database → Type 0
HoldsLedger L db = IsSound L × Holds db (all_contents_of this_schema_version (all_rows_of L))

-- the rows of every sound ledger are rows that this product writes
abbrev pub RowsAreOwn : Type 0
RowsAreOwn = (L : Ledger) → IsSound L → AreOwnRows (all_contents_of this_schema_version (all_rows_of L))

-- all tables but portal_requests hold just the rows of the history
abbrev pub HoldsHistory : History → Database → Type 0
HoldsHistory h db = IsLegal h
    × ((requests : List RequestRow) × Holds db (contents_of requests this_schema_version (rows_of h)))

-- what holds of each history that the open connection held
abbrev pub OfHistory : State → State → (History → Type 0) → Type 0
OfHistory old new Is = HasCleanDisk new → IsTrue old.is_open → (h : History) → HoldsHistory h old.now → Is h

-- A call that reads such a history: Is holds of the history and the result. It writes nothing.
pub record ReadsHistory {S A : Type 0} (g : Ghosts S) (old new : Held S) (result : Result A RowError)
    (Is : History → A → Type 0) : Type 0 where
  pub found : OfHistory (state g old) (state g new) (λ h. IfOk result (Is h))
  pub looks : Looks HasTables result (state g old) (state g new)

-- a row that was read is one of the history's, with its total
pub record IsRowOf (h : History) (row : SessionValue) : Type 0 where
  pub of_history : SessionRow
  pub among : Has (sessions_of h) of_history
  pub is : session_read row ≡ session_kept of_history
  pub totaled : Has (totals_of h) (session_total row)

-- what holds of each ledger that the open connection held
abbrev pub OfLedger : State → State → (Ledger → Type 0) → Type 0
OfLedger old new Is = HasCleanDisk new → IsTrue old.is_open → (L : Ledger) → HoldsLedger L old.now → Is L

-- what is found is the request that the ledger holds under the caller and the idempotency key
abbrev pub IsHeldUnder : Ledger → Caller → List ℕ → Option KeptRequest → Type 0
IsHeldUnder L caller number found =
    (mark : Fingerprint) → mark.caller ≡ caller → mark.number ≡ number → found ≡ held_in L mark
