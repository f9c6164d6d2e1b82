-- The rows of each table, as SELECT gives them, are the cells of its values, and these determine the values.
use Rattle.portal_tables_rows.proofs.Common.{◌≡◌, ℕ, Bool, true, false, List, ◌∷◌, map, refl, ap, Value, Int}
use Rattle.portal_tables_rows.proofs.Common.{column, Trees, Stores, whole_row, less_rowid, fields, rows_in}
use Rattle.portal_tables_rows.proofs.Common.{opens_keyed, opens_numbered, rows_shown, exact_null}
use Rattle.portal_tables_rows.proofs.Common.{exact_signed, Plan, VoucherRow, SessionRow, GrantRow, CountRow}
use Rattle.portal_tables_rows.proofs.Common.{TotalRow, head, plans, batches, vouchers, sessions, grants}
use Rattle.portal_tables_rows.proofs.Common.{counts, totals, HeadRow, flag, batch_cells, count_cells}
use Rattle.portal_tables_rows.proofs.Common.{grant_cells, grant_stored, head_cells, head_stored, plan_cells}
use Rattle.portal_tables_rows.proofs.Common.{session_cells, session_stored, total_cells, total_stored}
use Rattle.portal_tables_rows.proofs.Common.{voucher_cells, request_cells, requests, RequestRow}
use Rattle.portal_tables_rows.proofs.Common.{take, WholeVoucher, WholeSession, whole_voucher_cells}
use Rattle.portal_tables_rows.proofs.Common.{whole_session_cells, whole_session_stored}
use Rattle.portal_tables_sql.specs.Tables as old
use Rattle.portal_model.specs.declared.record.Batch.{Batch}
use Rattle.portal_model.proofs.SamePlan.{same-plan}

pub heads_in : (db : Trees) (tree : ℕ) (ps : List HeadRow) → Stores whole_row head_stored (db tree) ps
    → rows_in (head tree) db ≡ map head_cells ps
heads_in db tree ps h = rows_shown whole_row head_stored head_cells (λ n p. head_stored p)
    (opens_numbered head_stored) (fields (head tree)) (λ n p. refl) (db tree) ps h.are.keyed h.is

pub plans_in : (db : Trees) (tree : ℕ) (ps : List Plan) → Stores less_rowid plan_cells (db tree) ps
    → rows_in (plans tree) db ≡ map plan_cells ps
plans_in db tree ps h = rows_shown less_rowid plan_cells plan_cells (λ n p. Int n ∷ plan_cells p)
    (opens_keyed plan_cells) (fields (plans tree)) (λ n p. refl) (db tree) ps h.are.keyed h.is

pub batches_in : (db : Trees) (tree : ℕ) (ps : List Batch) → Stores less_rowid batch_cells (db tree) ps
    → rows_in (batches tree) db ≡ map batch_cells ps
batches_in db tree ps h = rows_shown less_rowid batch_cells batch_cells (λ n p. Int n ∷ batch_cells p)
    (opens_keyed batch_cells) (fields (batches tree)) (λ n p. refl) (db tree) ps h.are.keyed h.is

pub vouchers_in : (db : Trees) (tree : ℕ) (ps : List WholeVoucher)
    → Stores less_rowid whole_voucher_cells (db tree) ps
    → rows_in (vouchers tree) db ≡ map whole_voucher_cells ps
vouchers_in db tree ps h =
    rows_shown less_rowid whole_voucher_cells whole_voucher_cells (λ n p. Int n ∷ whole_voucher_cells p)
    (opens_keyed whole_voucher_cells) (fields (vouchers tree)) (λ n p. refl) (db tree) ps h.are.keyed h.is

pub sessions_in : (db : Trees) (tree : ℕ) (ps : List WholeSession)
    → Stores whole_row whole_session_stored (db tree) ps
    → rows_in (sessions tree) db ≡ map whole_session_cells ps
sessions_in db tree ps h =
    rows_shown whole_row whole_session_stored whole_session_cells (λ n p. whole_session_stored p)
    (opens_numbered whole_session_stored) (fields (sessions tree)) (λ n p. refl) (db tree) ps h.are.keyed h.is

pub old_vouchers_in : (keyed : Bool) (db : Trees) (tree : ℕ) (ps : List VoucherRow)
    → Stores less_rowid voucher_cells (db tree) ps
    → rows_in (old.vouchers_in keyed tree) db ≡ map voucher_cells ps
old_vouchers_in keyed db tree ps h =
    rows_shown less_rowid voucher_cells voucher_cells (λ n p. Int n ∷ voucher_cells p)
    (opens_keyed voucher_cells) (fields (old.vouchers_in keyed tree)) (λ n p. refl) (db tree) ps h.are.keyed
    h.is

pub old_sessions_in : (keyed : Bool) (db : Trees) (tree : ℕ) (ps : List SessionRow)
    → Stores whole_row session_stored (db tree) ps
    → rows_in (old.sessions_in keyed tree) db ≡ map session_cells ps
old_sessions_in keyed db tree ps h =
    rows_shown whole_row session_stored session_cells (λ n p. session_stored p)
    (opens_numbered session_stored) (fields (old.sessions_in keyed tree)) (λ n p. refl) (db tree) ps
    h.are.keyed h.is

pub grants_in : (db : Trees) (tree : ℕ) (ps : List GrantRow) → Stores whole_row grant_stored (db tree) ps
    → rows_in (grants tree) db ≡ map grant_cells ps
grants_in db tree ps h = rows_shown whole_row grant_stored grant_cells (λ n p. grant_stored p)
    (opens_numbered grant_stored) (fields (grants tree)) (λ n p. refl) (db tree) ps h.are.keyed h.is

pub counts_in : (db : Trees) (tree : ℕ) (ps : List CountRow) → Stores less_rowid count_cells (db tree) ps
    → rows_in (counts tree) db ≡ map count_cells ps
counts_in db tree ps h = rows_shown less_rowid count_cells count_cells (λ n p. Int n ∷ count_cells p)
    (opens_keyed count_cells) (fields (counts tree)) (λ n p. refl) (db tree) ps h.are.keyed h.is

pub totals_in : (db : Trees) (tree : ℕ) (ps : List TotalRow) → Stores whole_row total_stored (db tree) ps
    → rows_in (totals tree) db ≡ map total_cells ps
totals_in db tree ps h = rows_shown whole_row total_stored total_cells (λ n p. total_stored p)
    (opens_numbered total_stored) (fields (totals tree)) (λ n p. refl) (db tree) ps h.are.keyed h.is

pub requests_in : (db : Trees) (tree : ℕ) (ps : List RequestRow)
    → Stores less_rowid request_cells (db tree) ps → rows_in (requests tree) db ≡ map request_cells ps
requests_in db tree ps h = rows_shown less_rowid request_cells request_cells (λ n p. Int n ∷ request_cells p)
    (opens_keyed request_cells) (fields (requests tree)) (λ n p. refl) (db tree) ps h.are.keyed h.is

exact_flag : (a b : Bool) → ◌≡◌ {A = Value} (flag a) (flag b) → a ≡ b
exact_flag true true e = refl
exact_flag true false e = cc
exact_flag false true e = cc
exact_flag false false e = refl

pub exact_head : (a b : HeadRow) → head_cells a ≡ head_cells b → a ≡ b
exact_head a b e =
    let id_is : a.id ≡ b.id = cc in
    let layout_is : a.schema_version ≡ b.schema_version = cc in
    let last_is : a.last ≡ b.last = cc in
    let grants_is : a.grants ≡ b.grants = cc in
    let sessions_is : a.sessions ≡ b.sessions = cc in
    λ i. record {
      id = id_is i;
      schema_version = layout_is i;
      last = last_is i;
      grants = grants_is i;
      sessions = sessions_is i;
    }

pub exact_plan : (a b : Plan) → plan_cells a ≡ plan_cells b → a ≡ b
exact_plan a b e =
    let id_is : a.id ≡ b.id = cc in
    let price_is : a.price ≡ b.price = cc in
    let uses_is : a.uses ≡ b.uses = cc in
    let seconds_is : a.seconds ≡ b.seconds = cc in
    let bytes_is : a.bytes ≡ b.bytes = cc in
    let shelf_days_is : a.shelf_days ≡ b.shelf_days = cc in
    let extend_is = exact_flag a.extend b.extend (ap (λ r. column r 6) e) in
    same-plan a b (λ i. record {
      id = id_is i;
      price = price_is i;
      uses = uses_is i;
      seconds = seconds_is i;
      bytes = bytes_is i;
      shelf_days = shelf_days_is i;
      extend = extend_is i;
    })

pub exact_batch : (a b : Batch) → batch_cells a ≡ batch_cells b → a ≡ b
exact_batch a b e =
    let id_is : a.id ≡ b.id = cc in
    let plan_is : a.plan ≡ b.plan = cc in
    let issued_is : a.issued ≡ b.issued = cc in
    let expires_is : a.expires ≡ b.expires = cc in
    let size_is : a.size ≡ b.size = cc in
    λ i.
    record { id = id_is i; plan = plan_is i; issued = issued_is i; expires = expires_is i; size = size_is i }

pub exact_voucher : (a b : VoucherRow) → voucher_cells a ≡ voucher_cells b → a ≡ b
exact_voucher a b e =
    let code_is : a.code ≡ b.code = cc in
    let batch_is : a.batch ≡ b.batch = cc in
    let place_is : a.place ≡ b.place = cc in
    let sold_is = exact_null a.sold b.sold (ap (λ r. column r 3) e) in
    let refunded_is = exact_null a.refunded b.refunded (ap (λ r. column r 4) e) in
    let amount_is = exact_null a.amount b.amount (ap (λ r. column r 5) e) in
    λ i. record {
      code = code_is i;
      batch = batch_is i;
      place = place_is i;
      sold = sold_is i;
      refunded = refunded_is i;
      amount = amount_is i;
    }

pub exact_session : (a b : SessionRow) → session_cells a ≡ session_cells b → a ≡ b
exact_session a b e =
    let number_is : a.number ≡ b.number = cc in
    let device_is : a.device ≡ b.device = cc in
    let plan_is : a.plan ≡ b.plan = cc in
    let opened_is : a.opened ≡ b.opened = cc in
    let used_is : a.used ≡ b.used = cc in
    let closed_is = exact_null a.closed b.closed (ap (λ r. column r 5) e) in
    λ i. record {
      number = number_is i;
      device = device_is i;
      plan = plan_is i;
      opened = opened_is i;
      used = used_is i;
      closed = closed_is i;
    }

pub exact_whole_voucher : (a b : WholeVoucher) → whole_voucher_cells a ≡ whole_voucher_cells b → a ≡ b
exact_whole_voucher a b e =
    let row_is = exact_voucher a.row b.row (ap (take 6) e) in
    let redeemed_is : a.redeemed ≡ b.redeemed = cc in
    λ i. record { row = row_is i; redeemed = redeemed_is i }

pub exact_whole_session : (a b : WholeSession) → whole_session_cells a ≡ whole_session_cells b → a ≡ b
exact_whole_session a b e =
    let row_is = exact_session a.row b.row (ap (take 6) e) in
    let ends_is = exact_null a.ends b.ends (ap (λ r. column r 6) e) in
    let remaining_is = exact_signed a.remaining b.remaining (ap (λ r. column r 7) e) in
    λ i. record { row = row_is i; ends = ends_is i; remaining = remaining_is i }

pub exact_grant : (a b : GrantRow) → grant_cells a ≡ grant_cells b → a ≡ b
exact_grant a b e =
    let number_is : a.number ≡ b.number = cc in
    let code_is : a.code ≡ b.code = cc in
    let session_is : a.session ≡ b.session = cc in
    let moment_is : a.moment ≡ b.moment = cc in
    let seconds_is : a.seconds ≡ b.seconds = cc in
    let bytes_is : a.bytes ≡ b.bytes = cc in
    λ i. record {
      number = number_is i;
      code = code_is i;
      session = session_is i;
      moment = moment_is i;
      seconds = seconds_is i;
      bytes = bytes_is i;
    }

pub exact_count : (a b : CountRow) → count_cells a ≡ count_cells b → a ≡ b
exact_count a b e =
    let code_is : a.code ≡ b.code = cc in
    let redeemed_is : a.redeemed ≡ b.redeemed = cc in
    λ i. record { code = code_is i; redeemed = redeemed_is i }

pub exact_total : (a b : TotalRow) → total_cells a ≡ total_cells b → a ≡ b
exact_total a b e =
    let number_is : a.number ≡ b.number = cc in
    let ends_is = exact_null a.ends b.ends (ap (λ r. column r 1) e) in
    let remaining_is = exact_signed a.remaining b.remaining (ap (λ r. column r 2) e) in
    λ i. record { number = number_is i; ends = ends_is i; remaining = remaining_is i }
