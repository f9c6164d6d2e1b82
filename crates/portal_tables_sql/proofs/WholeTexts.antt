-- What the SELECT statements of whole tables mean, wherever the tables are in the schema.
use Rattle.portal_tables_sql.proofs.Common.{ℕ, pos, negsuc, List, [], ◌∷◌, codes, Some, None, refl, Int, lit}
use Rattle.portal_tables_sql.proofs.Common.{Bool, ◌++◌, Schema, Binary, TableExists}
use Rattle.portal_tables_sql.proofs.Queries.{drafted, unlimited}
use Rattle.portal_tables_sql.proofs.Lookup.{IsSelect, all_columns}
use Rattle.portal_tables_sql.proofs.Selects.{select_means, up}
use Rattle.portal_tables_sql.specs.Tables.{head_in, plans_in, batches_in, vouchers_in, sessions_in}
use Rattle.portal_tables_sql.specs.Tables.{vouchers, sessions}
use Rattle.portal_tables_sql.specs.Tables.{grants_in, counts_in, totals_in, requests_in}
use Rattle.portal_tables_sql.specs.Tables.{plans_name, batches_name, vouchers_name, sessions_name}
use Rattle.portal_tables_sql.specs.Tables.{grants_name, counts_name, totals_name, head_name, requests_name}
use Rattle.portal_tables_sql.proofs.SelectTexts.{batch_columns, plan_columns, session_columns}
use Rattle.portal_tables_sql.proofs.SelectTexts.{voucher_columns, head_columns}
use Rattle.portal_tables_sql.proofs.RequestTexts.{request_columns}
use Rattle.portal_tables_sql.specs.Causes.{IsTaken}
use Rattle.portal_tables_sql.proofs.Causes.{text_taken}
use Rattle.sqlite_tied.specs.Compute.{everything}
use Rattle.portal_tables_sql.proofs.WholeTables.{by_rowid, has_rowids}

abbrev pub all_plans_text : List ℕ
all_plans_text =
    codes "SELECT id, price, uses, seconds, bytes, shelf_days, extend FROM portal_plans ORDER BY rowid"

pub all_plans_means : (schema : Schema) (keyed : Bool) (at tree : ℕ)
    → TableExists schema at (plans_in keyed tree)
    → IsSelect schema all_plans_text 0 (plans_in keyed tree) [] by_rowid unlimited plan_columns
unfolding everything
all_plans_means schema keyed at tree exists =
    select_means schema all_plans_text plans_name plan_columns None (up (codes "rowid")) None 0
    (lit (Int (negsuc 0)), lit (Int (pos 0)))
    (drafted tree [] (all_columns (plans_in keyed tree)) by_rowid unlimited) (Some Binary
    ∷ Some Binary ∷ Some Binary ∷ Some Binary ∷ Some Binary ∷ Some Binary ∷ Some Binary ∷ [])
    (record { parsed = _; read = refl; is = refl; timeless = refl; counted = refl; whole = refl }) refl refl
    (simp (exists.named, exists.there, has_rowids tree exists.low) refl)
    (simp (exists.low, exists.typed) refl) refl (λ base. refl)

abbrev pub all_batches_text : List ℕ
all_batches_text = codes "SELECT id, plan_id, issued, expires, size FROM portal_batches ORDER BY rowid"

pub all_batches_means : (schema : Schema) (keyed : Bool) (at tree : ℕ)
    → TableExists schema at (batches_in keyed tree)
    → IsSelect schema all_batches_text 0 (batches_in keyed tree) [] by_rowid unlimited batch_columns
unfolding everything
all_batches_means schema keyed at tree exists =
    select_means schema all_batches_text batches_name batch_columns None (up (codes "rowid")) None 0
    (lit (Int (negsuc 0)), lit (Int (pos 0)))
    (drafted tree [] (all_columns (batches_in keyed tree)) by_rowid unlimited)
    (Some Binary ∷ Some Binary ∷ Some Binary ∷ Some Binary ∷ Some Binary ∷ [])
    (record { parsed = _; read = refl; is = refl; timeless = refl; counted = refl; whole = refl }) refl refl
    (simp (exists.named, exists.there, has_rowids tree exists.low) refl)
    (simp (exists.low, exists.typed) refl) refl (λ base. refl)

pub all_batches_taken : (schema : Schema) (keyed : Bool) (at tree : ℕ)
    → TableExists schema at (batches_in keyed tree)
    → IsTaken all_batches_text [] schema
unfolding everything
all_batches_taken schema keyed at tree exists =
    text_taken (all_batches_means schema keyed at tree exists) [] refl (simp (exists.low, exists.typed) refl)

abbrev pub all_vouchers_text : List ℕ
all_vouchers_text =
    codes "SELECT code, batch_id, place, sold, refunded, amount, redeemed FROM portal_vouchers "
    ++ codes "ORDER BY rowid"

pub all_vouchers_means : (schema : Schema) (at tree : ℕ) → TableExists schema at (vouchers tree)
    → IsSelect schema all_vouchers_text 0 (vouchers tree) [] by_rowid unlimited voucher_columns
unfolding everything
all_vouchers_means schema at tree exists =
    select_means schema all_vouchers_text vouchers_name voucher_columns None (up (codes "rowid")) None 0
    (lit (Int (negsuc 0)), lit (Int (pos 0)))
    (drafted tree [] (all_columns (vouchers tree)) by_rowid unlimited) (Some Binary
    ∷ Some Binary ∷ Some Binary ∷ Some Binary ∷ Some Binary ∷ Some Binary ∷ Some Binary ∷ [])
    (record { parsed = _; read = refl; is = refl; timeless = refl; counted = refl; whole = refl }) refl refl
    (simp (exists.named, exists.there, has_rowids tree exists.low) refl)
    (simp (exists.low, exists.typed) refl) refl (λ base. refl)

abbrev pub all_sessions_text : List ℕ
all_sessions_text =
    codes "SELECT number, device, plan_id, opened, used, closed, ends, remaining FROM portal_sessions "
    ++ codes "ORDER BY number"

pub all_sessions_means : (schema : Schema) (at tree : ℕ) → TableExists schema at (sessions tree)
    → IsSelect schema all_sessions_text 0 (sessions tree) [] by_rowid unlimited session_columns
unfolding everything
all_sessions_means schema at tree exists =
    select_means schema all_sessions_text sessions_name session_columns None (up (codes "number")) None 0
    (lit (Int (negsuc 0)), lit (Int (pos 0)))
    (drafted tree [] (all_columns (sessions tree)) by_rowid unlimited) (None
    ∷ Some Binary ∷ Some Binary ∷ Some Binary ∷ Some Binary ∷ Some Binary ∷ Some Binary ∷ Some Binary ∷ [])
    (record { parsed = _; read = refl; is = refl; timeless = refl; counted = refl; whole = refl }) refl refl
    (simp (exists.named, exists.there) refl) (simp (exists.low, exists.typed) refl) refl (λ base. refl)

abbrev pub all_grants_text : List ℕ
all_grants_text =
    codes "SELECT number, code, session, moment, seconds, bytes FROM portal_grants ORDER BY number"

abbrev pub all_grants_columns : List (List ℕ)
all_grants_columns =
    codes "number" ∷ codes "code" ∷ codes "session" ∷ codes "moment" ∷ codes "seconds" ∷ codes "bytes" ∷ []

pub all_grants_means : (schema : Schema) (keyed : Bool) (at tree : ℕ)
    → TableExists schema at (grants_in keyed tree)
    → IsSelect schema all_grants_text 0 (grants_in keyed tree) [] by_rowid unlimited all_grants_columns
unfolding everything
all_grants_means schema keyed at tree exists =
    select_means schema all_grants_text grants_name all_grants_columns None (up (codes "number")) None 0
    (lit (Int (negsuc 0)), lit (Int (pos 0)))
    (drafted tree [] (all_columns (grants_in keyed tree)) by_rowid unlimited) (None
    ∷ Some Binary ∷ Some Binary ∷ Some Binary ∷ Some Binary ∷ Some Binary ∷ [])
    (record { parsed = _; read = refl; is = refl; timeless = refl; counted = refl; whole = refl }) refl refl
    (simp (exists.named, exists.there) refl) (simp (exists.low, exists.typed) refl) refl (λ base. refl)

abbrev pub all_heads_text : List ℕ
all_heads_text = codes "SELECT id, layout, last_moment, grants, sessions FROM portal_head ORDER BY id"

pub all_heads_means : (schema : Schema) (keyed : Bool) (at tree : ℕ)
    → TableExists schema at (head_in keyed tree)
    → IsSelect schema all_heads_text 0 (head_in keyed tree) [] by_rowid unlimited head_columns
unfolding everything
all_heads_means schema keyed at tree exists =
    select_means schema all_heads_text head_name head_columns None (up (codes "id")) None 0
    (lit (Int (negsuc 0)), lit (Int (pos 0)))
    (drafted tree [] (all_columns (head_in keyed tree)) by_rowid unlimited)
    (None ∷ Some Binary ∷ Some Binary ∷ Some Binary ∷ Some Binary ∷ [])
    (record { parsed = _; read = refl; is = refl; timeless = refl; counted = refl; whole = refl }) refl refl
    (simp (exists.named, exists.there, has_rowids tree exists.low) refl)
    (simp (exists.low, exists.typed) refl) refl (λ base. refl)

abbrev pub all_requests_text : List ℕ
all_requests_text =
    codes "SELECT caller, number, method, path, body, kind, word, n1, n2, n3 FROM portal_requests "
    ++ codes "ORDER BY rowid"

pub all_requests_means : (schema : Schema) (keyed : Bool) (at tree : ℕ)
    → TableExists schema at (requests_in keyed tree)
    → IsSelect schema all_requests_text 0 (requests_in keyed tree) [] by_rowid unlimited request_columns
unfolding everything
all_requests_means schema keyed at tree exists =
    select_means schema all_requests_text requests_name request_columns None (up (codes "rowid")) None 0
    (lit (Int (negsuc 0)), lit (Int (pos 0)))
    (drafted tree [] (all_columns (requests_in keyed tree)) by_rowid unlimited)
    (Some Binary ∷ Some Binary ∷ Some Binary ∷ Some Binary ∷ Some Binary
    ∷ Some Binary ∷ Some Binary ∷ Some Binary ∷ Some Binary ∷ Some Binary ∷ [])
    (record { parsed = _; read = refl; is = refl; timeless = refl; counted = refl; whole = refl }) refl refl
    (simp (exists.named, exists.there, has_rowids tree exists.low) refl)
    (simp (exists.low, exists.typed) refl) refl (λ base. refl)

-- ---- the tables that keep counters apart, and those whose counters are apart

abbrev pub old_voucher_columns : List (List ℕ)
old_voucher_columns =
    codes "code" ∷ codes "batch_id" ∷ codes "place" ∷ codes "sold" ∷ codes "refunded" ∷ codes "amount" ∷ []

abbrev pub old_session_columns : List (List ℕ)
old_session_columns =
    codes "number" ∷ codes "device" ∷ codes "plan_id" ∷ codes "opened" ∷ codes "used" ∷ codes "closed" ∷ []

abbrev pub count_columns : List (List ℕ)
count_columns = codes "code" ∷ codes "redeemed" ∷ []

abbrev pub old_vouchers_text : List ℕ
old_vouchers_text =
    codes "SELECT code, batch_id, place, sold, refunded, amount FROM portal_vouchers ORDER BY rowid"

pub old_vouchers_means : (schema : Schema) (keyed : Bool) (at tree : ℕ)
    → TableExists schema at (vouchers_in keyed tree)
    → IsSelect schema old_vouchers_text 0 (vouchers_in keyed tree) [] by_rowid unlimited old_voucher_columns
unfolding everything
old_vouchers_means schema keyed at tree exists =
    select_means schema old_vouchers_text vouchers_name old_voucher_columns None (up (codes "rowid")) None 0
    (lit (Int (negsuc 0)), lit (Int (pos 0)))
    (drafted tree [] (all_columns (vouchers_in keyed tree)) by_rowid unlimited) (Some Binary
    ∷ Some Binary ∷ Some Binary ∷ Some Binary ∷ Some Binary ∷ Some Binary ∷ [])
    (record { parsed = _; read = refl; is = refl; timeless = refl; counted = refl; whole = refl }) refl refl
    (simp (exists.named, exists.there, has_rowids tree exists.low) refl)
    (simp (exists.low, exists.typed) refl) refl (λ base. refl)

abbrev pub old_sessions_text : List ℕ
old_sessions_text =
    codes "SELECT number, device, plan_id, opened, used, closed FROM portal_sessions ORDER BY number"

pub old_sessions_means : (schema : Schema) (keyed : Bool) (at tree : ℕ)
    → TableExists schema at (sessions_in keyed tree)
    → IsSelect schema old_sessions_text 0 (sessions_in keyed tree) [] by_rowid unlimited old_session_columns
unfolding everything
old_sessions_means schema keyed at tree exists =
    select_means schema old_sessions_text sessions_name old_session_columns None (up (codes "number")) None 0
    (lit (Int (negsuc 0)), lit (Int (pos 0)))
    (drafted tree [] (all_columns (sessions_in keyed tree)) by_rowid unlimited) (None
    ∷ Some Binary ∷ Some Binary ∷ Some Binary ∷ Some Binary ∷ Some Binary ∷ [])
    (record { parsed = _; read = refl; is = refl; timeless = refl; counted = refl; whole = refl }) refl refl
    (simp (exists.named, exists.there) refl) (simp (exists.low, exists.typed) refl) refl (λ base. refl)

abbrev pub old_counts_text : List ℕ
old_counts_text = codes "SELECT code, redeemed FROM portal_counts ORDER BY rowid"

pub old_counts_means : (schema : Schema) (keyed : Bool) (at tree : ℕ)
    → TableExists schema at (counts_in keyed tree)
    → IsSelect schema old_counts_text 0 (counts_in keyed tree) [] by_rowid unlimited count_columns
unfolding everything
old_counts_means schema keyed at tree exists =
    select_means schema old_counts_text counts_name count_columns None (up (codes "rowid")) None 0
    (lit (Int (negsuc 0)), lit (Int (pos 0)))
    (drafted tree [] (all_columns (counts_in keyed tree)) by_rowid unlimited) (Some Binary ∷ Some Binary ∷ [])
    (record { parsed = _; read = refl; is = refl; timeless = refl; counted = refl; whole = refl }) refl refl
    (simp (exists.named, exists.there, has_rowids tree exists.low) refl)
    (simp (exists.low, exists.typed) refl) refl (λ base. refl)

abbrev pub total_columns : List (List ℕ)
total_columns = codes "number" ∷ codes "ends" ∷ codes "remaining" ∷ []

abbrev pub old_totals_text : List ℕ
old_totals_text = codes "SELECT number, ends, remaining FROM portal_totals ORDER BY number"

pub old_totals_means : (schema : Schema) (keyed : Bool) (at tree : ℕ)
    → TableExists schema at (totals_in keyed tree)
    → IsSelect schema old_totals_text 0 (totals_in keyed tree) [] by_rowid unlimited total_columns
unfolding everything
old_totals_means schema keyed at tree exists =
    select_means schema old_totals_text totals_name total_columns None (up (codes "number")) None 0
    (lit (Int (negsuc 0)), lit (Int (pos 0)))
    (drafted tree [] (all_columns (totals_in keyed tree)) by_rowid unlimited)
    (None ∷ Some Binary ∷ Some Binary ∷ [])
    (record { parsed = _; read = refl; is = refl; timeless = refl; counted = refl; whole = refl }) refl refl
    (simp (exists.named, exists.there) refl) (simp (exists.low, exists.typed) refl) refl (λ base. refl)
