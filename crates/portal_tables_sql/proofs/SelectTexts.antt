-- What the SELECT statements mean, wherever the tables are in the schema.
use Rattle.portal_tables_sql.proofs.Common.{◌++◌, ℕ, pos, negsuc, List, [], ◌∷◌, codes, Some, None, refl}
use Rattle.portal_tables_sql.proofs.Common.{true, Int}
use Rattle.portal_tables_sql.proofs.Common.{lit, col, Schema, Binary, TableExists}
use Rattle.portal_tables_sql.proofs.Queries.{drafted, unlimited}
use Rattle.portal_tables_sql.proofs.Lookup.{IsSelect, all_columns, column_is, by}
use Rattle.portal_tables_sql.proofs.Selects.{select_means, where_is, down}
use Rattle.portal_tables_sql.specs.Tables.{head, plans, batches, vouchers, sessions}
use Rattle.portal_tables_sql.specs.Tables.{head_name, plans_name, batches_name, vouchers_name, sessions_name}
use Rattle.portal_tables_sql.specs.Causes.{IsTaken}
use Rattle.portal_tables_sql.specs.Stored.{number}
use Rattle.portal_tables_sql.proofs.Common.{Text}
use Rattle.portal_tables_sql.proofs.Causes.{text_taken}
use Rattle.sqlite_tied.specs.Compute.{everything}
use Rattle.sqlite_ast.specs.declared.Expr.TheVariants as expr

abbrev pub head_text : List ℕ
head_text = codes "SELECT id, layout, last_moment, grants, sessions FROM portal_head WHERE id = 1"

abbrev pub head_columns : List (List ℕ)
head_columns = codes "id" ∷ codes "layout" ∷ codes "last_moment" ∷ codes "grants" ∷ codes "sessions" ∷ []

pub head_means : (schema : Schema) (at tree : ℕ) → TableExists schema at (head tree) → IsSelect schema
    head_text 0 (head tree) (column_is (head tree) 0 (lit (Int (pos 1))) ∷ []) [] unlimited head_columns
unfolding everything
head_means schema at tree exists =
    select_means schema head_text head_name head_columns (where_is (codes "id") (expr.Integer (codes "1"))) []
    None 0 (lit (Int (negsuc 0)), lit (Int (pos 0)))
    (drafted tree (column_is (head tree) 0 (lit (Int (pos 1))) ∷ []) (all_columns (head tree)) [] unlimited)
    (None ∷ Some Binary ∷ Some Binary ∷ Some Binary ∷ Some Binary ∷ [])
    (record { parsed = _; read = refl; is = refl; timeless = refl; counted = refl; whole = refl }) refl refl
    (simp (exists.named, exists.there) refl) (simp (exists.low, exists.typed) refl) refl (λ base. refl)

pub head_taken : (schema : Schema) (at tree : ℕ) → TableExists schema at (head tree)
    → IsTaken head_text [] schema
unfolding everything
head_taken schema at tree exists =
    text_taken (head_means schema at tree exists) [] refl (simp (exists.low, exists.typed) refl)

abbrev pub plan_text : List ℕ
plan_text = codes "SELECT id, price, uses, seconds, bytes, shelf_days, extend FROM portal_plans WHERE id = ?1"

abbrev pub plan_columns : List (List ℕ)
plan_columns = codes "id" ∷ codes "price" ∷ codes "uses" ∷ codes "seconds" ∷ codes "bytes"
    ∷ codes "shelf_days" ∷ codes "extend" ∷ []

pub plan_means : (schema : Schema) (at tree : ℕ) → TableExists schema at (plans tree) → IsSelect schema
    plan_text 1 (plans tree) (column_is (plans tree) 0 (col 0 0) ∷ []) [] unlimited plan_columns
unfolding everything
plan_means schema at tree exists =
    select_means schema plan_text plans_name plan_columns (where_is (codes "id") (expr.Parameter 1)) [] None 1
    (lit (Int (negsuc 0)), lit (Int (pos 0)))
    (drafted tree (column_is (plans tree) 0 (col 0 0) ∷ []) (all_columns (plans tree)) [] unlimited)
    (Some Binary ∷ Some Binary ∷ Some Binary ∷ Some Binary ∷ Some Binary ∷ Some Binary ∷ Some Binary ∷ [])
    (record { parsed = _; read = refl; is = refl; timeless = refl; counted = refl; whole = refl }) refl refl
    (simp (exists.named, exists.there) refl) (simp (exists.low, exists.typed) refl) refl (λ base. refl)

pub plan_taken : (schema : Schema) (at tree : ℕ) → TableExists schema at (plans tree) → (id : List ℕ)
    → IsTaken plan_text (Text id ∷ []) schema
unfolding everything
plan_taken schema at tree exists id =
    text_taken (plan_means schema at tree exists) (Text id ∷ []) refl (simp (exists.low, exists.typed) refl)

abbrev pub batch_text : List ℕ
batch_text = codes "SELECT id, plan_id, issued, expires, size FROM portal_batches WHERE id = ?1"

abbrev pub batch_columns : List (List ℕ)
batch_columns = codes "id" ∷ codes "plan_id" ∷ codes "issued" ∷ codes "expires" ∷ codes "size" ∷ []

pub batch_means : (schema : Schema) (at tree : ℕ) → TableExists schema at (batches tree) → IsSelect schema
    batch_text 1 (batches tree) (column_is (batches tree) 0 (col 0 0) ∷ []) [] unlimited batch_columns
unfolding everything
batch_means schema at tree exists =
    select_means schema batch_text batches_name batch_columns (where_is (codes "id") (expr.Parameter 1)) []
    None 1 (lit (Int (negsuc 0)), lit (Int (pos 0)))
    (drafted tree (column_is (batches tree) 0 (col 0 0) ∷ []) (all_columns (batches tree)) [] unlimited)
    (Some Binary ∷ Some Binary ∷ Some Binary ∷ Some Binary ∷ Some Binary ∷ [])
    (record { parsed = _; read = refl; is = refl; timeless = refl; counted = refl; whole = refl }) refl refl
    (simp (exists.named, exists.there) refl) (simp (exists.low, exists.typed) refl) refl (λ base. refl)

pub batch_taken : (schema : Schema) (at tree : ℕ) → TableExists schema at (batches tree) → (id : List ℕ)
    → IsTaken batch_text (Text id ∷ []) schema
unfolding everything
batch_taken schema at tree exists id =
    text_taken (batch_means schema at tree exists) (Text id ∷ []) refl (simp (exists.low, exists.typed) refl)

abbrev pub voucher_text : List ℕ
voucher_text =
    codes "SELECT code, batch_id, place, sold, refunded, amount, redeemed FROM portal_vouchers "
    ++ codes "WHERE code = ?1"

abbrev pub voucher_columns : List (List ℕ)
voucher_columns =
    codes "code" ∷ codes "batch_id" ∷ codes "place" ∷ codes "sold" ∷ codes "refunded" ∷ codes "amount"
    ∷ codes "redeemed" ∷ []

pub voucher_means : (schema : Schema) (at tree : ℕ) → TableExists schema at (vouchers tree) → IsSelect schema
    voucher_text 1 (vouchers tree) (column_is (vouchers tree) 0 (col 0 0) ∷ []) [] unlimited voucher_columns
unfolding everything
voucher_means schema at tree exists =
    select_means schema voucher_text vouchers_name voucher_columns
    (where_is (codes "code") (expr.Parameter 1)) [] None 1 (lit (Int (negsuc 0)), lit (Int (pos 0)))
    (drafted tree (column_is (vouchers tree) 0 (col 0 0) ∷ []) (all_columns (vouchers tree)) [] unlimited)
    (Some Binary ∷ Some Binary ∷ Some Binary ∷ Some Binary ∷ Some Binary ∷ Some Binary ∷ Some Binary ∷ [])
    (record { parsed = _; read = refl; is = refl; timeless = refl; counted = refl; whole = refl }) refl refl
    (simp (exists.named, exists.there) refl) (simp (exists.low, exists.typed) refl) refl (λ base. refl)

pub voucher_taken : (schema : Schema) (at tree : ℕ) → TableExists schema at (vouchers tree) → (code : List ℕ)
    → IsTaken voucher_text (Text code ∷ []) schema
unfolding everything
voucher_taken schema at tree exists code =
    text_taken (voucher_means schema at tree exists) (Text code ∷ [])
    refl (simp (exists.low, exists.typed) refl)

abbrev pub session_text : List ℕ
session_text =
    codes "SELECT number, device, plan_id, opened, used, closed, ends, remaining FROM portal_sessions "
    ++ codes "WHERE number = ?1"

abbrev pub session_columns : List (List ℕ)
session_columns =
    codes "number" ∷ codes "device" ∷ codes "plan_id" ∷ codes "opened" ∷ codes "used" ∷ codes "closed"
    ∷ codes "ends" ∷ codes "remaining" ∷ []

pub session_means : (schema : Schema) (at tree : ℕ) → TableExists schema at (sessions tree) → IsSelect schema
    session_text 1 (sessions tree) (column_is (sessions tree) 0 (col 0 0) ∷ []) [] unlimited session_columns
unfolding everything
session_means schema at tree exists =
    select_means schema session_text sessions_name session_columns
    (where_is (codes "number") (expr.Parameter 1)) [] None 1 (lit (Int (negsuc 0)), lit (Int (pos 0)))
    (drafted tree (column_is (sessions tree) 0 (col 0 0) ∷ []) (all_columns (sessions tree)) [] unlimited)
    (None ∷ Some Binary ∷ Some Binary ∷ Some Binary ∷ Some Binary ∷ Some Binary ∷ Some Binary ∷ Some Binary
    ∷ [])
    (record { parsed = _; read = refl; is = refl; timeless = refl; counted = refl; whole = refl }) refl refl
    (simp (exists.named, exists.there) refl) (simp (exists.low, exists.typed) refl) refl (λ base. refl)

pub session_taken : (schema : Schema) (at tree : ℕ) → TableExists schema at (sessions tree) → (key : ℕ)
    → IsTaken session_text (number key ∷ []) schema
unfolding everything
session_taken schema at tree exists key =
    text_taken (session_means schema at tree exists) (number key ∷ [])
    refl (simp (exists.low, exists.typed) refl)

abbrev pub last_session_text : List ℕ
last_session_text =
    codes "SELECT number, device, plan_id, opened, used, closed, ends, remaining FROM portal_sessions "
    ++ codes "WHERE device = ?1 ORDER BY number DESC LIMIT 1"

pub last_session_means : (schema : Schema) (at tree : ℕ) → TableExists schema at (sessions tree)
    → IsSelect schema last_session_text 1 (sessions tree) (column_is (sessions tree) 1 (col 0 0) ∷ [])
    (by (sessions tree) 0 true) (pos 1) session_columns
unfolding everything
last_session_means schema at tree exists =
    select_means schema last_session_text sessions_name session_columns
    (where_is (codes "device") (expr.Parameter 1)) (down (codes "number")) (Some (expr.Integer (codes "1"))) 1
    (lit (Int (pos 1)), lit (Int (pos 0)))
    (drafted tree (column_is (sessions tree) 1 (col 0 0) ∷ [])
    (all_columns (sessions tree)) (by (sessions tree) 0 true) (pos 1))
    (None ∷ Some Binary ∷ Some Binary ∷ Some Binary ∷ Some Binary ∷ Some Binary ∷ Some Binary ∷ Some Binary
    ∷ [])
    (record { parsed = _; read = refl; is = refl; timeless = refl; counted = refl; whole = refl }) refl refl
    (simp (exists.named, exists.there) refl) (simp (exists.low, exists.typed) refl) refl (λ base. refl)

pub last_session_taken : (schema : Schema) (at tree : ℕ) → TableExists schema at (sessions tree)
    → (device : List ℕ)
    → IsTaken last_session_text (Text device ∷ []) schema
unfolding everything
last_session_taken schema at tree exists device =
    text_taken (last_session_means schema at tree exists) (Text device ∷ [])
    refl (simp (exists.low, exists.typed) refl)
