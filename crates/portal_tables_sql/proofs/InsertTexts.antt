-- What the INSERT statements mean, wherever the tables are in the schema.
use Rattle.portal_tables_sql.proofs.Common.{◌++◌, ℕ, pos, List, [], ◌∷◌, codes, refl, Null, Int, Term, lit}
use Rattle.portal_tables_sql.proofs.Common.{col}
use Rattle.portal_tables_sql.proofs.Common.{Schema, Values, Insert, TableExists}
use Rattle.portal_tables_sql.proofs.Texts.{Means, means_is}
use Rattle.portal_tables_sql.proofs.Selects.{insert_into}
use Rattle.portal_tables_sql.specs.Tables.{head, plans, batches, vouchers, sessions, grants}
use Rattle.portal_tables_sql.specs.Tables.{head_name, plans_name, batches_name, vouchers_name, sessions_name}
use Rattle.portal_tables_sql.specs.Tables.{grants_name}
use Rattle.sqlite_tied.specs.Compute.{everything}
use Rattle.sqlite_ast.specs.declared.Expr.TheVariants as expr

abbrev pub add_plan_text : List ℕ
add_plan_text =
    codes "INSERT INTO portal_plans (id, price, uses, seconds, bytes, shelf_days, extend) VALUES (?1, "
    ++ codes "?2, ?3, ?4, ?5, ?6, ?7)"

abbrev pub add_plan_terms : List Term
add_plan_terms = lit Null ∷ col 0 0 ∷ col 0 1 ∷ col 0 2 ∷ col 0 3 ∷ col 0 4 ∷ col 0 5 ∷ col 0 6 ∷ []

pub add_plan_means : (schema : Schema) (at tree : ℕ) → TableExists schema at (plans tree)
    → Means schema add_plan_text 7 (Insert at (Values add_plan_terms 8))
unfolding everything
add_plan_means schema at tree exists =
    means_is schema add_plan_text (insert_into plans_name (codes "id" ∷ codes "price" ∷ codes "uses" ∷ codes
    "seconds" ∷ codes "bytes" ∷ codes "shelf_days" ∷ codes "extend" ∷ []) (expr.Parameter 1 ∷ expr.Parameter 2
    ∷ expr.Parameter 3 ∷ expr.Parameter 4 ∷ expr.Parameter 5 ∷ expr.Parameter 6 ∷ expr.Parameter 7 ∷ []))
    7 _ (record { parsed = _; read = refl; is = refl; timeless = refl; counted = refl; whole = refl })
    (simp (exists.named, exists.there) refl) (λ base. refl) (λ base. simp (exists.named, exists.there) refl)

abbrev pub add_batch_text : List ℕ
add_batch_text =
    codes "INSERT INTO portal_batches (id, plan_id, issued, expires, size) VALUES (?1, ?2, ?3, ?4, ?5)"

abbrev pub add_batch_terms : List Term
add_batch_terms = lit Null ∷ col 0 0 ∷ col 0 1 ∷ col 0 2 ∷ col 0 3 ∷ col 0 4 ∷ []

pub add_batch_means : (schema : Schema) (at tree : ℕ) → TableExists schema at (batches tree)
    → Means schema add_batch_text 5 (Insert at (Values add_batch_terms 6))
unfolding everything
add_batch_means schema at tree exists =
    means_is schema add_batch_text (insert_into batches_name
    (codes "id" ∷ codes "plan_id" ∷ codes "issued" ∷ codes "expires" ∷ codes "size" ∷ [])
    (expr.Parameter 1 ∷ expr.Parameter 2 ∷ expr.Parameter 3 ∷ expr.Parameter 4 ∷ expr.Parameter 5 ∷ []))
    5 _ (record { parsed = _; read = refl; is = refl; timeless = refl; counted = refl; whole = refl })
    (simp (exists.named, exists.there) refl) (λ base. refl) (λ base. simp (exists.named, exists.there) refl)

abbrev pub add_voucher_text : List ℕ
add_voucher_text =
    codes "INSERT INTO portal_vouchers (code, batch_id, place, redeemed) VALUES (?1, ?2, ?3, 0)"

abbrev pub add_voucher_terms : List Term
add_voucher_terms = lit Null ∷ col 0 0 ∷ col 0 1 ∷ col 0 2 ∷ lit Null ∷ lit Null ∷ lit Null
    ∷ lit (Int (pos 0)) ∷ []

pub add_voucher_means : (schema : Schema) (at tree : ℕ) → TableExists schema at (vouchers tree)
    → Means schema add_voucher_text 3 (Insert at (Values add_voucher_terms 8))
unfolding everything
add_voucher_means schema at tree exists =
    means_is schema add_voucher_text
    (insert_into vouchers_name (codes "code" ∷ codes "batch_id" ∷ codes "place" ∷ codes "redeemed" ∷ [])
    (expr.Parameter 1 ∷ expr.Parameter 2 ∷ expr.Parameter 3 ∷ expr.Integer (codes "0") ∷ []))
    3 _ (record { parsed = _; read = refl; is = refl; timeless = refl; counted = refl; whole = refl })
    (simp (exists.named, exists.there) refl) (λ base. refl) (λ base. simp (exists.named, exists.there) refl)

abbrev pub add_session_text : List ℕ
add_session_text =
    codes "INSERT INTO portal_sessions (number, device, plan_id, opened, used, ends, remaining) VALUES (?1, "
    ++ codes "?2, ?3, ?4, 0, ?5, ?6)"

abbrev pub add_session_terms : List Term
add_session_terms = col 0 0 ∷ lit Null ∷ col 0 1 ∷ col 0 2 ∷ col 0 3 ∷ lit (Int (pos 0)) ∷ lit Null
    ∷ col 0 4 ∷ col 0 5 ∷ []

pub add_session_means : (schema : Schema) (at tree : ℕ) → TableExists schema at (sessions tree)
    → Means schema add_session_text 6 (Insert at (Values add_session_terms 9))
unfolding everything
add_session_means schema at tree exists =
    means_is schema add_session_text (insert_into sessions_name
    (codes "number" ∷ codes "device" ∷ codes "plan_id" ∷ codes "opened" ∷ codes "used" ∷ codes "ends"
    ∷ codes "remaining" ∷ []) (expr.Parameter 1 ∷ expr.Parameter 2 ∷ expr.Parameter 3 ∷ expr.Parameter 4
    ∷ expr.Integer (codes "0") ∷ expr.Parameter 5 ∷ expr.Parameter 6 ∷ []))
    6 _ (record { parsed = _; read = refl; is = refl; timeless = refl; counted = refl; whole = refl })
    (simp (exists.named, exists.there) refl) (λ base. refl) (λ base. simp (exists.named, exists.there) refl)

abbrev pub add_grant_text : List ℕ
add_grant_text =
    codes "INSERT INTO portal_grants (number, code, session, moment, seconds, bytes) VALUES (?1, ?2, ?3, "
    ++ codes "?4, ?5, ?6)"

abbrev pub add_grant_terms : List Term
add_grant_terms = col 0 0 ∷ lit Null ∷ col 0 1 ∷ col 0 2 ∷ col 0 3 ∷ col 0 4 ∷ col 0 5 ∷ []

pub add_grant_means : (schema : Schema) (at tree : ℕ) → TableExists schema at (grants tree)
    → Means schema add_grant_text 6 (Insert at (Values add_grant_terms 7))
unfolding everything
add_grant_means schema at tree exists =
    means_is schema add_grant_text (insert_into grants_name (codes "number" ∷ codes "code"
    ∷ codes "session" ∷ codes "moment" ∷ codes "seconds" ∷ codes "bytes" ∷ []) (expr.Parameter 1
    ∷ expr.Parameter 2 ∷ expr.Parameter 3 ∷ expr.Parameter 4 ∷ expr.Parameter 5 ∷ expr.Parameter 6 ∷ []))
    6 _ (record { parsed = _; read = refl; is = refl; timeless = refl; counted = refl; whole = refl })
    (simp (exists.named, exists.there) refl) (λ base. refl) (λ base. simp (exists.named, exists.there) refl)

abbrev pub add_head_text : List ℕ
add_head_text =
    codes "INSERT INTO portal_head (id, layout, last_moment, grants, sessions) VALUES (1, ?1, 0, 0, 0)"

abbrev pub add_head_terms : List Term
add_head_terms =
    lit (Int (pos 1)) ∷ lit Null ∷ col 0 0 ∷ lit (Int (pos 0)) ∷ lit (Int (pos 0)) ∷ lit (Int (pos 0)) ∷ []

pub add_head_means : (schema : Schema) (at tree : ℕ) → TableExists schema at (head tree)
    → Means schema add_head_text 1 (Insert at (Values add_head_terms 6))
unfolding everything
add_head_means schema at tree exists =
    means_is schema add_head_text (insert_into head_name (codes "id" ∷ codes "layout" ∷ codes "last_moment"
    ∷ codes "grants" ∷ codes "sessions" ∷ []) (expr.Integer (codes "1") ∷ expr.Parameter 1
    ∷ expr.Integer (codes "0") ∷ expr.Integer (codes "0") ∷ expr.Integer (codes "0") ∷ []))
    1 _ (record { parsed = _; read = refl; is = refl; timeless = refl; counted = refl; whole = refl })
    (simp (exists.named, exists.there) refl) (λ base. refl) (λ base. simp (exists.named, exists.there) refl)

-- ---- with all columns

abbrev pub add_whole_voucher_text : List ℕ
add_whole_voucher_text =
    codes "INSERT INTO portal_vouchers (code, batch_id, place, sold, refunded, amount, redeemed) VALUES (?1, "
    ++ codes "?2, ?3, ?4, ?5, ?6, ?7)"

abbrev pub add_whole_voucher_terms : List Term
add_whole_voucher_terms = lit Null ∷ col 0 0 ∷ col 0 1 ∷ col 0 2 ∷ col 0 3 ∷ col 0 4 ∷ col 0 5
    ∷ col 0 6 ∷ []

pub add_whole_voucher_means : (schema : Schema) (at tree : ℕ) → TableExists schema at (vouchers tree)
    → Means schema add_whole_voucher_text 7 (Insert at (Values add_whole_voucher_terms 8))
unfolding everything
add_whole_voucher_means schema at tree exists =
    means_is schema add_whole_voucher_text (insert_into vouchers_name
    (codes "code" ∷ codes "batch_id" ∷ codes "place" ∷ codes "sold" ∷ codes "refunded" ∷ codes "amount"
    ∷ codes "redeemed" ∷ [])
    (expr.Parameter 1 ∷ expr.Parameter 2 ∷ expr.Parameter 3 ∷ expr.Parameter 4 ∷ expr.Parameter 5
    ∷ expr.Parameter 6 ∷ expr.Parameter 7 ∷ []))
    7 _ (record { parsed = _; read = refl; is = refl; timeless = refl; counted = refl; whole = refl })
    (simp (exists.named, exists.there) refl) (λ base. refl) (λ base. simp (exists.named, exists.there) refl)

abbrev pub add_whole_session_text : List ℕ
add_whole_session_text =
    codes "INSERT INTO portal_sessions (number, device, plan_id, opened, used, closed, ends, remaining) "
    ++ codes "VALUES (?1, ?2, ?3, ?4, ?5, ?6, ?7, ?8)"

abbrev pub add_whole_session_terms : List Term
add_whole_session_terms = col 0 0 ∷ lit Null ∷ col 0 1 ∷ col 0 2 ∷ col 0 3 ∷ col 0 4 ∷ col 0 5
    ∷ col 0 6 ∷ col 0 7 ∷ []

pub add_whole_session_means : (schema : Schema) (at tree : ℕ) → TableExists schema at (sessions tree)
    → Means schema add_whole_session_text 8 (Insert at (Values add_whole_session_terms 9))
unfolding everything
add_whole_session_means schema at tree exists =
    means_is schema add_whole_session_text (insert_into sessions_name (codes "number" ∷ codes "device"
    ∷ codes "plan_id" ∷ codes "opened" ∷ codes "used" ∷ codes "closed" ∷ codes "ends" ∷ codes "remaining"
    ∷ []) (expr.Parameter 1 ∷ expr.Parameter 2 ∷ expr.Parameter 3 ∷ expr.Parameter 4 ∷ expr.Parameter 5
    ∷ expr.Parameter 6 ∷ expr.Parameter 7 ∷ expr.Parameter 8 ∷ []))
    8 _ (record { parsed = _; read = refl; is = refl; timeless = refl; counted = refl; whole = refl })
    (simp (exists.named, exists.there) refl) (λ base. refl) (λ base. simp (exists.named, exists.there) refl)

abbrev pub add_whole_head_text : List ℕ
add_whole_head_text =
    codes "INSERT INTO portal_head (id, layout, last_moment, grants, sessions) VALUES (?1, ?2, ?3, ?4, ?5)"

abbrev pub add_whole_head_terms : List Term
add_whole_head_terms = col 0 0 ∷ lit Null ∷ col 0 1 ∷ col 0 2 ∷ col 0 3 ∷ col 0 4 ∷ []

pub add_whole_head_means : (schema : Schema) (at tree : ℕ) → TableExists schema at (head tree)
    → Means schema add_whole_head_text 5 (Insert at (Values add_whole_head_terms 6))
unfolding everything
add_whole_head_means schema at tree exists =
    means_is schema add_whole_head_text (insert_into head_name (codes "id" ∷ codes "layout"
    ∷ codes "last_moment" ∷ codes "grants" ∷ codes "sessions" ∷ []) (expr.Parameter 1
    ∷ expr.Parameter 2 ∷ expr.Parameter 3 ∷ expr.Parameter 4 ∷ expr.Parameter 5 ∷ []))
    5 _ (record { parsed = _; read = refl; is = refl; timeless = refl; counted = refl; whole = refl })
    (simp (exists.named, exists.there) refl) (λ base. refl) (λ base. simp (exists.named, exists.there) refl)
