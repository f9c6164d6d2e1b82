-- What the UPDATE statements mean, wherever the tables are in the schema.
use Rattle.portal_tables_sql.proofs.Common.{ℕ, pos, List, [], ◌∷◌, codes, refl, Null, Int, Term, lit, col}
use Rattle.portal_tables_sql.proofs.Common.{Schema, Update, TableExists}
use Rattle.portal_tables_sql.proofs.Queries.{over, equals}
use Rattle.portal_tables_sql.proofs.Texts.{Means, means_is}
use Rattle.portal_tables_sql.proofs.Selects.{update_where}
use Rattle.portal_tables_sql.specs.Tables.{head, vouchers, sessions, head_name, vouchers_name}
use Rattle.portal_tables_sql.specs.Tables.{sessions_name}
use Rattle.sqlite_tied.specs.Compute.{everything}
use Rattle.sqlite_ast.specs.declared.Expr.TheVariants as expr

-- ---- what WHERE tests: the text in the first column after the rowid, the number, or the number 1

abbrev pub by_code : List Term
by_code = equals (col 1 1) (col 0 0) ∷ []

abbrev pub by_number : List Term
by_number = equals (col 1 0) (col 0 0) ∷ []

abbrev pub by_one : List Term
by_one = equals (col 1 0) (lit (Int (pos 1))) ∷ []

-- the text sets the rows of the tree that pass the test to these terms, the rowid first
abbrev pub IsSet : Schema → List ℕ → ℕ → ℕ → ℕ → List Term → List Term → Type 0
IsSet schema sql count at tree test terms =
    Means schema sql count (Update at (record { lets = []; body = over tree test (col 1 0 ∷ terms) }))

-- ---- the texts

abbrev pub sell_text : List ℕ
sell_text = codes "UPDATE portal_vouchers SET sold = ?2 WHERE code = ?1"

abbrev pub sell_terms : List Term
sell_terms = col 1 0 ∷ col 1 1 ∷ col 1 2 ∷ col 1 3 ∷ col 0 1 ∷ col 1 5 ∷ col 1 6 ∷ col 1 7 ∷ []

pub sell_means : (schema : Schema) (at tree : ℕ) → TableExists schema at (vouchers tree)
    → IsSet schema sell_text 2 at tree by_code sell_terms
unfolding everything
sell_means schema at tree exists =
    means_is schema sell_text
    (update_where vouchers_name ((codes "sold", expr.Parameter 2) ∷ []) (codes "code") (expr.Parameter 1))
    2 _ (record { parsed = _; read = refl; is = refl; timeless = refl; counted = refl; whole = refl }) refl
    (λ base. refl)
    (λ base. simp (exists.named, exists.there, exists.low, exists.typed) refl)

abbrev pub refund_text : List ℕ
refund_text = codes "UPDATE portal_vouchers SET refunded = ?2, amount = ?3 WHERE code = ?1"

abbrev pub refund_terms : List Term
refund_terms = col 1 0 ∷ col 1 1 ∷ col 1 2 ∷ col 1 3 ∷ col 1 4 ∷ col 0 1 ∷ col 0 2 ∷ col 1 7 ∷ []

pub refund_means : (schema : Schema) (at tree : ℕ) → TableExists schema at (vouchers tree)
    → IsSet schema refund_text 3 at tree by_code refund_terms
unfolding everything
refund_means schema at tree exists =
    means_is schema refund_text (update_where vouchers_name ((
      codes "refunded",
      expr.Parameter 2,
    ) ∷ (codes "amount", expr.Parameter 3) ∷ []) (codes "code") (expr.Parameter 1)) 3 _
    (record { parsed = _; read = refl; is = refl; timeless = refl; counted = refl; whole = refl }) refl
    (λ base. refl)
    (λ base. simp (exists.named, exists.there, exists.low, exists.typed) refl)

abbrev pub set_moment_text : List ℕ
set_moment_text = codes "UPDATE portal_head SET last_moment = ?1 WHERE id = 1"

abbrev pub set_moment_terms : List Term
set_moment_terms = col 1 0 ∷ lit Null ∷ col 1 2 ∷ col 0 0 ∷ col 1 4 ∷ col 1 5 ∷ []

pub set_moment_means : (schema : Schema) (at tree : ℕ) → TableExists schema at (head tree)
    → IsSet schema set_moment_text 1 at tree by_one set_moment_terms
unfolding everything
set_moment_means schema at tree exists =
    means_is schema set_moment_text (update_where head_name
    ((codes "last_moment", expr.Parameter 1) ∷ []) (codes "id") (expr.Integer (codes "1")))
    1 _ (record { parsed = _; read = refl; is = refl; timeless = refl; counted = refl; whole = refl }) refl
    (λ base. refl)
    (λ base. simp (exists.named, exists.there, exists.low, exists.typed) refl)

abbrev pub set_numbers_text : List ℕ
set_numbers_text = codes "UPDATE portal_head SET last_moment = ?1, grants = ?2, sessions = ?3 WHERE id = 1"

abbrev pub set_numbers_terms : List Term
set_numbers_terms = col 1 0 ∷ lit Null ∷ col 1 2 ∷ col 0 0 ∷ col 0 1 ∷ col 0 2 ∷ []

pub set_numbers_means : (schema : Schema) (at tree : ℕ) → TableExists schema at (head tree)
    → IsSet schema set_numbers_text 3 at tree by_one set_numbers_terms
unfolding everything
set_numbers_means schema at tree exists =
    means_is schema set_numbers_text (update_where head_name ((
      codes "last_moment",
      expr.Parameter 1,
    ) ∷ (codes "grants", expr.Parameter 2) ∷ (
      codes "sessions",
      expr.Parameter 3,
    ) ∷ []) (codes "id") (expr.Integer (codes "1"))) 3 _
    (record { parsed = _; read = refl; is = refl; timeless = refl; counted = refl; whole = refl }) refl
    (λ base. refl)
    (λ base. simp (exists.named, exists.there, exists.low, exists.typed) refl)

abbrev pub set_layout_text : List ℕ
set_layout_text = codes "UPDATE portal_head SET layout = ?1 WHERE id = 1"

abbrev pub set_layout_terms : List Term
set_layout_terms = col 1 0 ∷ lit Null ∷ col 0 0 ∷ col 1 3 ∷ col 1 4 ∷ col 1 5 ∷ []

pub set_layout_means : (schema : Schema) (at tree : ℕ) → TableExists schema at (head tree)
    → IsSet schema set_layout_text 1 at tree by_one set_layout_terms
unfolding everything
set_layout_means schema at tree exists =
    means_is schema set_layout_text
    (update_where head_name ((codes "layout", expr.Parameter 1) ∷ []) (codes "id") (expr.Integer (codes "1")))
    1 _ (record { parsed = _; read = refl; is = refl; timeless = refl; counted = refl; whole = refl }) refl
    (λ base. refl)
    (λ base. simp (exists.named, exists.there, exists.low, exists.typed) refl)

abbrev pub set_used_text : List ℕ
set_used_text = codes "UPDATE portal_sessions SET used = ?2 WHERE number = ?1"

abbrev pub set_used_terms : List Term
set_used_terms = col 1 0 ∷ lit Null ∷ col 1 2 ∷ col 1 3 ∷ col 1 4 ∷ col 0 1 ∷ col 1 6 ∷ col 1 7 ∷ col 1 8
    ∷ []

pub set_used_means : (schema : Schema) (at tree : ℕ) → TableExists schema at (sessions tree)
    → IsSet schema set_used_text 2 at tree by_number set_used_terms
unfolding everything
set_used_means schema at tree exists =
    means_is schema set_used_text
    (update_where sessions_name ((codes "used", expr.Parameter 2) ∷ []) (codes "number") (expr.Parameter 1))
    2 _ (record { parsed = _; read = refl; is = refl; timeless = refl; counted = refl; whole = refl }) refl
    (λ base. refl)
    (λ base. simp (exists.named, exists.there, exists.low, exists.typed) refl)

abbrev pub set_closed_text : List ℕ
set_closed_text = codes "UPDATE portal_sessions SET closed = ?2 WHERE number = ?1"

abbrev pub set_closed_terms : List Term
set_closed_terms = col 1 0 ∷ lit Null ∷ col 1 2 ∷ col 1 3 ∷ col 1 4 ∷ col 1 5 ∷ col 0 1 ∷ col 1 7
    ∷ col 1 8 ∷ []

pub set_closed_means : (schema : Schema) (at tree : ℕ) → TableExists schema at (sessions tree)
    → IsSet schema set_closed_text 2 at tree by_number set_closed_terms
unfolding everything
set_closed_means schema at tree exists =
    means_is schema set_closed_text
    (update_where sessions_name ((codes "closed", expr.Parameter 2) ∷ []) (codes "number") (expr.Parameter 1))
    2 _ (record { parsed = _; read = refl; is = refl; timeless = refl; counted = refl; whole = refl }) refl
    (λ base. refl)
    (λ base. simp (exists.named, exists.there, exists.low, exists.typed) refl)

abbrev pub set_redeemed_text : List ℕ
set_redeemed_text = codes "UPDATE portal_vouchers SET redeemed = ?2 WHERE code = ?1"

abbrev pub set_redeemed_terms : List Term
set_redeemed_terms = col 1 0 ∷ col 1 1 ∷ col 1 2 ∷ col 1 3 ∷ col 1 4 ∷ col 1 5 ∷ col 1 6 ∷ col 0 1 ∷ []

pub set_redeemed_means : (schema : Schema) (at tree : ℕ) → TableExists schema at (vouchers tree)
    → IsSet schema set_redeemed_text 2 at tree by_code set_redeemed_terms
unfolding everything
set_redeemed_means schema at tree exists =
    means_is schema set_redeemed_text
    (update_where vouchers_name ((codes "redeemed", expr.Parameter 2) ∷ []) (codes "code") (expr.Parameter 1))
    2 _ (record { parsed = _; read = refl; is = refl; timeless = refl; counted = refl; whole = refl }) refl
    (λ base. refl)
    (λ base. simp (exists.named, exists.there, exists.low, exists.typed) refl)

abbrev pub set_total_text : List ℕ
set_total_text = codes "UPDATE portal_sessions SET ends = ?2, remaining = ?3 WHERE number = ?1"

abbrev pub set_total_terms : List Term
set_total_terms = col 1 0 ∷ lit Null ∷ col 1 2 ∷ col 1 3 ∷ col 1 4 ∷ col 1 5 ∷ col 1 6 ∷ col 0 1 ∷ col 0 2
    ∷ []

pub set_total_means : (schema : Schema) (at tree : ℕ) → TableExists schema at (sessions tree)
    → IsSet schema set_total_text 3 at tree by_number set_total_terms
unfolding everything
set_total_means schema at tree exists =
    means_is schema set_total_text
    (update_where sessions_name ((codes "ends", expr.Parameter 2) ∷ (codes "remaining", expr.Parameter 3) ∷
    [])
    (codes "number") (expr.Parameter 1))
    3 _ (record { parsed = _; read = refl; is = refl; timeless = refl; counted = refl; whole = refl }) refl
    (λ base. refl)
    (λ base. simp (exists.named, exists.there, exists.low, exists.typed) refl)
