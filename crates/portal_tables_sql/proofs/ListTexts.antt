-- What the SELECT statements of lists mean, wherever the tables are in the schema.
use Rattle.portal_tables_sql.proofs.Common.{ℕ, pos, negsuc, List, [], ◌∷◌, ◌++◌, codes, Option, Some, None}
use Rattle.portal_tables_sql.proofs.Common.{refl, false, Int, Term, lit, col, op2, Schema, Table, place_of}
use Rattle.portal_tables_sql.proofs.Common.{Ge, Le, Binary, TableExists, Null}
use Rattle.portal_tables_sql.proofs.Queries.{drafted, unlimited}
use Rattle.portal_tables_sql.proofs.Lookup.{IsSelect, all_columns, by, column_is}
use Rattle.portal_tables_sql.proofs.Selects.{select_means, up, where_is}
use Rattle.portal_tables_sql.specs.Tables.{vouchers, vouchers_name, sessions, sessions_name}
use Rattle.portal_tables_sql.proofs.SelectTexts.{voucher_columns, session_columns}
use Rattle.portal_tables_sql.specs.Causes.{IsTaken}
use Rattle.portal_tables_sql.specs.Stored.{number}
use Rattle.portal_tables_sql.proofs.Common.{Text}
use Rattle.portal_tables_sql.proofs.Causes.{text_taken}
use Rattle.sqlite_tied.specs.Compute.{everything}
use Rattle.sqlite_ast.specs.declared.Expr.{Expr}
use Rattle.sqlite_ast.specs.declared.Expr.TheVariants as expr
use Rattle.sqlite_ast.specs.declared.Binary.TheVariants as binary
use Rattle.sqlite_sql.specs.declared.ops.BinaryOp.TheVariants as by_op
use Rattle.sqlite_sql.specs.declared.ops.CompareOp.TheVariants.{Gt}
use Rattle.portal_tables_sql.proofs.WholeTables.{by_rowid, has_rowids, IsSelectOf}

-- ---- the vouchers of a batch

abbrev pub batch_vouchers_text : List ℕ
batch_vouchers_text =
    codes "SELECT code, batch_id, place, sold, refunded, amount, redeemed FROM portal_vouchers"
    ++ codes " WHERE batch_id = ?1 ORDER BY place"

pub batch_vouchers_means : (schema : Schema) (at tree : ℕ) → TableExists schema at (vouchers tree)
    → IsSelect schema batch_vouchers_text 1 (vouchers tree) (column_is (vouchers tree) 1 (col 0 0) ∷ [])
    (by (vouchers tree) 2 false) unlimited voucher_columns
unfolding everything
batch_vouchers_means schema at tree exists =
    select_means schema batch_vouchers_text vouchers_name voucher_columns
    (where_is (codes "batch_id") (expr.Parameter 1)) (up (codes "place")) None 1
    (lit (Int (negsuc 0)), lit (Int (pos 0)))
    (drafted tree (column_is (vouchers tree) 1 (col 0 0) ∷ [])
    (all_columns (vouchers tree)) (by (vouchers tree) 2 false) unlimited)
    (Some Binary ∷ Some Binary ∷ Some Binary ∷ Some Binary ∷ Some Binary ∷ Some Binary ∷ Some Binary ∷ [])
    (record { parsed = _; read = refl; is = refl; timeless = refl; counted = refl; whole = refl }) refl refl
    (simp (exists.named, exists.there) refl) (simp (exists.low, exists.typed) refl) refl (λ base. refl)

pub batch_vouchers_taken : (schema : Schema) (at tree : ℕ) → TableExists schema at (vouchers tree)
    → (batch : List ℕ)
    → IsTaken batch_vouchers_text (Text batch ∷ []) schema
unfolding everything
batch_vouchers_taken schema at tree exists batch =
    text_taken (batch_vouchers_means schema at tree exists) (Text batch ∷ [])
    refl (simp (exists.low, exists.typed) refl)

-- ---- vouchers with a time between two

-- WHERE column >= ?1 AND column <= ?2
abbrev where_within : List ℕ → Option Expr
where_within name =
    Some (expr.Binary binary.And (expr.Binary binary.Ge (expr.Column None name) (expr.Parameter 1))
    (expr.Binary binary.Le (expr.Column None name) (expr.Parameter 2)))

-- the same as the terms that each row is tested by
abbrev pub within_terms : Table → ℕ → List Term
within_terms table at = op2 (by_op.Compare Ge Binary) (col 1 (place_of table at)) (col 0 0)
    ∷ op2 (by_op.Compare Le Binary) (col 1 (place_of table at)) (col 0 1) ∷ []

abbrev pub sold_text : List ℕ
sold_text = codes "SELECT batch_id, sold FROM portal_vouchers WHERE sold >= ?1 AND sold <= ?2 ORDER BY rowid"

abbrev pub sold_columns : List (List ℕ)
sold_columns = codes "batch_id" ∷ codes "sold" ∷ []

-- the same two as the terms of the result
abbrev pub sold_terms : Table → List Term
sold_terms table = col 1 (place_of table 1) ∷ col 1 (place_of table 3) ∷ []

pub sold_means : (schema : Schema) (at tree : ℕ) → TableExists schema at (vouchers tree)
    → IsSelectOf schema sold_text 2 (vouchers tree) (within_terms (vouchers tree) 3)
    (sold_terms (vouchers tree)) sold_columns
unfolding everything
sold_means schema at tree exists =
    select_means schema sold_text vouchers_name sold_columns (where_within (codes "sold"))
    (up (codes "rowid")) None 2 (lit (Int (negsuc 0)), lit (Int (pos 0)))
    (drafted tree (within_terms (vouchers tree) 3) (sold_terms (vouchers tree)) by_rowid unlimited)
    (Some Binary ∷ Some Binary ∷ [])
    (record { parsed = _; read = refl; is = refl; timeless = refl; counted = refl; whole = refl }) refl refl
    (simp (exists.named, exists.there, has_rowids tree exists.low) refl)
    (simp (exists.low, exists.typed) refl) refl (λ base. refl)

pub sold_taken : (schema : Schema) (at tree : ℕ) → TableExists schema at (vouchers tree) → (start last : ℕ)
    → IsTaken sold_text (number start ∷ number last ∷ []) schema
unfolding everything
sold_taken schema at tree exists start last =
    text_taken (sold_means schema at tree exists) (number start ∷ number last ∷ [])
    refl (simp (exists.low, exists.typed) refl)

abbrev pub ordered_text : List ℕ
ordered_text =
    codes "SELECT code, batch_id, place, sold, refunded, amount, redeemed FROM portal_vouchers"
    ++ codes " WHERE sold >= ?1 AND sold <= ?2 ORDER BY sold, code"

pub ordered_means : (schema : Schema) (at tree : ℕ) → TableExists schema at (vouchers tree)
    → IsSelect schema ordered_text 2 (vouchers tree) (within_terms (vouchers tree) 3)
    (by (vouchers tree) 3 false ++ by (vouchers tree) 0 false) unlimited voucher_columns
unfolding everything
ordered_means schema at tree exists =
    select_means schema ordered_text vouchers_name voucher_columns (where_within (codes "sold"))
    (up (codes "sold") ++ up (codes "code")) None 2 (lit (Int (negsuc 0)), lit (Int (pos 0)))
    (drafted tree (within_terms (vouchers tree) 3) (all_columns (vouchers tree))
    (by (vouchers tree) 3 false ++ by (vouchers tree) 0 false) unlimited)
    (Some Binary ∷ Some Binary ∷ Some Binary ∷ Some Binary ∷ Some Binary ∷ Some Binary ∷ Some Binary ∷ [])
    (record { parsed = _; read = refl; is = refl; timeless = refl; counted = refl; whole = refl }) refl refl
    (simp (exists.named, exists.there) refl) (simp (exists.low, exists.typed) refl) refl (λ base. refl)

pub ordered_taken : (schema : Schema) (at tree : ℕ) → TableExists schema at (vouchers tree) → (start last : ℕ)
    → IsTaken ordered_text (number start ∷ number last ∷ []) schema
unfolding everything
ordered_taken schema at tree exists start last =
    text_taken (ordered_means schema at tree exists) (number start ∷ number last ∷ [])
    refl (simp (exists.low, exists.typed) refl)

abbrev pub refunded_text : List ℕ
refunded_text =
    codes "SELECT code, batch_id, place, sold, refunded, amount, redeemed FROM portal_vouchers"
    ++ codes " WHERE refunded >= ?1 AND refunded <= ?2 ORDER BY refunded, code"

pub refunded_means : (schema : Schema) (at tree : ℕ) → TableExists schema at (vouchers tree)
    → IsSelect schema refunded_text 2 (vouchers tree) (within_terms (vouchers tree) 4)
    (by (vouchers tree) 4 false ++ by (vouchers tree) 0 false) unlimited voucher_columns
unfolding everything
refunded_means schema at tree exists =
    select_means schema refunded_text vouchers_name voucher_columns (where_within (codes "refunded"))
    (up (codes "refunded") ++ up (codes "code")) None 2 (lit (Int (negsuc 0)), lit (Int (pos 0)))
    (drafted tree (within_terms (vouchers tree) 4) (all_columns (vouchers tree))
    (by (vouchers tree) 4 false ++ by (vouchers tree) 0 false) unlimited)
    (Some Binary ∷ Some Binary ∷ Some Binary ∷ Some Binary ∷ Some Binary ∷ Some Binary ∷ Some Binary ∷ [])
    (record { parsed = _; read = refl; is = refl; timeless = refl; counted = refl; whole = refl }) refl refl
    (simp (exists.named, exists.there) refl) (simp (exists.low, exists.typed) refl) refl (λ base. refl)

pub refunded_taken : (schema : Schema) (at tree : ℕ) → TableExists schema at (vouchers tree)
    → (start last : ℕ)
    → IsTaken refunded_text (number start ∷ number last ∷ []) schema
unfolding everything
refunded_taken schema at tree exists start last =
    text_taken (refunded_means schema at tree exists) (number start ∷ number last ∷ [])
    refl (simp (exists.low, exists.typed) refl)

-- ---- the sessions that are open at a time

abbrev pub open_sessions_text : List ℕ
open_sessions_text =
    codes "SELECT number, device, plan_id, opened, used, closed, ends, remaining FROM portal_sessions "
    ++ codes "WHERE closed IS NULL AND (ends IS NULL OR ends > ?1) "
    ++ codes "AND (remaining IS NULL OR remaining > 0) ORDER BY number"

-- column IS NULL
abbrev is_null_in : List ℕ → Expr
is_null_in name = expr.Binary binary.Is (expr.Column None name) expr.Null

-- column IS NULL OR column > bound
abbrev null_or_above : List ℕ → Expr → Expr
null_or_above name bound =
    expr.Binary binary.Or (is_null_in name) (expr.Binary binary.Gt (expr.Column None name) bound)

-- WHERE closed IS NULL AND (ends IS NULL OR ends > ?1) AND (remaining IS NULL OR remaining > 0)
abbrev where_open : Option Expr
where_open =
    Some (expr.Binary binary.And
    (expr.Binary binary.And (is_null_in (codes "closed")) (null_or_above (codes "ends") (expr.Parameter 1)))
    (null_or_above (codes "remaining") (expr.Integer (codes "0"))))

-- the same as the terms that each row is tested by

abbrev null_term : Term → Term
null_term column = op2 (by_op.Is Binary) column (lit Null)

abbrev null_or_above_term : Term → Term → Term
null_or_above_term column bound =
    op2 by_op.Or (null_term column) (op2 (by_op.Compare Gt Binary) column bound)

abbrev pub open_terms : Table → List Term
open_terms table = null_term (col 1 (place_of table 5))
    ∷ null_or_above_term (col 1 (place_of table 6)) (col 0 0)
    ∷ null_or_above_term (col 1 (place_of table 7)) (lit (Int (pos 0))) ∷ []

pub open_sessions_means : (schema : Schema) (at tree : ℕ) → TableExists schema at (sessions tree)
    → IsSelect schema open_sessions_text 1 (sessions tree) (open_terms (sessions tree)) by_rowid unlimited
    session_columns
unfolding everything
open_sessions_means schema at tree exists =
    select_means schema open_sessions_text sessions_name session_columns where_open (up (codes "number")) None
    1 (lit (Int (negsuc 0)), lit (Int (pos 0)))
    (drafted tree (open_terms (sessions tree)) (all_columns (sessions tree)) by_rowid unlimited)
    (None ∷ Some Binary ∷ Some Binary ∷ Some Binary ∷ Some Binary ∷ Some Binary ∷ Some Binary ∷ Some Binary
    ∷ [])
    (record { parsed = _; read = refl; is = refl; timeless = refl; counted = refl; whole = refl }) refl refl
    (simp (exists.named, exists.there) refl) (simp (exists.low, exists.typed) refl) refl (λ base. refl)

pub open_sessions_taken : (schema : Schema) (at tree : ℕ) → TableExists schema at (sessions tree)
    → (moment : ℕ)
    → IsTaken open_sessions_text (number moment ∷ []) schema
unfolding everything
open_sessions_taken schema at tree exists moment =
    text_taken (open_sessions_means schema at tree exists) (number moment ∷ [])
    refl (simp (exists.low, exists.typed) refl)
