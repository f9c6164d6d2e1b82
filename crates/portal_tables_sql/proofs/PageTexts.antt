-- What the SELECT statements with a LIMIT mean, wherever the tables are in the schema, and that of one
-- redemption.
use Rattle.portal_tables_sql.proofs.Common.{ℕ, pos, negsuc, List, [], ◌∷◌, ◌++◌, codes, Option, Some, None}
use Rattle.portal_tables_sql.proofs.Common.{refl, true, false, Int, Term, lit, col, op2, Schema, Table}
use Rattle.portal_tables_sql.proofs.Common.{place_of, Ge, Le, Binary, TableExists}
use Rattle.portal_tables_sql.proofs.Queries.{drafted, unlimited}
use Rattle.portal_tables_sql.proofs.Lookup.{IsSelect, all_columns, by, column_is}
use Rattle.portal_tables_sql.proofs.Selects.{select_means, up, down, where_is}
use Rattle.portal_tables_sql.specs.Tables.{vouchers, vouchers_name, batches, batches_name, grants}
use Rattle.portal_tables_sql.specs.Tables.{grants_name}
use Rattle.portal_tables_sql.proofs.SelectTexts.{voucher_columns, batch_columns}
use Rattle.portal_tables_sql.specs.Causes.{IsTaken}
use Rattle.portal_tables_sql.specs.Stored.{number}
use Rattle.portal_tables_sql.proofs.Common.{Text}
use Rattle.portal_tables_sql.proofs.Causes.{text_taken}
use Rattle.sqlite_tied.specs.Compute.{everything}
use Rattle.sqlite_ast.specs.declared.Expr.{Expr}
use Rattle.sqlite_ast.specs.declared.Expr.TheVariants as expr
use Rattle.sqlite_ast.specs.declared.Binary.TheVariants as binary
use Rattle.sqlite_sql.specs.declared.ops.BinaryOp.TheVariants as by_op
use Rattle.sqlite_sql.specs.declared.ops.CompareOp.TheVariants.{Lt}

-- ---- vouchers from one text on and below another one

abbrev pub between_text : List ℕ
between_text =
    codes "SELECT code, batch_id, place, sold, refunded, amount, redeemed FROM portal_vouchers"
    ++ codes " WHERE code >= ?1 AND code < ?2 ORDER BY code LIMIT 51"

-- WHERE code >= ?1 AND code < ?2
abbrev where_between : Option Expr
where_between =
    Some (expr.Binary binary.And (expr.Binary binary.Ge (expr.Column None (codes "code")) (expr.Parameter 1))
    (expr.Binary binary.Lt (expr.Column None (codes "code")) (expr.Parameter 2)))

-- the same as the terms that each row is tested by
abbrev pub between_terms : Table → List Term
between_terms table = op2 (by_op.Compare Ge Binary) (col 1 (place_of table 0)) (col 0 0)
    ∷ op2 (by_op.Compare Lt Binary) (col 1 (place_of table 0)) (col 0 1) ∷ []

pub between_means : (schema : Schema) (at tree : ℕ) → TableExists schema at (vouchers tree)
    → IsSelect schema between_text 2 (vouchers tree) (between_terms (vouchers tree))
    (by (vouchers tree) 0 false) (pos 51) voucher_columns
unfolding everything
between_means schema at tree exists =
    select_means schema between_text vouchers_name voucher_columns where_between (up (codes "code"))
    (Some (expr.Integer (codes "51"))) 2 (lit (Int (pos 51)), lit (Int (pos 0)))
    (drafted tree (between_terms (vouchers tree)) (all_columns (vouchers tree)) (by (vouchers tree) 0 false)
    (pos 51))
    (Some Binary ∷ Some Binary ∷ Some Binary ∷ Some Binary ∷ Some Binary ∷ Some Binary ∷ Some Binary ∷ [])
    (record { parsed = _; read = refl; is = refl; timeless = refl; counted = refl; whole = refl }) refl refl
    (simp (exists.named, exists.there) refl) (simp (exists.low, exists.typed) refl) refl (λ base. refl)

pub between_taken : (schema : Schema) (at tree : ℕ) → TableExists schema at (vouchers tree)
    → (low high : List ℕ)
    → IsTaken between_text (Text low ∷ Text high ∷ []) schema
unfolding everything
between_taken schema at tree exists low high =
    text_taken (between_means schema at tree exists) (Text low ∷ Text high ∷ [])
    refl (simp (exists.low, exists.typed) refl)

-- ---- batches behind a place in their list

abbrev pub behind_text : List ℕ
behind_text =
    codes "SELECT id, plan_id, issued, expires, size FROM portal_batches"
    ++ codes " WHERE issued <= ?1 AND (issued < ?1 OR id < ?2) ORDER BY issued DESC, id DESC LIMIT 21"

-- WHERE issued <= ?1 AND (issued < ?1 OR id < ?2)
abbrev where_behind : Option Expr
where_behind =
    Some (expr.Binary binary.And
    (expr.Binary binary.Le (expr.Column None (codes "issued")) (expr.Parameter 1))
    (expr.Binary binary.Or
    (expr.Binary binary.Lt (expr.Column None (codes "issued")) (expr.Parameter 1))
    (expr.Binary binary.Lt (expr.Column None (codes "id")) (expr.Parameter 2))))

-- the same as the terms that each row is tested by
abbrev pub behind_terms : Table → List Term
behind_terms table = op2 (by_op.Compare Le Binary) (col 1 (place_of table 2)) (col 0 0)
    ∷ op2 by_op.Or (op2 (by_op.Compare Lt Binary) (col 1 (place_of table 2)) (col 0 0))
    (op2 (by_op.Compare Lt Binary) (col 1 (place_of table 0)) (col 0 1)) ∷ []

pub behind_means : (schema : Schema) (at tree : ℕ) → TableExists schema at (batches tree)
    → IsSelect schema behind_text 2 (batches tree) (behind_terms (batches tree))
    (by (batches tree) 2 true ++ by (batches tree) 0 true) (pos 21) batch_columns
unfolding everything
behind_means schema at tree exists =
    select_means schema behind_text batches_name batch_columns where_behind
    (down (codes "issued") ++ down (codes "id"))
    (Some (expr.Integer (codes "21"))) 2 (lit (Int (pos 21)), lit (Int (pos 0)))
    (drafted tree (behind_terms (batches tree)) (all_columns (batches tree))
    (by (batches tree) 2 true ++ by (batches tree) 0 true) (pos 21))
    (Some Binary ∷ Some Binary ∷ Some Binary ∷ Some Binary ∷ Some Binary ∷ [])
    (record { parsed = _; read = refl; is = refl; timeless = refl; counted = refl; whole = refl }) refl refl
    (simp (exists.named, exists.there) refl) (simp (exists.low, exists.typed) refl) refl (λ base. refl)

pub behind_taken : (schema : Schema) (at tree : ℕ) → TableExists schema at (batches tree)
    → (issued : ℕ) (id : List ℕ)
    → IsTaken behind_text (number issued ∷ Text id ∷ []) schema
unfolding everything
behind_taken schema at tree exists issued id =
    text_taken (behind_means schema at tree exists) (number issued ∷ Text id ∷ [])
    refl (simp (exists.low, exists.typed) refl)

-- ---- redemptions

abbrev pub grant_columns : List (List ℕ)
grant_columns = codes "number" ∷ codes "code" ∷ codes "session" ∷ codes "moment" ∷ codes "seconds"
    ∷ codes "bytes" ∷ []

abbrev pub grant_text : List ℕ
grant_text =
    codes "SELECT number, code, session, moment, seconds, bytes FROM portal_grants WHERE number = ?1"

pub grant_means : (schema : Schema) (at tree : ℕ) → TableExists schema at (grants tree) → IsSelect schema
    grant_text 1 (grants tree) (column_is (grants tree) 0 (col 0 0) ∷ []) [] unlimited grant_columns
unfolding everything
grant_means schema at tree exists =
    select_means schema grant_text grants_name grant_columns (where_is (codes "number") (expr.Parameter 1)) []
    None 1 (lit (Int (negsuc 0)), lit (Int (pos 0)))
    (drafted tree (column_is (grants tree) 0 (col 0 0) ∷ []) (all_columns (grants tree)) [] unlimited)
    (None ∷ Some Binary ∷ Some Binary ∷ Some Binary ∷ Some Binary ∷ Some Binary ∷ [])
    (record { parsed = _; read = refl; is = refl; timeless = refl; counted = refl; whole = refl }) refl refl
    (simp (exists.named, exists.there) refl) (simp (exists.low, exists.typed) refl) refl (λ base. refl)

pub grant_taken : (schema : Schema) (at tree : ℕ) → TableExists schema at (grants tree) → (key : ℕ)
    → IsTaken grant_text (number key ∷ []) schema
unfolding everything
grant_taken schema at tree exists key =
    text_taken (grant_means schema at tree exists) (number key ∷ [])
    refl (simp (exists.low, exists.typed) refl)

abbrev pub last_grants_text : List ℕ
last_grants_text =
    codes "SELECT number, code, session, moment, seconds, bytes FROM portal_grants WHERE code = ?1"
    ++ codes " ORDER BY number DESC LIMIT 101"

pub last_grants_means : (schema : Schema) (at tree : ℕ) → TableExists schema at (grants tree)
    → IsSelect schema last_grants_text 1 (grants tree) (column_is (grants tree) 1 (col 0 0) ∷ [])
    (by (grants tree) 0 true) (pos 101) grant_columns
unfolding everything
last_grants_means schema at tree exists =
    select_means schema last_grants_text grants_name grant_columns
    (where_is (codes "code") (expr.Parameter 1)) (down (codes "number"))
    (Some (expr.Integer (codes "101"))) 1 (lit (Int (pos 101)), lit (Int (pos 0)))
    (drafted tree (column_is (grants tree) 1 (col 0 0) ∷ []) (all_columns (grants tree))
    (by (grants tree) 0 true) (pos 101))
    (None ∷ Some Binary ∷ Some Binary ∷ Some Binary ∷ Some Binary ∷ Some Binary ∷ [])
    (record { parsed = _; read = refl; is = refl; timeless = refl; counted = refl; whole = refl }) refl refl
    (simp (exists.named, exists.there) refl) (simp (exists.low, exists.typed) refl) refl (λ base. refl)

pub last_grants_taken : (schema : Schema) (at tree : ℕ) → TableExists schema at (grants tree)
    → (code : List ℕ)
    → IsTaken last_grants_text (Text code ∷ []) schema
unfolding everything
last_grants_taken schema at tree exists code =
    text_taken (last_grants_means schema at tree exists) (Text code ∷ [])
    refl (simp (exists.low, exists.typed) refl)
