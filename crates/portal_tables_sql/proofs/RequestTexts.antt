-- The texts of the table of requests, under any schema.
use Rattle.portal_tables_sql.proofs.Common.{◌++◌, ℕ, pos, negsuc, List, [], ◌∷◌, codes, Option, Some, None}
use Rattle.portal_tables_sql.proofs.Common.{refl}
use Rattle.portal_tables_sql.proofs.Common.{Int, Null, Term, lit, col, Schema, Table, Values, Insert, Binary}
use Rattle.portal_tables_sql.proofs.Common.{TableExists, place_of}
use Rattle.portal_tables_sql.proofs.Queries.{drafted, unlimited}
use Rattle.portal_tables_sql.proofs.Texts.{Means, means_is}
use Rattle.portal_tables_sql.proofs.Lookup.{IsSelect, all_columns, column_is}
use Rattle.portal_tables_sql.proofs.Selects.{select_means, insert_into, up}
use Rattle.portal_tables_sql.specs.Tables.{requests, requests_name}
use Rattle.portal_tables_sql.specs.Causes.{IsTaken}
use Rattle.portal_tables_sql.proofs.Common.{Text}
use Rattle.portal_tables_sql.proofs.Causes.{text_taken}
use Rattle.sqlite_tied.specs.Compute.{everything}
use Rattle.sqlite_ast.specs.declared.Expr.{Expr}
use Rattle.sqlite_ast.specs.declared.Expr.TheVariants as expr
use Rattle.sqlite_ast.specs.declared.Binary.TheVariants as binary
use Rattle.portal_tables_sql.proofs.WholeTables.{by_rowid, has_rowids, IsSelectOf}

abbrev pub request_columns : List (List ℕ)
request_columns = codes "caller" ∷ codes "number" ∷ codes "method" ∷ codes "path" ∷ codes "body"
    ∷ codes "kind" ∷ codes "word" ∷ codes "n1" ∷ codes "n2" ∷ codes "n3" ∷ []

abbrev pub add_request_text : List ℕ
add_request_text =
    codes "INSERT INTO portal_requests (caller, number, method, path, body, kind, word, n1, n2, n3)"
    ++ codes " VALUES (?1, ?2, ?3, ?4, ?5, ?6, ?7, ?8, ?9, ?10)"

abbrev pub add_request_terms : List Term
add_request_terms = lit Null ∷ col 0 0 ∷ col 0 1 ∷ col 0 2 ∷ col 0 3 ∷ col 0 4 ∷ col 0 5 ∷ col 0 6 ∷ col 0 7
    ∷ col 0 8 ∷ col 0 9 ∷ []

pub add_request_means : (schema : Schema) (at tree : ℕ) → TableExists schema at (requests tree)
    → Means schema add_request_text 10 (Insert at (Values add_request_terms 11))
unfolding everything
add_request_means schema at tree exists =
    means_is schema add_request_text (insert_into requests_name request_columns
    (expr.Parameter 1 ∷ expr.Parameter 2 ∷ expr.Parameter 3 ∷ expr.Parameter 4 ∷ expr.Parameter 5
    ∷ expr.Parameter 6 ∷ expr.Parameter 7 ∷ expr.Parameter 8 ∷ expr.Parameter 9 ∷ expr.Parameter 10 ∷ []))
    10 _ (record { parsed = _; read = refl; is = refl; timeless = refl; counted = refl; whole = refl })
    (simp (exists.named, exists.there) refl) (λ base. refl) (λ base. simp (exists.named, exists.there) refl)

abbrev pub request_text : List ℕ
request_text =
    codes "SELECT caller, number, method, path, body, kind, word, n1, n2, n3 FROM portal_requests"
    ++ codes " WHERE caller = ?1 AND number = ?2"

-- WHERE caller = ?1 AND number = ?2
abbrev where_key : Option Expr
where_key = Some (expr.Binary binary.And (expr.Binary binary.Eq (expr.Column None (codes "caller"))
    (expr.Parameter 1)) (expr.Binary binary.Eq (expr.Column None (codes "number")) (expr.Parameter 2)))

abbrev pub key_terms : Table → List Term
key_terms table = column_is table 0 (col 0 0) ∷ column_is table 1 (col 0 1) ∷ []

pub request_means : (schema : Schema) (at tree : ℕ) → TableExists schema at (requests tree)
    → IsSelect schema request_text 2 (requests tree) (key_terms (requests tree)) [] unlimited request_columns
unfolding everything
request_means schema at tree exists =
    select_means schema request_text requests_name request_columns where_key [] None 2
    (lit (Int (negsuc 0)), lit (Int (pos 0)))
    (drafted tree (key_terms (requests tree)) (all_columns (requests tree)) [] unlimited)
    (Some Binary ∷ Some Binary ∷ Some Binary ∷ Some Binary ∷ Some Binary
    ∷ Some Binary ∷ Some Binary ∷ Some Binary ∷ Some Binary ∷ Some Binary ∷ [])
    (record { parsed = _; read = refl; is = refl; timeless = refl; counted = refl; whole = refl }) refl refl
    (simp (exists.named, exists.there) refl) (simp (exists.low, exists.typed) refl) refl (λ base. refl)

pub request_taken : (schema : Schema) (at tree : ℕ) → TableExists schema at (requests tree)
    → (caller id : List ℕ)
    → IsTaken request_text (Text caller ∷ Text id ∷ []) schema
unfolding everything
request_taken schema at tree exists caller id =
    text_taken (request_means schema at tree exists) (Text caller ∷ Text id ∷ [])
    refl (simp (exists.low, exists.typed) refl)

abbrev pub keys_text : List ℕ
keys_text = codes "SELECT caller, number FROM portal_requests ORDER BY rowid"

abbrev pub keys_columns : List (List ℕ)
keys_columns = codes "caller" ∷ codes "number" ∷ []

-- the same two as the terms of the result
abbrev pub keys_terms : Table → List Term
keys_terms table = col 1 (place_of table 0) ∷ col 1 (place_of table 1) ∷ []

pub keys_means : (schema : Schema) (at tree : ℕ) → TableExists schema at (requests tree)
    → IsSelectOf schema keys_text 0 (requests tree) [] (keys_terms (requests tree)) keys_columns
unfolding everything
keys_means schema at tree exists =
    select_means schema keys_text requests_name keys_columns None (up (codes "rowid")) None 0
    (lit (Int (negsuc 0)), lit (Int (pos 0)))
    (drafted tree [] (keys_terms (requests tree)) by_rowid unlimited) (Some Binary ∷ Some Binary ∷ [])
    (record { parsed = _; read = refl; is = refl; timeless = refl; counted = refl; whole = refl }) refl refl
    (simp (exists.named, exists.there, has_rowids tree exists.low) refl)
    (simp (exists.low, exists.typed) refl) refl (λ base. refl)

pub keys_taken : (schema : Schema) (at tree : ℕ) → TableExists schema at (requests tree)
    → IsTaken keys_text [] schema
unfolding everything
keys_taken schema at tree exists =
    text_taken (keys_means schema at tree exists) [] refl (simp (exists.low, exists.typed) refl)
