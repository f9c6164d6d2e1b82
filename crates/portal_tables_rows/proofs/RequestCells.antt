-- The rows of portal_requests, as SELECT gives them, are the cells of its values, and these determine the
-- values.
use Rattle.portal_tables_rows.proofs.Common.{◌≡◌, ℕ, List, ◌∷◌, map, Option, Some, None, refl, ap, Int}
use Rattle.portal_tables_rows.proofs.Common.{column, Trees, Stores, less_rowid, fields, rows_in, opens_keyed}
use Rattle.portal_tables_rows.proofs.Common.{rows_shown, exact_null, RequestRow, requests, request_cells}
use Rattle.portal_tables_rows.proofs.Common.{text_or_null}
use Rattle.sqlite.specs.Values.{bound_value}
use Rattle.sqlite.specs.Cast.{cast}
use Rattle.sqlite.specs.Kind.TheVariants as kind
use Rattle.portal_tables_rows.specs.Words.{word_cell, word_in}
use Rattle.portal_tables_rows.specs.declared.answers.Word.{Word}
use Rattle.portal_tables_rows.specs.declared.answers.Word.TheVariants.{Nothing, Batch, Code}

pub requests_in : (db : Trees) (tree : ℕ) (ps : List RequestRow)
    → Stores less_rowid request_cells (db tree) ps → rows_in (requests tree) db ≡ map request_cells ps
requests_in db tree ps h = rows_shown less_rowid request_cells request_cells (λ n p. Int n ∷ request_cells p)
    (opens_keyed request_cells) (fields (requests tree)) (λ n p. refl) (db tree) ps h.are.keyed h.is

pub exact_text : (a b : Option (List ℕ)) → text_or_null a ≡ text_or_null b → a ≡ b
exact_text None None e = refl
exact_text None (Some y) e = absurd (cc)
exact_text (Some x) None e = absurd (cc)
exact_text (Some x) (Some y) e = let same : x ≡ y = cc in ap Some same

pub cast_text_or_null : (o : Option (List ℕ)) → cast kind.Text (text_or_null o) ≡ text_or_null o
cast_text_or_null None = refl
cast_text_or_null (Some t) = refl

pub exact_request : (a b : RequestRow) → request_cells a ≡ request_cells b → a ≡ b
exact_request a b e =
    let caller_is : a.caller ≡ b.caller = cc in
    let number_is : a.number ≡ b.number = cc in
    let method_is : a.method ≡ b.method = cc in
    let path_is : a.path ≡ b.path = cc in
    let body_is : a.body ≡ b.body = cc in
    let kind_is : a.answer.kind ≡ b.answer.kind = cc in
    let word_is = exact_text a.answer.word b.answer.word (ap (λ r. column r 6) e) in
    let n1_is : a.answer.n1 ≡ b.answer.n1 = cc in
    let n2_is = exact_null a.answer.n2 b.answer.n2 (ap (λ r. column r 8) e) in
    let n3_is = exact_null a.answer.n3 b.answer.n3 (ap (λ r. column r 9) e) in
    λ i. record {
      caller = caller_is i;
      number = number_is i;
      method = method_is i;
      path = path_is i;
      body = body_is i;
      answer = record { kind = kind_is i; word = word_is i; n1 = n1_is i; n2 = n2_is i; n3 = n3_is i };
    }

pub bound_word : (w : Word) → bound_value (word_cell w) ≡ text_or_null (word_in w)
bound_word Nothing = refl
bound_word (Batch id) = refl
bound_word (Code text) = refl
