-- The results of the SELECTs, by the rows that the table holds, and the request that is found.
use Rattle.portal_tables_rows.proofs.Common.{◌≡◌, ap, ap₂, sym, ◌∙◌, true, map-map, column, field_at}
use Rattle.portal_tables_rows.proofs.Common.{ℕ, Option, Result, option_map, Ghosts, Held, RequestRow, Finds}
use Rattle.portal_tables_rows.proofs.Common.{key_of, request_read, List, [], ◌∷◌, map, filter, refl, subst}
use Rattle.portal_tables_rows.proofs.Common.{Equal, lit<, lit≤, IsPermutation, Text, Row, Schema}
use Rattle.portal_tables_rows.proofs.Common.{State, Shown, selected, requests, Contents}
use Rattle.portal_tables_rows.proofs.Common.{request_cells, Holds, HasTables, has_keys}
use Rattle.portal_tables_sql.specs.Causes.{IsTaken}
use Rattle.portal_tables_rows.proofs.Common.{AreOwn, IsOfOwn}
use Rattle.portal_tables_rows.specs.Foreign.{IsOwnRequest}
use Rattle.portal_tables_rows.specs.Requests.{IsReadable}
use Rattle.portal_tables_rows.proofs.Foreign.{of_first}
use Rattle.portal_tables_rows.proofs.Readable.{request_readable}
use Rattle.portal_tables_sql.proofs.RequestTexts as texts
use Rattle.portal_tables_rows.specs.Requests.{key_cells}
use Rattle.portal_tables_rows.specs.Selects.{ReadsOne, ReadsRow}
use Rattle.portal_tables_rows.specs.declared.rows.RowError.{RowError}
use Rattle.portal_tables_rows.specs.declared.stored_requests.StoredRequest.{StoredRequest}
use Rattle.portal_tables_rows.proofs.Finding.{reads_one}
use Rattle.portal_tables_rows.proofs.RequestCells.{exact_request, requests_in}
use Rattle.portal_tables_rows.proofs.Pairs.{pair_meets, pair_only, pair_tests, tested_none, tested_some}
use Rattle.portal_tables_sql.proofs.WholeTables.{some_columns}
use Rattle.portal_tables_sql.specs.declared.our_tables.OurTable.TheVariants as our

pub request_taken : (caller : List ℕ) (id : List ℕ) → (schema : Schema) → HasTables schema
    → IsTaken texts.request_text (Text caller ∷ Text id ∷ []) schema
request_taken caller id schema h = let place = (h.0 our.Requests) in
    texts.request_taken schema place.at place.tree (h.1.tables our.Requests (lit≤ tt, tt)).exists caller id

pub request_rows_are : (old new : State) (caller id : List ℕ) (rows : List Row)
    → Shown texts.request_text (Text caller ∷ Text id ∷ []) old new rows → (t : Contents) → Holds old.now t
    → IsPermutation (filter (has_keys 0 (Text caller) 1 (Text id)) (map request_cells t.requests)) rows
request_rows_are old new caller id rows shown t h =
    let place = (h.places our.Requests) in
    let table = requests place.tree in
    let it = selected texts.request_text table _ [] (Text caller ∷ Text id ∷ []) old new texts.request_columns
    (has_keys 0 (Text caller) 1 (Text id)) (pair_tests table 0 1 (Text caller) (Text id) [] (lit< tt)
    (lit< tt) refl refl) (λ _ _. Equal) (λ _ _. refl)
    (texts.request_means old.now.schema place.at place.tree
    (h.tables_exist.tables our.Requests (lit≤ tt, tt)).exists) rows shown in
    subst (λ xs. IsPermutation (filter (has_keys 0 (Text caller) 1 (Text id)) xs) rows)
    (requests_in old.now.trees place.tree t.requests (h.store our.Requests (lit≤ tt, tt))) it.same

pub reads_request : {S : Type 0} (g : Ghosts S) {old new : Held S} (caller id : List ℕ)
    {result : Result (Option StoredRequest) RowError}
    → ReadsOne g (λ (r : StoredRequest). request_cells (request_read r)) 10 (λ _. Unit {0})
    (IsOfOwn request_cells IsReadable) texts.request_text (Text caller ∷ Text id ∷ []) old new result
    → ReadsRow g old new result
    (λ t found. Finds key_of (caller, id) t.requests (option_map request_read found))
    (λ t. AreOwn IsOwnRequest t.requests)
reads_request g caller id =
    let only = pair_only request_cells 0 1 (λ (k : RequestRow). k.caller) (λ (k : RequestRow). k.number)
    (λ k. refl) (λ k. refl) caller id in
    let meets = pair_meets request_cells 0 1 (λ (k : RequestRow). k.caller) (λ (k : RequestRow). k.number)
    (λ k. refl) (λ k. refl) caller id in
    reads_one g texts.request_text _ (request_taken _ _)
    (λ rows shown t h.
    let answer = request_rows_are _ _ caller id rows shown t h in
    record {
      some = λ row x got is. tested_some request_cells key_of (
        caller,
        id,
      ) (has_keys 0 (Text caller) 1 (Text id)) only meets 10 (λ k. refl) exact_request t.requests rows answer
          row (request_read x) got is;
      none = λ got. tested_none request_cells key_of (caller, id) (has_keys 0 (Text caller) 1 (Text id)) only
          meets 10 (λ k. refl) exact_request t.requests rows answer got;
      owns = λ own row got. of_first request_cells 10 (λ k. refl) IsReadable t.requests
          (λ k has. request_readable k (own k has)) (has_keys 0 (Text caller) 1 (Text id)) rows answer row
          got;
    })

-- ---- the keys of all requests

pub exact_key : (a b : List ℕ × List ℕ) → key_cells a ≡ key_cells b → a ≡ b
exact_key a b e =
    let caller : a.0 ≡ b.0 = cc in
    let number : a.1 ≡ b.1 = cc in
    λ i. (caller i, number i)

all_pass : (rows : List Row) → filter (λ _. true) rows ≡ rows
all_pass [] = refl
all_pass (r ∷ rows) = ap (λ xs. r ∷ xs) (all_pass rows)

pub keys_taken : (schema : Schema) → HasTables schema
    → IsTaken texts.keys_text [] schema
keys_taken schema h = let place = (h.0 our.Requests) in
    texts.keys_taken schema place.at place.tree (h.1.tables our.Requests (lit≤ tt, tt)).exists

pub keys_are : (old new : State) (rows : List Row) → Shown texts.keys_text [] old new rows
    → (t : Contents) → Holds old.now t → rows ≡ map key_cells (map key_of t.requests)
keys_are old new rows shown t h =
    let place = (h.places our.Requests) in
    let table = requests place.tree in
    let two : Row → Row = λ r. column r 0 ∷ column r 1 ∷ [] in
    some_columns texts.keys_text table [] (texts.keys_terms table) [] texts.keys_columns
    old new (λ _. true) (λ r. refl) two
    (λ r. ap₂ (λ a b. a ∷ b ∷ []) (sym (field_at table 0 r (lit< tt))) (sym (field_at table 1 r (lit< tt))))
    (texts.keys_means old.now.schema place.at place.tree
    (h.tables_exist.tables our.Requests (lit≤ tt, tt)).exists)
    (h.store our.Requests (lit≤ tt, tt)).are.rise rows shown
    ∙ ap (map two) (all_pass _
    ∙ requests_in old.now.trees place.tree t.requests (h.store our.Requests (lit≤ tt, tt)))
    ∙ map-map two request_cells t.requests
    ∙ sym (map-map key_cells key_of t.requests)
