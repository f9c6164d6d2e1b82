-- The result of each SELECT, by the rows that the tables hold.
use Rattle.portal_tables_rows.proofs.Common.{◌≡◌, ℕ, List, [], ◌∷◌, map, filter, take, refl, subst, Equal}
use Rattle.portal_tables_rows.proofs.Common.{lit<, IsPermutation, Text, Row, Schema, State}
use Rattle.portal_tables_rows.proofs.Common.{Shown, number, has_key, by_column, IsSelection}
use Rattle.portal_tables_rows.proofs.Common.{selected, first_selected, key_tests, literal_tests, orders_down}
use Rattle.portal_tables_rows.proofs.Common.{head, plans, batches, vouchers, sessions, Contents, head_cells}
use Rattle.portal_tables_rows.proofs.Common.{plan_cells, batch_cells, Holds, HasTables, whole_voucher_cells}
use Rattle.portal_tables_rows.proofs.Common.{whole_session_cells}
use Rattle.portal_tables_rows.proofs.Cells.{heads_in, plans_in, batches_in, vouchers_in, sessions_in}
use Rattle.portal_tables_sql.specs.Causes.{IsTaken}
use Rattle.portal_tables_sql.proofs.SelectTexts as texts
use Rattle.portal_tables_sql.specs.declared.our_tables.OurTable.TheVariants as our
use Rattle.portal_tables_sql.proofs.TableLemmas.{always}

pub head_taken : (schema : Schema) → HasTables schema
    → IsTaken texts.head_text [] schema
head_taken schema h = let place = (h.0 our.Head) in
    texts.head_taken schema place.at place.tree (h.1.tables our.Head (always _, tt)).exists

pub head_rows_are : (old new : State) (rows : List Row)
    → Shown texts.head_text [] old new rows → (t : Contents) → Holds old.now t
    → IsPermutation (filter (has_key 0 (number 1)) (map head_cells t.heads)) rows
head_rows_are old new rows shown t h =
    let place = (h.places our.Head) in
    let table = head place.tree in
    let it = selected texts.head_text table _ [] [] old new texts.head_columns (has_key 0 (number 1))
    (literal_tests table 0 (number 1) [] (lit< tt) refl) (λ _ _. Equal) (λ _ _. refl) (texts.head_means
    old.now.schema place.at place.tree (h.tables_exist.tables our.Head (always _, tt)).exists) rows shown in
    subst (λ xs. IsPermutation (filter (has_key 0 (number 1)) xs) rows)
    (heads_in old.now.trees place.tree t.heads (h.store our.Head (always _, tt))) it.same

pub plan_taken : (id : List ℕ) → (schema : Schema) → HasTables schema
    → IsTaken texts.plan_text (Text id ∷ []) schema
plan_taken id schema h = let place = (h.0 our.Plans) in
    texts.plan_taken schema place.at place.tree (h.1.tables our.Plans (always _, tt)).exists id

pub plan_rows_are : (old new : State) (id : List ℕ) (rows : List Row)
    → Shown texts.plan_text (Text id ∷ []) old new rows → (t : Contents) → Holds old.now t
    → IsPermutation (filter (has_key 0 (Text id)) (map plan_cells t.plans)) rows
plan_rows_are old new id rows shown t h =
    let place = (h.places our.Plans) in
    let table = plans place.tree in
    let it = selected texts.plan_text table _ [] (Text id ∷ []) old new texts.plan_columns
    (has_key 0 (Text id)) (key_tests table 0 (Text id) [] (lit< tt) refl) (λ _ _. Equal) (λ _ _. refl)
    (texts.plan_means old.now.schema place.at place.tree (h.tables_exist.tables our.Plans
    (always _, tt)).exists)
    rows shown in
    subst (λ xs. IsPermutation (filter (has_key 0 (Text id)) xs) rows)
    (plans_in old.now.trees place.tree t.plans (h.store our.Plans (always _, tt))) it.same

pub batch_taken : (id : List ℕ) → (schema : Schema) → HasTables schema
    → IsTaken texts.batch_text (Text id ∷ []) schema
batch_taken id schema h = let place = (h.0 our.Batches) in
    texts.batch_taken schema place.at place.tree (h.1.tables our.Batches (always _, tt)).exists id

pub batch_rows_are : (old new : State) (id : List ℕ) (rows : List Row)
    → Shown texts.batch_text (Text id ∷ []) old new rows → (t : Contents) → Holds old.now t
    → IsPermutation (filter (has_key 0 (Text id)) (map batch_cells t.batches)) rows
batch_rows_are old new id rows shown t h =
    let place = (h.places our.Batches) in
    let table = batches place.tree in
    let it = selected texts.batch_text table _ [] (Text id ∷ []) old new texts.batch_columns (has_key 0
    (Text id)) (key_tests table 0 (Text id) [] (lit< tt) refl) (λ _ _. Equal) (λ _ _. refl) (texts.batch_means
    old.now.schema place.at place.tree (h.tables_exist.tables our.Batches (always _, tt)).exists) rows
    shown in
    subst (λ xs. IsPermutation (filter (has_key 0 (Text id)) xs) rows)
    (batches_in old.now.trees place.tree t.batches (h.store our.Batches (always _, tt))) it.same

pub voucher_taken : (code : List ℕ) → (schema : Schema) → HasTables schema
    → IsTaken texts.voucher_text (Text code ∷ []) schema
voucher_taken code schema h = let place = (h.0 our.Vouchers) in
    texts.voucher_taken schema place.at place.tree (h.1.tables our.Vouchers (always _, tt)).exists code

pub voucher_rows_are : (old new : State) (code : List ℕ) (rows : List Row)
    → Shown texts.voucher_text (Text code ∷ []) old new rows → (t : Contents) (h : Holds old.now t)
    → IsPermutation (filter (has_key 0 (Text code))
    (map whole_voucher_cells (h.store our.Vouchers (always _, tt)).whole)) rows
voucher_rows_are old new code rows shown t h =
    let place = (h.places our.Vouchers) in
    let table = vouchers place.tree in
    let it = selected texts.voucher_text table _ [] (Text code ∷ []) old new texts.voucher_columns
    (has_key 0 (Text code)) (key_tests table 0 (Text code) [] (lit< tt) refl)
    (λ _ _. Equal) (λ _ _. refl) (texts.voucher_means old.now.schema place.at place.tree
    (h.tables_exist.tables our.Vouchers (always _, tt)).exists) rows shown in
    subst (λ xs. IsPermutation (filter (has_key 0 (Text code)) xs) rows)
    (vouchers_in old.now.trees place.tree _ (h.store our.Vouchers (always _, tt)).stored) it.same

pub session_taken : (id : ℕ) → (schema : Schema) → HasTables schema
    → IsTaken texts.session_text (number id ∷ []) schema
session_taken id schema h = let place = (h.0 our.Sessions) in
    texts.session_taken schema place.at place.tree (h.1.tables our.Sessions (always _, tt)).exists id

pub session_rows_are : (old new : State) (id : ℕ) (rows : List Row)
    → Shown texts.session_text (number id ∷ []) old new rows → (t : Contents) (h : Holds old.now t)
    → IsPermutation (filter (has_key 0 (number id))
    (map whole_session_cells (h.store our.Sessions (always _, tt)).whole)) rows
session_rows_are old new id rows shown t h =
    let place = (h.places our.Sessions) in
    let table = sessions place.tree in
    let it = selected texts.session_text table _ [] (number id ∷ []) old new texts.session_columns
    (has_key 0 (number id)) (key_tests table 0 (number id) [] (lit< tt) refl)
    (λ _ _. Equal) (λ _ _. refl) (texts.session_means old.now.schema place.at place.tree
    (h.tables_exist.tables our.Sessions (always _, tt)).exists) rows shown in
    subst (λ xs. IsPermutation (filter (has_key 0 (number id)) xs) rows)
    (sessions_in old.now.trees place.tree _ (h.store our.Sessions (always _, tt)).stored) it.same

pub last_session_taken : (device : List ℕ) → (schema : Schema) → HasTables schema
    → IsTaken texts.last_session_text (Text device ∷ []) schema
last_session_taken device schema h = let place = (h.0 our.Sessions) in
    texts.last_session_taken schema place.at place.tree (h.1.tables our.Sessions (always _, tt)).exists device

pub last_session_rows_are : (old new : State) (device : List ℕ) (rows : List Row)
    → Shown texts.last_session_text (Text device ∷ []) old new rows → (t : Contents) (h : Holds old.now t)
    → (all : List Row) × IsSelection (has_key 1 (Text device)) (λ a b. by_column 0 b a)
    (map whole_session_cells (h.store our.Sessions (always _, tt)).whole) all × (rows ≡ take 1 all)
last_session_rows_are old new device rows shown t h =
    let place = (h.places our.Sessions) in
    let table = sessions place.tree in
    let it = first_selected texts.last_session_text table _ _ (Text device ∷ []) old new texts.session_columns
    (has_key 1 (Text device)) (key_tests table 1 (Text device) [] (lit< tt) refl) (λ a b. by_column 0 b a)
    (orders_down table 0 (Text device ∷ []) (lit< tt)) 1 (texts.last_session_means old.now.schema place.at
    place.tree (h.tables_exist.tables our.Sessions (always _, tt)).exists) rows shown in (
      it.0,
      subst (λ xs. IsSelection (has_key 1 (Text device)) (λ a b. by_column 0 b a) xs it.0)
          (sessions_in old.now.trees place.tree _ (h.store our.Sessions (always _, tt)).stored) it.1,
      it.2,
    )
