-- The voucher of a code is the join of its rows.
use Rattle.portal_model_laws.proofs.Common.{◌≡◌, ℕ, List, [], ◌∷◌, map, Option, Some, None, refl, ap, sym}
use Rattle.portal_model_laws.proofs.Common.{◌∙◌, bytes_eq, option_map, option_and_then, is_some, Voucher}
use Rattle.portal_model_laws.proofs.Common.{History, Place, IssuedVoucher, issued_of, plan_of, batch_of}
use Rattle.portal_model_laws.proofs.Common.{voucher_row, plan_among, VoucherRow, CountRow, Rows, rows_of}
use Rattle.portal_model_laws.proofs.Common.{places_of, row_of_place, count_of_place, plans_of, batches_of}
use Rattle.portal_model_laws.proofs.Common.{batch_among, row_among, count_among, voucher_of_rows, IsLegal}
use Rattle.portal_model_laws.specs.Laws.{VoucherIsRow, IssuedCodesAreRows}
use Rattle.portal_model_laws.proofs.Basics.{bytes_same, find-map, found-passes}
use Rattle.portal_model_laws.proofs.Plans.{plan_is_row}
use Rattle.portal_model_laws.proofs.Keys.{batch_is_row}
use Rattle.portal_model_laws.proofs.Issuing.{place_among, IsBacked, Agrees, issued_is_placed}

-- the join, from a row and a count that were looked for
abbrev join_of : Rows → Option VoucherRow → Option CountRow → Option Voucher
join_of r row count =
    option_and_then (λ v. option_and_then (λ k. option_and_then (λ batch. option_map
    (voucher_of_rows v k batch) (plan_among r.plans batch.plan)) (batch_among r.batches v.batch)) count) row

join_at : (H : History) → IsLegal H → (code : List ℕ) (i : IssuedVoucher) (k : Place) → k.code ≡ code
    → IsBacked (batch_of H) (plan_of H) i k
    → join_of (rows_of H) (Some (row_of_place H k)) (Some (count_of_place H k)) ≡ Some (voucher_row H code i)
join_at H legal code i k is back =
    let batch : batch_among (batches_of H) k.batch ≡ Some back.batch =
    sym (batch_is_row H legal k.batch) ∙ back.found in
    let plan : plan_among (plans_of H) back.batch.plan ≡ Some i.plan =
    sym (plan_is_row H back.batch.plan) ∙ back.plan in
    rw (batch, plan, ← is, back.of_batch, ← back.expires)

voucher_cases : (H : History) → IsLegal H → (code : List ℕ) (o : Option IssuedVoucher) (q : Option Place)
    → place_among (places_of H) code ≡ q → Agrees (batch_of H) (plan_of H) o q
    → option_map (voucher_row H code) o
    ≡ join_of (rows_of H) (option_map (row_of_place H) q) (option_map (count_of_place H) q)
voucher_cases H legal code None None is h = refl
voucher_cases H legal code None (Some k) is h = absurd h
voucher_cases H legal code (Some i) None is h = absurd h
voucher_cases H legal code (Some i) (Some k) is h =
    let named : k.code ≡ code =
    bytes_same k.code code (found-passes (λ (x : Place). bytes_eq x.code code) (places_of H) k is) in
    sym (join_at H legal code i k named h)

pub row_among-places : (H : History) (code : List ℕ) → row_among (map (row_of_place H) (places_of H)) code
    ≡ option_map (row_of_place H) (place_among (places_of H) code)
row_among-places H code = find-map (row_of_place H) (λ v. bytes_eq v.code code) (places_of H)

pub count_among-places : (H : History) (code : List ℕ) → count_among (map (count_of_place H) (places_of H))
    code ≡ option_map (count_of_place H) (place_among (places_of H) code)
count_among-places H code = find-map (count_of_place H) (λ v. bytes_eq v.code code) (places_of H)

pub voucher_is_row : VoucherIsRow
voucher_is_row H legal code =
    voucher_cases H legal code (issued_of H code) (place_among (places_of H) code) refl
    (issued_is_placed H legal code)
    ∙ sym (λ i. join_of (rows_of H) (row_among-places H code i) (count_among-places H code i))

-- Codes that are taken

some_alike : (H : History) (o : Option IssuedVoucher) (q : Option Place) → Agrees (batch_of H) (plan_of H) o q
    → is_some o ≡ is_some (option_map (row_of_place H) q)
some_alike H None None h = refl
some_alike H None (Some k) h = absurd h
some_alike H (Some i) None h = absurd h
some_alike H (Some i) (Some k) h = refl

pub issued_codes_are_rows : IssuedCodesAreRows
issued_codes_are_rows H legal [] = refl
issued_codes_are_rows H legal (code ∷ codes) =
    let here : is_some (issued_of H code) ≡ is_some (row_among (map (row_of_place H) (places_of H)) code) =
    some_alike H (issued_of H code) (place_among (places_of H) code) (issued_is_placed H legal code)
    ∙ ap is_some (sym (row_among-places H code)) in
    rw (here, issued_codes_are_rows H legal codes)
