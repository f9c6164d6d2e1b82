-- A history that may have been accepted determines its lists: the batches after another one, and the vouchers
-- whose codes begin with a text.
use Rattle.std.proofs.Common.{◌≡◌, ℕ, ◌<◌, Bool, true, false, List, [], ◌∷◌, length, get_or, take, refl, sym}
use Rattle.std.proofs.Common.{◌∙◌, ap, subst, arith, suc, zero, Option, map, filter, bytes_eq, Ordering}
use Rattle.std.proofs.Common.{Less, Equal, Greater}
use Rattle.std.proofs.Common.{true≢false, ◌||◌}
use Rattle.std.specs.Prelude.{All, Contains, nat_lt}
use Rattle.std.specs.List.{list_any}
use Rattle.std.specs.Cmp.{IsTotalOrder, then_total, back_total, on_total, nat_cmp_total}
use Rattle.std.specs.Cmp.Lexicographic.{on_texts}
use Rattle.std.specs.Ordering.{is_lt, is_gt, nat_cmp, ordering_then}
use Rattle.std.proofs.lemmas.List.Elements.{All-cons, All-contains_itself, All-filter, All-head, All-nil}
use Rattle.std.proofs.lemmas.List.Elements.{All-tail}
use Rattle.std.proofs.lemmas.List.Sorted.{All-permutation}
use Rattle.std.proofs.lemmas.Map.Lookups.{exact_bytes}
use Rattle.portal_codes.specs.Code.{IsCode, Spells, text_of, PrintedTextSpells, SpellingIsUnique}
use Rattle.portal_model.specs.declared.record.Batch.{Batch}
use Rattle.portal_model.specs.declared.record.Voucher.{Voucher}
use Rattle.portal_model.specs.declared.batches.BatchState.{BatchState}
use Rattle.portal_model.specs.Batches.{AreBatchesAfter, AreCodesLike, AreStatesAfter, AreVouchersLike}
use Rattle.portal_model.specs.Batches.{batch_state, begins_with, by_issue, by_text, is_after, most_found}
use Rattle.portal_model.specs.Batches.{vouchers_in, vouchers_with}
use Rattle.portal_model.specs.History.{History, Place}
use Rattle.portal_model.specs.Rows.{VoucherRow, batches_of, places_of, row_of_place}
use Rattle.portal_model.specs.Verdict.{IsLegal, has_duplicate}
use Rattle.portal_model_laws.specs.Laws.{KeysAreUnique, RowsAreTyped}
use Rattle.portal_model_laws.proofs.Basics.{bytes_refl, not_both, or-false}
use Rattle.portal_http.proofs.SortedOnce.{sorted_once}

-- ---- batches

issue_order : IsTotalOrder by_issue
issue_order = then_total (back_total (on_total (λ (b : Batch). b.issued) nat_cmp_total))
    (back_total (on_texts (λ (b : Batch). b.id)))

second_equal : (a b : Ordering) → ordering_then a b ≡ Equal → b ≡ Equal
second_equal Less b e = absurd (true≢false (ap is_lt e))
second_equal Equal b e = e
second_equal Greater b e = absurd (true≢false (ap is_gt e))

abbrev ids : List Batch → List (List ℕ)
ids batches = map (λ (b : Batch). b.id) batches

is_listed : (b : Batch) (xs : List Batch) (k : ℕ) → k < length xs → get_or xs k b ≡ b
    → list_any (bytes_eq b.id) (ids xs) ≡ true
is_listed b [] k lt e = absurd (omega (arith, lt))
is_listed b (x ∷ xs) zero lt e =
    ap (λ (y : Batch). bytes_eq b.id y.id || list_any (bytes_eq b.id) (ids xs)) e
    ∙ ap (λ t. t || list_any (bytes_eq b.id) (ids xs)) (bytes_refl b.id)
is_listed b (x ∷ xs) (suc k) lt e =
    or-second (bytes_eq b.id x.id) (list_any (bytes_eq b.id) (ids xs))
    (is_listed b xs k (omega (arith, lt)) e)
  where
    or-second : (s t : Bool) → t ≡ true → (s || t) ≡ true
    or-second true t e = refl
    or-second false t e = e

-- a batch that is listed later has another id
is_no_other : (a b x : Batch) (xs : List Batch) (k : ℕ) → has_duplicate (ids (x ∷ xs)) ≡ false → x ≡ a
    → k < length xs → get_or xs k b ≡ b → a.id ≡ b.id → ⊥
is_no_other a b x xs k apart first lt e same =
    let none = (or-false (list_any (bytes_eq x.id) (ids xs)) (has_duplicate (ids xs)) apart).0 in
    let id : b.id ≡ x.id = sym same ∙ sym (ap (λ (y : Batch). y.id) first) in
    not_both (list_any (bytes_eq b.id) (ids xs)) (is_listed b xs k lt e)
    (ap (λ i. list_any (bytes_eq i) (ids xs)) id ∙ none)

same_batch : (xs : List Batch) (a b : Batch) (j k : ℕ) → has_duplicate (ids xs) ≡ false → j < length xs
    → get_or xs j a ≡ a → k < length xs → get_or xs k b ≡ b → a.id ≡ b.id → a ≡ b
same_batch [] a b j k apart lt e under f same = absurd (omega (arith, lt))
same_batch (x ∷ xs) a b zero zero apart lt e under f same = sym e ∙ f
same_batch (x ∷ xs) a b zero (suc k) apart lt e under f same =
    absurd (is_no_other a b x xs k apart e (omega (arith, under)) f same)
same_batch (x ∷ xs) a b (suc j) zero apart lt e under f same =
    absurd (is_no_other b a x xs j apart f (omega (arith, lt)) e (sym same))
same_batch (x ∷ xs) a b (suc j) (suc k) apart lt e under f same =
    same_batch xs a b j k (or-false (list_any (bytes_eq x.id) (ids xs)) (has_duplicate (ids xs)) apart).1
    (omega (arith, lt)) e (omega (arith, under)) f same

module _ (keys_are_unique : KeysAreUnique) (H : History) (legal : IsLegal H) where
  exact_batch : (a b : Batch) → Contains (batches_of H) a → Contains (batches_of H) b → by_issue a b ≡ Equal
      → a ≡ b
  exact_batch a b (j, lt, e) (k, under, f) tie =
      let id : b.id ≡ a.id = exact_bytes b.id a.id (second_equal (nat_cmp b.issued a.issued) _ tie) in
      same_batch (batches_of H) a b j k (keys_are_unique H legal).batches lt e under f (sym id)

  are_listed : (before : Option Batch) (batches : List Batch) → AreBatchesAfter H before batches
      → All (Contains (batches_of H)) batches
  are_listed before batches is =
      All-permutation (Contains (batches_of H)) (filter (is_after before) (batches_of H)) batches is.same
      (All-filter (is_after before) (Contains (batches_of H)) (batches_of H)
      (All-contains_itself (batches_of H)))

  batches_once : (before : Option Batch) (one other : List Batch) → AreBatchesAfter H before one
      → AreBatchesAfter H before other → one ≡ other
  batches_once before one other is so =
      sorted_once by_issue issue_order (Contains (batches_of H)) exact_batch
      (filter (is_after before) (batches_of H)) one other is.sorted so.sorted
      (are_listed before one is) (are_listed before other so) is.same so.same

  pub states_once : (before : Option Batch) (limit : ℕ) (one other : List BatchState) (more again : Bool)
      → AreStatesAfter H before limit one more → AreStatesAfter H before limit other again
      → (one ≡ other) × (more ≡ again)
  states_once before limit one other more again is so =
      let batches = batches_once before is.batches so.batches is.after so.after in (
        is.shown ∙ ap (λ bs. map (λ b. batch_state b (vouchers_in H b.id)) (take limit bs)) batches
            ∙ sym so.shown,
        is.rest ∙ ap (λ bs. nat_lt limit (length bs)) batches ∙ sym so.rest,
      )

-- ---- codes

module _ (printed_text_spells : PrintedTextSpells) (spelling_is_unique : SpellingIsUnique)
    (rows_are_typed : RowsAreTyped) (H : History) (legal : IsLegal H) where
  exact_code : (a b : List ℕ) → IsCode a → IsCode b → by_text a b ≡ Equal → a ≡ b
  exact_code a b is so tie =
      let text : text_of a ≡ text_of b = exact_bytes (text_of a) (text_of b) tie in
      spelling_is_unique (text_of a) b a (subst (λ t. Spells t b) (sym text) (printed_text_spells b so))
      (printed_text_spells a is)

  abbrev codes_in : List Place → List (List ℕ)
  codes_in places = map (λ (k : Place). k.code) places

  are_codes : (places : List Place) → All (λ (v : VoucherRow). IsCode v.code) (map (row_of_place H) places)
      → All IsCode (codes_in places)
  are_codes [] all = All-nil IsCode
  are_codes (k ∷ places) all =
      All-cons IsCode k.code (codes_in places)
      (All-head (λ (v : VoucherRow). IsCode v.code) (row_of_place H k) (map (row_of_place H) places) all)
      (are_codes places
      (All-tail (λ (v : VoucherRow). IsCode v.code) (row_of_place H k) (map (row_of_place H) places) all))

  are_typed : (text : List ℕ) (codes : List (List ℕ)) → AreCodesLike H text codes → All IsCode codes
  are_typed text codes is =
      All-permutation IsCode (filter (begins_with text) (codes_in (places_of H))) codes is.same
      (All-filter (begins_with text) IsCode (codes_in (places_of H))
      (are_codes (places_of H) (rows_are_typed H legal).vouchers))

  codes_once : (text : List ℕ) (one other : List (List ℕ)) → AreCodesLike H text one
      → AreCodesLike H text other
      → one ≡ other
  codes_once text one other is so =
      sorted_once by_text (on_texts text_of) IsCode exact_code
      (filter (begins_with text) (codes_in (places_of H))) one other is.sorted so.sorted
      (are_typed text one is) (are_typed text other so) is.same so.same

  pub vouchers_once : (text : List ℕ) (one other : List Voucher) (more again : Bool)
      → AreVouchersLike H text one more → AreVouchersLike H text other again → (one ≡ other) × (more ≡ again)
  vouchers_once text one other more again is so =
      let codes = codes_once text is.codes so.codes is.like so.like in (
        is.found ∙ ap (λ cs. vouchers_with H (take most_found cs)) codes ∙ sym so.found,
        is.rest ∙ ap (λ cs. nat_lt most_found (length cs)) codes ∙ sym so.rest,
      )
