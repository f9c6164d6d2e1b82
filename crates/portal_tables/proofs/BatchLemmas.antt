-- From the rows of vouchers to the vouchers of the history.
use Rattle.portal_tables.proofs.Common.{◌≡◌, ℕ, List, map, Bool, Option, Some, None, refl, sym, ap, ◌∙◌, All}
use Rattle.portal_tables.proofs.Common.{bytes_eq, Ordering, filter_map, IsCode, text_of, Batch, History}
use Rattle.portal_tables.proofs.Common.{voucher_of, codes_of, VoucherRow, vouchers_of, IsLegal}
use Rattle.portal_tables.proofs.Common.{VoucherValue, voucher_read, voucher_kept, has_mapped, Has, Lists}
use Rattle.portal_tables.proofs.Common.{by_place, ◌+◌, ◌<◌, ◌++◌, [], ◌∷◌, take, get_or, length}
use Rattle.portal_tables.proofs.Common.{cons_option, filter_map-append}
use Rattle.std.specs.Option.{option_to_list}
use Rattle.portal_tables_rows.proofs.Compose.{more_mapped}
use Rattle.portal_tables.proofs.Common.{filter, arith, nat_cmp, nat_tests, subst, IsSorted, IsPermutation}
use Rattle.portal_tables.proofs.Common.{pull_back, places_of, row_of_place, rows_are_typed, All-filter}
use Rattle.portal_tables.proofs.Common.{nat_lt}
use Rattle.std.specs.Prelude.{nat_le}
use Rattle.portal_tables.proofs.Common.{take_all, inl, inr, true, false, ◌≤◌}
use Rattle.std.proofs.lemmas.Bool.{cases_Bool}
use Rattle.std.specs.Prelude.{min, ◌&&◌, ◌||◌}
use Rattle.std.specs.Ordering.{is_lt, ordering_then}
use Rattle.std.specs.Cmp.Lexicographic.{slice_cmp}
use Rattle.sqlite_catalog.proofs.ListFacts.{filter_all}
use Rattle.portal_model.specs.Batches.{by_issue, is_after}
use Rattle.portal_model_laws.specs.Limits.{BatchIsWithin}
use Rattle.portal_model_laws.proofs.Within.{rows_are_within_limits}
use Rattle.portal_tables.proofs.Common.{batches_of}
use Rattle.portal_tables.proofs.InOrder.{filter_true}
use Rattle.portal_tables.proofs.Joining.{one}
use Rattle.portal_tables.specs.BatchLists.{AreFirstAfter}
use Rattle.portal_tables_rows.specs.Lists.{is_behind}
use Rattle.std.proofs.lemmas.List.{get_or-map, length-map, length-take, take-map, take-take}
use Rattle.std.proofs.lemmas.List.Elements.{All-take}
use Rattle.std.proofs.lemmas.List.Sorted.{IsPermutation-map, All-permutation}
use Rattle.portal_model.specs.Batches.{AreCodesLike, AreVouchersLike, begins_with, by_text}
use Rattle.portal_tables.proofs.LikeLemmas.{between_begins}
use Rattle.portal_tables.specs.BatchLists.{text_above}
use Rattle.portal_tables_rows.specs.Lists.{ListsFirst, by_code, is_between}
use Rattle.portal_tables_rows.proofs.Listing.{sorted_from_map}
use Rattle.portal_model.specs.declared.record.Voucher.{Voucher}
use Rattle.std.proofs.lemmas.List.Elements.{All-map}
use Rattle.portal_model.specs.Batches.{vouchers_in}
use Rattle.portal_model_laws.proofs.Basics.{map-map, filter-map}
use Rattle.portal_tables.specs.BatchLists.{AreVouchersOf}
use Rattle.portal_tables.proofs.ListLaws.{codes_listed, same_codes}
use Rattle.portal_tables_rows.proofs.OwnRows.{listed_own, has_taken}
use Rattle.portal_tables_rows.specs.Audit.{AreAmong}
use Rattle.portal_tables.proofs.Common.{voucher_count, count_kept, counts_of}

abbrev pub code_of_row : VoucherValue → List ℕ
code_of_row row = row.code

-- rows that are listed are of the history
pub rows_listed : (h : History) (passes : VoucherRow → Bool) (cmp : VoucherRow → VoucherRow → Ordering)
    (rows : List VoucherValue) → Lists passes cmp (map voucher_kept (vouchers_of h)) (map voucher_read rows)
    → AreAmong (map voucher_count rows) (map count_kept (counts_of h)) → AreVouchersOf h rows
rows_listed h passes cmp rows l counted row has = (
  listed_own (Has (map voucher_kept (vouchers_of h))) passes cmp (map voucher_kept (vouchers_of h))
      (map voucher_read rows) l (λ p among on. among) (voucher_read row)
      (has_mapped voucher_read rows row has),
  counted (voucher_count row) (has_mapped voucher_count rows row has),
)

-- the rows of a batch have its codes
pub batch_codes_are : (h : History) → IsLegal h → (id : List ℕ) (rows : List VoucherValue)
    → All (λ row. IsCode (code_of_row row)) rows
    → Lists (λ (v : VoucherRow). bytes_eq id v.batch) by_place (map voucher_kept (vouchers_of h))
    (map voucher_read rows) → map code_of_row rows ≡ codes_of h id
batch_codes_are h legal id rows codes l =
    codes_listed h legal id (map code_of_row rows) (All-map IsCode code_of_row rows codes)
    (record {
      listed = map voucher_read rows;
      lists = l;
      shows = map-map code_of_row text_of rows
          ∙ sym (map-map voucher_read (λ (v : VoucherRow). v.code) rows);
    })

-- the vouchers of the rows of a batch
pub vouchers_are_in : (h : History) → IsLegal h → (id : List ℕ) (rows : List VoucherValue)
    (vouchers : List Voucher) → All (λ row. IsCode (code_of_row row)) rows
    → Lists (λ (v : VoucherRow). bytes_eq id v.batch) by_place (map voucher_kept (vouchers_of h))
    (map voucher_read rows) → AreAmong (map voucher_count rows) (map count_kept (counts_of h))
    → (AreVouchersOf h rows → vouchers ≡ filter_map (voucher_of h) (map code_of_row rows))
    → vouchers ≡ vouchers_in h id
vouchers_are_in h legal id rows vouchers codes l counted made =
    made (rows_listed h _ by_place rows l counted)
    ∙ ap (filter_map (voucher_of h)) (batch_codes_are h legal id rows codes l)

-- one voucher more
pub vouchers_more : (h : History) (rows : List VoucherValue) (i : ℕ) (row : VoucherValue) → i < length rows
    → row ≡ get_or rows i row → filter_map (voucher_of h) (map code_of_row (take (i + 1) rows))
    ≡ filter_map (voucher_of h) (map code_of_row (take i rows)) ++ option_to_list (voucher_of h row.code)
vouchers_more h rows i row within is =
    ap (filter_map (voucher_of h)) (more_mapped code_of_row rows i row within is)
    ∙ filter_map-append (voucher_of h) (map code_of_row (take i rows)) (row.code ∷ [])
    ∙ ap (λ vs. filter_map (voucher_of h) (map code_of_row (take i rows)) ++ vs)
    (one_kept (voucher_of h row.code))
  where
    one_kept : {Y : Type 0} (o : Option Y) → cons_option o [] ≡ option_to_list o
    one_kept None = refl
    one_kept (Some y) = refl

-- ---- the vouchers whose codes begin with a text

sorted_to_map : {A B : Type 0} (f : A → B) (cmp : B → B → Ordering) (xs : List A)
    → IsSorted (λ a b. cmp (f a) (f b)) xs → IsSorted cmp (map f xs)
sorted_to_map f cmp [] h k d low within = absurd (omega arith)
sorted_to_map f cmp (x ∷ xs) h k d low within =
    let inside : k + 1 < length (x ∷ xs) = rw length-map at within in
    rw (get_or-map f (x ∷ xs) (k + 1) x d inside, get_or-map f (x ∷ xs) k x d (omega arith))
    (h k x low inside)

module _ (h : History) (legal : IsLegal h) (text : List ℕ) (some : 0 < length text) where
  abbrev passes : VoucherRow → Bool
  passes v = is_between text (text_above text) v.code

  abbrev code_of : VoucherRow → List ℕ
  code_of v = v.code

  like_test : (v : VoucherRow) → passes (voucher_kept v) ≡ begins_with text v.code
  like_test v = between_begins text (text_of v.code) some

  module _ (rows : List VoucherValue) (typed : All (λ row. IsCode (code_of_row row)) (take 50 rows))
      (l : ListsFirst 51 passes by_code (map voucher_kept (vouchers_of h)) (map voucher_read rows))
      (counted : AreAmong (map voucher_count rows) (map count_kept (counts_of h))) where
    rows_like : AreVouchersOf h rows
    rows_like row has =
        let among : Has l.all (voucher_read row) = has_taken 51 l.all (voucher_read row)
        (subst (λ rs. Has rs (voucher_read row)) l.first (has_mapped voucher_read rows row has)) in (
          listed_own (Has (map voucher_kept (vouchers_of h))) passes by_code
              (map voucher_kept (vouchers_of h)) l.all l.lists (λ p has on. has) (voucher_read row) among,
          counted (voucher_count row) (has_mapped voucher_count rows row has),
        )

    -- the rows of the history, in this order
    back : (back : List VoucherRow)
        × IsPermutation (filter (λ v. begins_with text v.code) (vouchers_of h)) back
        × (l.all ≡ map voucher_kept back)
    back = pull_back voucher_kept (filter passes (map voucher_kept (vouchers_of h))) l.all l.lists.same
        (filter (λ v. begins_with text v.code) (vouchers_of h))
        (filter-map voucher_kept passes (vouchers_of h)
        ∙ (λ i. map voucher_kept (filter (λ (v : VoucherRow). like_test v i) (vouchers_of h))))

    abbrev codes_like : List (List ℕ)
    codes_like = map code_of back.0

    codes_are_like : AreCodesLike h text codes_like
    codes_are_like = record {
      same = subst (λ xs. IsPermutation xs codes_like)
          (sym (filter-map code_of (begins_with text) (vouchers_of h))
          ∙ ap (filter (begins_with text)) (map-map (row_of_place h) code_of (places_of h)))
          (IsPermutation-map code_of _ back.0 back.1);
      sorted = sorted_to_map code_of by_text back.0
          (sorted_from_map voucher_kept by_code back.0 (subst (IsSorted by_code) back.2 l.lists.sorted));
    }

    typed_codes : All IsCode codes_like
    typed_codes = All-map IsCode code_of back.0 (All-permutation (λ (v : VoucherRow). IsCode v.code) _ back.0
        back.1 (All-filter (λ (v : VoucherRow). begins_with text v.code) (λ (v : VoucherRow). IsCode v.code)
        (vouchers_of h) (rows_are_typed h legal).vouchers))

    -- the codes of the first 50 rows are the first 50 of them
    first_codes : map code_of_row (take 50 rows) ≡ take 50 codes_like
    first_codes = same_codes (map code_of_row (take 50 rows)) (take 50 codes_like)
        (All-map IsCode code_of_row (take 50 rows) typed) (All-take IsCode 50 codes_like typed_codes)
        (map-map code_of_row text_of (take 50 rows) ∙ sym (map-map voucher_read code_of (take 50 rows))
        ∙ ap (map code_of) (sym (take-map voucher_read 50 rows) ∙ ap (take 50) l.first
        ∙ take-take 50 51 l.all (omega arith) ∙ ap (take 50) back.2 ∙ take-map voucher_kept 50 back.0)
        ∙ map-map voucher_kept code_of (take 50 back.0) ∙ sym (map-map code_of text_of (take 50 back.0))
        ∙ ap (map text_of) (sym (take-map code_of 50 back.0)))

    same_length : {X Y : Type 0} (f : X → Y) (xs : List X) → length (map f xs) ≡ length xs
    same_length f xs = length-map xs f

    how_many : length rows ≡ min 51 (length codes_like)
    how_many = sym (same_length voucher_read rows) ∙ ap length l.first ∙ length-take 51 l.all
        ∙ ap (min 51) (ap length back.2 ∙ same_length voucher_kept back.0 ∙ sym (same_length code_of back.0))

    pub vouchers_are_like : (vouchers : List Voucher)
        → (AreVouchersOf h (take 50 rows)
        → vouchers ≡ filter_map (voucher_of h) (map code_of_row (take 50 rows)))
        → AreVouchersLike h text vouchers (nat_lt 50 (length rows))
    vouchers_are_like vouchers made = record {
      codes = codes_like;
      like = codes_are_like;
      found = made (λ row has. rows_like row (has_taken 50 rows row has))
          ∙ ap (filter_map (voucher_of h)) first_codes;
      rest = ap (nat_lt 50) how_many ∙ above_fifty (length codes_like);
    }
      where
        above_fifty : (n : ℕ) → nat_lt 50 (min 51 n) ≡ nat_lt 50 n
        above_fifty n = grind (arith, nat_tests)

-- the first so many, or all
pub first_rows : {X : Type 0} (n : ℕ) (xs : List X) → take (min (length xs) n) xs ≡ take n xs
first_rows n xs = elim (cases_Bool (nat_le n (length xs))) [
  | inl long ↦ ap (λ m. take m xs) (fewer (length xs) long)
  | inr short ↦ ap (λ m. take m xs) (more (length xs) short) ∙ take_all (length xs) xs (omega arith)
      ∙ sym (take_all n xs (less (length xs) short))
]
  where
    fewer : (m : ℕ) → nat_le n m ≡ true → min m n ≡ n
    fewer m h = grind (arith, nat_tests)

    more : (m : ℕ) → nat_le n m ≡ false → min m n ≡ m
    more m h = grind (arith, nat_tests)

    less : (m : ℕ) → nat_le n m ≡ false → m ≤ n
    less m h = grind (arith, nat_tests)

-- ---- the list of batches

behind_test : (m n : ℕ) (o : Ordering)
    → (nat_le m n && (nat_lt m n || is_lt o)) ≡ is_lt (ordering_then (nat_cmp m n) o)
behind_test m n o = grind (arith, nat_tests)

-- another test that passes the same
same_list : {P : Type 0} (p q : P → Bool) (cmp : P → P → Ordering) (n : ℕ) (xs listed : List P)
    → filter p xs ≡ filter q xs → ListsFirst n p cmp xs listed → ListsFirst n q cmp xs listed
same_list p q cmp n xs listed same l = record {
  all = l.all;
  lists = record { same = subst (λ ys. IsPermutation ys l.all) same l.lists.same; sorted = l.lists.sorted };
  first = l.first;
}

pub behind_batch : (h : History) (before : Batch) (batches : List Batch)
    → ListsFirst 21 (is_behind before.issued before.id) by_issue (batches_of h) batches
    → AreFirstAfter h (Some before) batches
behind_batch h before batches =
    same_list (is_behind before.issued before.id) (is_after (Some before)) by_issue 21 (batches_of h) batches
    (λ i. filter (λ (b : Batch). behind_test b.issued before.issued (slice_cmp nat_cmp b.id before.id) i)
    (batches_of h))

-- every batch is behind the greatest time
pub behind_all : (h : History) → IsLegal h → (batches : List Batch)
    → ListsFirst 21 (is_behind 9223372036854775807 []) by_issue (batches_of h) batches
    → AreFirstAfter h None batches
behind_all h legal batches =
    same_list (is_behind 9223372036854775807 []) (is_after None) by_issue 21 (batches_of h) batches
    (filter_all (is_behind 9223372036854775807 []) (batches_of h)
    (λ b has. passes b.issued (slice_cmp nat_cmp b.id [])
    (one BatchIsWithin (batches_of h) b (rows_are_within_limits h legal).batches has).issued)
    ∙ sym (filter_true (batches_of h)))
  where
    passes : (m : ℕ) (o : Ordering) → m ≤ 253370764799
        → (nat_le m 9223372036854775807 && (nat_lt m 9223372036854775807 || is_lt o)) ≡ true
    passes m o within = grind (arith, nat_tests)
