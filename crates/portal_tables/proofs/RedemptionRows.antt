-- From the rows that are listed to the last redemptions of a voucher.
use Rattle.portal_tables.proofs.Common.{◌≡◌, ℕ, ◌+◌, ◌-◌, ◌<◌, ◌≤◌, Bool, true, false, cond, List, [], ◌∷◌}
use Rattle.portal_tables.proofs.Common.{◌++◌, map, filter, length, take, refl, sym, ap, ap₂, subst, ◌∙◌}
use Rattle.portal_tables.proofs.Common.{arith, bytes_eq, nat_lt, nat_cmp, nat_tests, filter_map, Has, IsCode}
use Rattle.portal_tables.proofs.Common.{text_of, History, Grant, IsLegal, grants_of, GrantRow, grant_kept}
use Rattle.portal_tables.proofs.Common.{IsPermutation, IsSorted, AllByRecursion, IsAscending}
use Rattle.portal_tables.proofs.Common.{ascending-filter, all_weaker, IsPermutation-filter, rows_are_typed}
use Rattle.portal_tables.proofs.Common.{code_test, recursion_from_All, is_lt, has_mapped, get_or}
use Rattle.portal_tables.proofs.Common.{Option, Some, None, cons_option, filter_map-append}
use Rattle.std.specs.Prelude.{min}
use Rattle.std.specs.Option.{option_to_list}
use Rattle.std.proofs.lemmas.List.{length-map, length-take, take-map, take-take}
use Rattle.std.proofs.lemmas.List.Sorted.{All-permutation, IsPermutation-cons, IsPermutation-map}
use Rattle.std.proofs.lemmas.List.Sorted.{IsPermutation-refl, IsPermutation-sym, IsPermutation-to_front}
use Rattle.std.proofs.lemmas.List.Sorted.{IsPermutation-trans}
use Rattle.sqlite_trees.proofs.ListLemmas.{ascending-map}
use Rattle.portal_model.specs.Redemptions.{first_redemptions, redemptions_among}
use Rattle.portal_model.specs.Rows.{grant_rows, row_of_grant}
use Rattle.portal_model.specs.declared.redemptions.Redemption.{Redemption}
use Rattle.portal_model_laws.proofs.Basics.{map-map, bytes_eq-swap}
use Rattle.portal_tables.proofs.InOrder.{in_one_order}
use Rattle.portal_tables.proofs.RedemptionLemmas.{ends_itself, numbers_of, same_count, shown_first}
use Rattle.portal_tables.specs.RedemptionLists.{AreGrantsOf, redemption_numbered}
use Rattle.portal_tables_rows.specs.Lists.{ListsFirst, by_newest}
use Rattle.portal_tables_rows.specs.Sums.{grant_read}
use Rattle.portal_tables_rows.specs.declared.grants.GrantValue.{GrantValue}
use Rattle.portal_tables_rows.proofs.Compose.{more_mapped}
use Rattle.portal_tables_rows.proofs.OwnRows.{has_taken, listed_own}

-- the number of a row
abbrev pub row_number : GrantValue → ℕ
row_number row = row.number

-- one redemption more
pub redemptions_more : (h : History) (t : ℕ) (rows : List GrantValue) (i : ℕ) (row : GrantValue)
    → i < length rows → row ≡ get_or rows i row
    → filter_map (redemption_numbered h t) (map row_number (take (i + 1) rows))
    ≡ filter_map (redemption_numbered h t) (map row_number (take i rows))
    ++ option_to_list (redemption_numbered h t row.number)
redemptions_more h t rows i row within is =
    ap (filter_map (redemption_numbered h t)) (more_mapped row_number rows i row within is)
    ∙ filter_map-append (redemption_numbered h t) (map row_number (take i rows)) (row.number ∷ [])
    ∙ ap (λ (rs : List Redemption). filter_map (redemption_numbered h t) (map row_number (take i rows)) ++ rs)
    (one_kept (redemption_numbered h t row.number))
  where
    one_kept : (o : Option Redemption) → cons_option o [] ≡ option_to_list o
    one_kept None = refl
    one_kept (Some r) = refl

-- the rows, the newest first
abbrev newest_rows : List Grant → List GrantRow
newest_rows [] = []
newest_rows (g ∷ gs) = row_of_grant (length gs + 1) g ∷ newest_rows gs

same_rows : (gs : List Grant) → IsPermutation (grant_rows gs) (newest_rows gs)
same_rows [] = IsPermutation-refl []
same_rows (g ∷ gs) =
    let row : GrantRow = row_of_grant (length gs + 1) g in
    IsPermutation-trans (grant_rows gs ++ row ∷ []) (row ∷ grant_rows gs) (row ∷ newest_rows gs)
    (IsPermutation-to_front (grant_rows gs) row)
    (IsPermutation-cons row (grant_rows gs) (newest_rows gs) (same_rows gs))

-- no number is above how many there are
numbers_within : (gs : List Grant) → AllByRecursion (λ (r : GrantRow). r.number ≤ length gs) (newest_rows gs)
numbers_within [] = tt
numbers_within (g ∷ gs) = (
  omega arith,
  all_weaker (λ (r : GrantRow). r.number ≤ length gs) (λ (r : GrantRow). r.number ≤ length (g ∷ gs))
      (λ r h. omega (arith, h)) (newest_rows gs) (numbers_within gs),
)

-- each number is below those before it
numbers_fall : (n : ℕ) (gs : List Grant) → length gs ≤ n
    → IsAscending (λ (a b : GrantRow). n - a.number < n - b.number) (newest_rows gs)
numbers_fall n [] h = tt
numbers_fall n (g ∷ gs) h = (
  all_weaker (λ (r : GrantRow). r.number ≤ length gs) (λ (r : GrantRow). n - (length gs + 1) < n - r.number)
      (λ r low. omega (arith, h, low)) (newest_rows gs) (numbers_within gs),
  numbers_fall n gs (omega (arith, h)),
)

not_less : (a b : ℕ) → is_lt (nat_cmp a b) ≡ false → b ≤ a
not_less a b h = grind (arith, nat_tests)

less_not : (a b : ℕ) → b ≤ a → is_lt (nat_cmp a b) ≡ false
less_not a b h = grind (arith, nat_tests)

-- sorted by falling numbers
turned : (n : ℕ) (rows : List GrantRow) → IsSorted by_newest rows
    → IsSorted (λ (a b : GrantRow). nat_cmp (n - a.number) (n - b.number)) rows
turned n rows sorted k d low within =
    let here : (get_or rows (k + 1) d).number ≤ (get_or rows k d).number =
    not_less (get_or rows k d).number (get_or rows (k + 1) d).number (sorted k d low within) in
    less_not (n - (get_or rows (k + 1) d).number) (n - (get_or rows k d).number) (omega (arith, here))

module _ (h : History) (legal : IsLegal h) (t : ℕ) (code : List ℕ) (is : IsCode code) where
  abbrev gs : List Grant
  gs = grants_of h

  abbrev passes : GrantRow → Bool
  passes g = bytes_eq (text_of code) g.code

  abbrev number_of : GrantRow → ℕ
  number_of g = g.number

  abbrev values : List GrantRow
  values = map grant_kept (grant_rows gs)

  abbrev expected : List GrantRow
  expected = filter passes (map grant_kept (newest_rows gs))

  typed : AllByRecursion (λ (r : GrantRow). IsCode r.code) (newest_rows gs)
  typed = recursion_from_All (λ (r : GrantRow). IsCode r.code) (newest_rows gs) (All-permutation
      (λ (r : GrantRow). IsCode r.code) (grant_rows gs) (newest_rows gs) (same_rows gs)
      (rows_are_typed h legal).grants)

  numbers_listed : (rest : List Grant) → AllByRecursion (λ (r : GrantRow). IsCode r.code) (newest_rows rest)
      → map number_of (filter passes (map grant_kept (newest_rows rest))) ≡ numbers_of code rest
  numbers_listed [] all = refl
  numbers_listed (g ∷ rest) all =
      go (bytes_eq (text_of code) (text_of g.code)) (bytes_eq g.code code)
      (code_test code g.code is all.0 ∙ bytes_eq-swap code g.code) (numbers_listed rest all.1)
    where
      go : (a b : Bool) → a ≡ b
          → map number_of (filter passes (map grant_kept (newest_rows rest))) ≡ numbers_of code rest
          → map number_of (cond a (grant_kept (row_of_grant (length rest + 1) g)
          ∷ filter passes (map grant_kept (newest_rows rest)))
          (filter passes (map grant_kept (newest_rows rest))))
          ≡ cond b ((length rest + 1) ∷ numbers_of code rest) (numbers_of code rest)
      go true true same more = ap (λ (ns : List ℕ). (length rest + 1) ∷ ns) more
      go false false same more = more
      go true false same more = absurd (cc)
      go false true same more = absurd (cc)

  module _ (rows : List GrantValue) (l : ListsFirst 101 passes by_newest values (map grant_read rows)) where
    all_is : l.all ≡ expected
    all_is =
        let n = length gs in
        in_one_order (λ (r : GrantRow). n - r.number) expected l.all
        (ascending-filter (λ (a b : GrantRow). n - a.number < n - b.number) passes
        (map grant_kept (newest_rows gs))
        (ascending-map (λ (a b : GrantRow). n - a.number < n - b.number) grant_kept (newest_rows gs)
        (numbers_fall n gs (omega arith))))
        (IsPermutation-trans expected (filter passes values) l.all (IsPermutation-sym _ _
        (IsPermutation-filter passes _ _ (IsPermutation-map grant_kept _ _ (same_rows gs)))) l.lists.same)
        (turned n l.all l.lists.sorted)

    first_numbers : map number_of (map grant_read rows) ≡ take 101 (numbers_of code gs)
    first_numbers = ap (map number_of) (l.first ∙ ap (take 101) all_is)
        ∙ sym (take-map number_of 101 expected) ∙ ap (take 101) (numbers_listed gs typed)

    numbers_are : map row_number rows ≡ take 101 (numbers_of code gs)
    numbers_are = sym (map-map grant_read number_of rows) ∙ first_numbers

    rows_of_history : AreGrantsOf h rows
    rows_of_history row has =
        let among : Has l.all (grant_read row) = has_taken 101 l.all (grant_read row)
        (subst (λ (rs : List GrantRow). Has rs (grant_read row)) l.first
        (has_mapped grant_read rows row has)) in
        listed_own (Has values) passes by_newest values l.all l.lists (λ p has on. has) (grant_read row) among

    how_many : length rows ≡ min 101 (length (redemptions_among h t code gs))
    how_many = sym (length-map rows row_number) ∙ ap (λ (ns : List ℕ). length ns) numbers_are
        ∙ length-take 101 (numbers_of code gs) ∙ ap (min 101) (same_count h t code gs)

    pub last_shown : (redemptions : List Redemption)
        → (AreGrantsOf h (take 100 rows)
        → redemptions ≡ filter_map (redemption_numbered h t) (map row_number (take 100 rows)))
        → (redemptions, nat_lt 100 (length rows)) ≡ first_redemptions (redemptions_among h t code gs)
    last_shown redemptions made =
        let numbers : map row_number (take 100 rows) ≡ take 100 (numbers_of code gs) =
        sym (take-map row_number 100 rows) ∙ ap (take 100) numbers_are
        ∙ take-take 100 101 (numbers_of code gs) (omega arith) in
        ap₂ (λ (rs : List Redemption) (more : Bool). (rs, more))
        (made (λ row has. rows_of_history row (has_taken 100 rows row has))
        ∙ ap (filter_map (redemption_numbered h t)) numbers ∙ shown_first h t code gs (ends_itself gs) 100)
        (ap (nat_lt 100) how_many ∙ above (length (redemptions_among h t code gs)))
      where
        above : (n : ℕ) → nat_lt 100 (min 101 n) ≡ nat_lt 100 n
        above n = grind (arith, nat_tests)
