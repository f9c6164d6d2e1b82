-- If this product writes the rows of a table, it writes the rows of a result.
use Rattle.portal_tables_rows.proofs.Common.{◌≡◌, ℕ, zero, suc, List, [], ◌∷◌, map, filter, take, Bool, true}
use Rattle.portal_tables_rows.proofs.Common.{inl, inr, Option, Some, None}
use Rattle.portal_tables_rows.proofs.Common.{IsSome, refl, sym, ap, subst, ◌∙◌, Ordering, IsPermutation-sym}
use Rattle.portal_tables_rows.proofs.Common.{Row, Has, has_filtered, columns, has_image, has_along}
use Rattle.portal_tables_rows.proofs.Common.{VoucherRow, AreOwn, AreOfOwn, IsOwnVoucher, IsOwnSale, Lists}
use Rattle.portal_tables_rows.proofs.Common.{ListsAs, is_within, sale_columns, IsOfOwn, length, column, arith}
use Rattle.portal_tables_rows.proofs.Common.{◌≤◌}
use Rattle.portal_tables_rows.specs.Foreign.{IsOwnRow}
use Rattle.std.proofs.lemmas.List.FromFn.{length-map-range_with_len}

pub has_taken : {X : Type 0} (n : ℕ) (xs : List X) (x : X) → Has (take n xs) x → Has xs x
has_taken zero xs x h = absurd h
has_taken (suc n) [] x h = absurd h
has_taken (suc n) (y ∷ xs) x (inl e) = inl e
has_taken (suc n) (y ∷ xs) x (inr h) = inr (has_taken n xs x h)

-- a row that is its first columns has so many
wide_as : (n : ℕ) (row : Row) → columns n row ≡ row → n ≤ length row
wide_as n row same =
    let long : length (columns n row) ≡ n = length-map-range_with_len (column row) 0 n in
    omega (arith, long, ap length same)

module _ {P : Type 0} (cells : P → Row) (n : ℕ) (all : (p : P) → columns n (cells p) ≡ cells p)
    (IsOwn : P → Type 0) where
  -- one row
  pub own_row : (row : Row) (p : P) → IsOwn p → row ≡ cells p → IsOwnRow (IsOfOwn cells IsOwn) n row
  own_row row p own is = (
    (p, own, sym (all p) ∙ ap (columns n) (sym is)),
    subst (λ r. n ≤ length r) (sym is) (wide_as n (cells p) (all p)),
  )

  -- the rows of a whole table
  pub own_rows : (ps : List P) (rows : List Row) → rows ≡ map cells ps → AreOwn IsOwn ps
      → AreOfOwn cells n IsOwn rows
  own_rows ps rows is own row has =
      let it = has_image cells ps row (subst (λ rs. Has rs row) is has) in
      own_row row it.0 (own it.0 it.1) it.2

  -- those that pass a test, in an order
  pub own_listed : (passes : P → Bool) (cmp : P → P → Ordering) (ps : List P) (rows : List Row)
      → ListsAs cells passes cmp ps rows → ((p : P) → Has ps p → passes p ≡ true → IsOwn p)
      → AreOfOwn cells n IsOwn rows
  own_listed passes cmp ps rows l own row has =
      let it = has_image cells l.listed row (subst (λ rs. Has rs row) l.shows has) in
      let kept = has_filtered passes ps it.0
      (has_along it.0 l.listed (filter passes ps) (IsPermutation-sym _ _ l.lists.same) it.1) in
      own_row row it.0 (own it.0 kept.0 kept.1) it.2

  -- the first of them
  pub own_first : (passes : P → Bool) (cmp : P → P → Ordering) (ps : List P) (limit : ℕ)
      (all_rows rows : List Row) → ListsAs cells passes cmp ps all_rows → rows ≡ take limit all_rows
      → ((p : P) → Has ps p → passes p ≡ true → IsOwn p) → AreOfOwn cells n IsOwn rows
  own_first passes cmp ps limit all_rows rows l first own row has =
      own_listed passes cmp ps all_rows l own row
      (has_taken limit all_rows row (subst (λ rs. Has rs row) first has))

-- so do the values that are listed
pub listed_own : {P : Type 0} (IsOwn : P → Type 0) (passes : P → Bool)
    (cmp : P → P → Ordering) (ps listed : List P) → Lists passes cmp ps listed
    → ((p : P) → Has ps p → passes p ≡ true → IsOwn p) → AreOwn IsOwn listed
listed_own IsOwn passes cmp ps listed l own p has =
    let kept =
    has_filtered passes ps p (has_along p listed (filter passes ps) (IsPermutation-sym _ _ l.same) has) in
    own p kept.0 kept.1

-- a time between two is not missing
pub within_some : (from to : ℕ) (o : Option ℕ) → is_within from to o ≡ true → IsSome o
within_some from to None on = cc
within_some from to (Some at) on = refl

-- the sales between two times are of vouchers that this product writes
pub own_sales : (from to : ℕ) (vs : List VoucherRow) → AreOwn IsOwnVoucher vs
    → AreOwn IsOwnSale (map sale_columns (filter (λ (v : VoucherRow). is_within from to v.sold) vs))
own_sales from to vs own p has =
    let sold : VoucherRow → Bool = λ v. is_within from to v.sold in
    let it = has_image sale_columns (filter sold vs) p has in
    let kept = has_filtered sold vs it.0 it.1 in
    let whole = own it.0 kept.0 in
    subst IsOwnSale (sym it.2) (whole.batch, whole.sold, within_some from to it.0.sold kept.1)
