-- From the sales and refunds that the readers list to those of the history.
use Rattle.portal_tables.proofs.Common.{◌≡◌, ℕ, List, [], ◌∷◌, map, filter, Bool, true, false, cond, Option}
use Rattle.portal_tables.proofs.Common.{Some, None, option_map, option_and_then, refl, sym, ap, ap₂, subst}
use Rattle.portal_tables.proofs.Common.{◌∙◌, Ordering, filter_map, cons_option, IsPermutation, IsSorted}
use Rattle.portal_tables.proofs.Common.{IsPermutation-filter, along_permutation, pull_back, Plan, Batch}
use Rattle.portal_tables.proofs.Common.{plan_among, History, VoucherRow, rows_of, vouchers_of, batches_of}
use Rattle.portal_tables.proofs.Common.{plans_of, batch_among, IsLegal, Lists, ListsAs, is_within, by_refund}
use Rattle.portal_tables.proofs.Common.{by_sale, sale_columns, sale_read, refund_columns, refund_read}
use Rattle.portal_tables.proofs.Common.{SaleValue, AreOrderedSales, AreSales, AreRefunds, payment_of}
use Rattle.portal_tables.proofs.Common.{is_paid_within, price_among, payment_at, voucher_kept}
use Rattle.std.proofs.lemmas.List.Sorted.{IsPermutation-refl, IsPermutation-cons, IsPermutation-trans}
use Rattle.std.proofs.lemmas.List.Sorted.{IsPermutation-middle}
use Rattle.portal_model.specs.Payments.{Payment, payment, sales_of, sale_from, refunds_of, refund_from}
use Rattle.portal_model.specs.Payments.{plan_of_row}
use Rattle.portal_model_laws.proofs.Basics.{map-map, filter-map}
use Rattle.portal_model_laws.proofs.Paid.{sales_are_rows, refunds_are_rows}
use Rattle.portal_tables_rows.proofs.Listing.{sorted_from_map}

-- ---- lists

module _ {X Y : Type 0} (f : X → Option Y) where
  heads_turned : (o q : Option Y) (ys : List Y)
      → IsPermutation (cons_option o (cons_option q ys)) (cons_option q (cons_option o ys))
  heads_turned None q ys = IsPermutation-refl _
  heads_turned (Some x) None ys = IsPermutation-refl _
  heads_turned (Some x) (Some y) ys = IsPermutation-middle (x ∷ []) y ys

  under_head : (o : Option Y) (xs ys : List Y) → IsPermutation xs ys
      → IsPermutation (cons_option o xs) (cons_option o ys)
  under_head None xs ys same = same
  under_head (Some y) xs ys same = IsPermutation-cons y xs ys same

  same_kept : (xs ys : List X) → IsPermutation xs ys → IsPermutation (filter_map f xs) (filter_map f ys)
  same_kept = along_permutation (λ xs ys. IsPermutation (filter_map f xs) (filter_map f ys))
      (λ xs. IsPermutation-refl _) (λ x xs ys same. under_head (f x) _ _ same)
      (λ x y xs. heads_turned (f x) (f y) _) (λ xs ys zs. IsPermutation-trans _ _ _)

  -- a test on what is kept, as a test before
  kept_within : (after : Y → Bool) (before : X → Bool) → ((x : X) (y : Y) → f x ≡ Some y → after y ≡ before x)
      → (xs : List X) → filter after (filter_map f xs) ≡ filter_map f (filter before xs)
  kept_within after before agree [] = refl
  kept_within after before agree (x ∷ xs) = go (kept_within after before agree xs) (f x) refl (before x) refl
    where
      go : filter after (filter_map f xs) ≡ filter_map f (filter before xs) → (o : Option Y)
          → f x ≡ o → (b : Bool) → before x ≡ b → filter after (cons_option o (filter_map f xs))
          ≡ filter_map f (cond b (x ∷ filter before xs) (filter before xs))
      go rest None is true on = rest ∙ ap (λ o. cons_option o (filter_map f (filter before xs))) (sym is)
      go rest None is false off = rest
      go rest (Some y) is true on = rw (agree x y is ∙ on, is) (ap (λ ys. y ∷ ys) rest)
      go rest (Some y) is false off = rw (agree x y is ∙ off) rest

  -- where each gives a value, the values are kept
  all_kept : {Z : Type 0} (g : Z → Y) (xs : List X) (zs : List Z) → map f xs ≡ map (λ z. Some (g z)) zs
      → filter_map f xs ≡ map g zs
  all_kept g [] [] e = refl
  all_kept g [] (z ∷ zs) e = absurd (cc)
  all_kept g (x ∷ xs) [] e = absurd (cc)
  all_kept g (x ∷ xs) (z ∷ zs) e =
      let first : f x ≡ Some (g z) = cc in
      let rest : map f xs ≡ map (λ z. Some (g z)) zs = cc in
      ap₂ cons_option first (all_kept g xs zs rest)

-- ---- the vouchers behind the rows that were listed

-- the vouchers that pass, in the order in which they are stored
record Behind (passes : VoucherRow → Bool) (cmp : VoucherRow → VoucherRow → Ordering)
    (values listed : List VoucherRow) : Type 0 where
  vouchers : List VoucherRow
  same : IsPermutation (filter passes values) vouchers
  sorted : IsSorted (λ a b. cmp (voucher_kept a) (voucher_kept b)) vouchers
  kept : listed ≡ map voucher_kept vouchers

behind : (passes : VoucherRow → Bool) (cmp : VoucherRow → VoucherRow → Ordering)
    → ((v : VoucherRow) → passes (voucher_kept v) ≡ passes v) → (values listed : List VoucherRow)
    → Lists passes cmp (map voucher_kept values) listed
    → Behind passes cmp values listed
behind passes cmp tests values listed l =
    let passing : filter passes (map voucher_kept values) ≡ map voucher_kept (filter passes values) =
    filter-map voucher_kept passes values ∙ (λ i. map voucher_kept (filter (λ v. tests v i) values)) in
    let back = pull_back voucher_kept (filter passes (map voucher_kept values)) listed l.same
    (filter passes values) passing in
    record {
      vouchers = back.0;
      same = back.1;
      sorted = sorted_from_map voucher_kept cmp back.0 (subst (IsSorted cmp) back.2 l.sorted);
      kept = back.2;
    }

-- the payments of the history that pass are those of the vouchers that pass
payments_are : (f : VoucherRow → Option Payment) (after : Payment → Bool) (before : VoucherRow → Bool)
    → ((v : VoucherRow) (p : Payment) → f v ≡ Some p → after p ≡ before v)
    → (payments : List Payment) (values vouchers : List VoucherRow)
    → IsPermutation payments (filter_map f values) → IsPermutation (filter before values) vouchers
    → (answer : List (ℕ × ℕ)) → map f vouchers ≡ map (λ p. Some (payment_of p)) answer
    → IsPermutation (filter after payments) (map payment_of answer)
payments_are f after before agree payments values vouchers law same answer each =
    let one = IsPermutation-filter after payments (filter_map f values) law in
    let two = same_kept f (filter before values) vouchers same in
    IsPermutation-trans _ _ _
    (subst (IsPermutation (filter after payments)) (kept_within f after before agree values) one)
    (subst (IsPermutation (filter_map f (filter before values)))
    (all_kept f payment_of vouchers answer each) two)

-- ---- sales

module _ (h : History) (legal : IsLegal h) (from to : ℕ) where
  sale_is : (v : VoucherRow) → sale_from (rows_of h) v
      ≡ payment_at (price_among (plans_of h) (batches_of h) v.batch) (sale_columns v)
  sale_is v = go v.sold (batch_among (batches_of h) v.batch)
    where
      under : (at : ℕ) (q : Option Plan) → option_map (λ plan. payment at plan.price) q
          ≡ option_map (payment at) (option_map (λ plan. plan.price) q)
      under at None = refl
      under at (Some plan) = refl

      go : (o : Option ℕ) (q : Option Batch) → option_and_then (λ at. option_map
          (λ plan. payment at plan.price) (option_and_then (λ batch. plan_among (plans_of h) batch.plan) q)) o
          ≡ option_and_then (λ at. option_map (payment at) (option_and_then
          (λ batch. option_map (λ plan. plan.price) (plan_among (plans_of h) batch.plan)) q)) o
      go None q = refl
      go (Some at) None = refl
      go (Some at) (Some batch) = under at (plan_among (plans_of h) batch.plan)

  sale_within : (v : VoucherRow) (p : Payment) → sale_from (rows_of h) v ≡ Some p
      → is_paid_within from to p ≡ is_within from to v.sold
  sale_within v p is = go v.sold (plan_of_row (rows_of h) v) is
    where
      go : (o : Option ℕ) (q : Option Plan)
          → option_and_then (λ at. option_map (λ plan. payment at plan.price) q) o ≡ Some p
          → is_paid_within from to p ≡ is_within from to o
      go None q e = absurd (cc)
      go (Some at) None e = absurd (cc)
      go (Some at) (Some plan) e = let same : payment at plan.price ≡ p = cc in
          ap (is_paid_within from to) (sym same)

  -- the sales of the vouchers that were listed, priced by their batches and plans
  pub sales_priced : (sales : List SaleValue) → map sale_read sales
      ≡ map sale_columns (filter (λ v. is_within from to v.sold) (map voucher_kept (vouchers_of h)))
      → (price_of : List ℕ → Option ℕ)
      → ((id : List ℕ) → price_of id ≡ price_among (plans_of h) (batches_of h) id) → (answer : List (ℕ × ℕ))
      → map (λ s. payment_at (price_of s.batch) (sale_read s)) sales ≡ map (λ p. Some (payment_of p)) answer
      → AreSales h from to answer
  sales_priced sales listed price_of prices answer priced =
      let sold : VoucherRow → Bool = λ (v : VoucherRow). is_within from to v.sold in
      let vouchers = filter sold (vouchers_of h) in
      let tell : List ℕ × Option ℕ → Option Payment =
      λ (s : List ℕ × Option ℕ). payment_at (price_among (plans_of h) (batches_of h) s.0) s in
      let each : map (sale_from (rows_of h)) vouchers ≡ map (λ p. Some (payment_of p)) answer =
      (λ i. map (λ v. sale_is v i) vouchers)
      ∙ sym (map-map sale_columns tell vouchers)
      ∙ ap (map tell) (sym (map-map voucher_kept sale_columns vouchers)
      ∙ ap (map sale_columns) (sym (filter-map voucher_kept sold (vouchers_of h))) ∙ sym listed)
      ∙ map-map sale_read tell sales
      ∙ sym (λ i. map (λ (s : SaleValue). payment_at (prices s.batch i) (sale_read s)) sales)
      ∙ priced in
      record {
        payments = payments_are (sale_from (rows_of h)) (is_paid_within from to) sold sale_within (sales_of h)
            (vouchers_of h) vouchers (sales_are_rows h legal) (IsPermutation-refl vouchers) answer each;
        each = each;
      }

  -- the same of those that were listed in their order
  pub ordered_sales_priced : (sales : List SaleValue)
      → ListsAs sale_columns (λ (v : VoucherRow). is_within from to v.sold) by_sale
      (map voucher_kept (vouchers_of h)) (map sale_read sales) → (price_of : List ℕ → Option ℕ)
      → ((id : List ℕ) → price_of id ≡ price_among (plans_of h) (batches_of h) id) → (answer : List (ℕ × ℕ))
      → map (λ s. payment_at (price_of s.batch) (sale_read s)) sales ≡ map (λ p. Some (payment_of p)) answer
      → AreOrderedSales h from to answer
  ordered_sales_priced sales l price_of prices answer priced =
      let sold : VoucherRow → Bool = λ (v : VoucherRow). is_within from to v.sold in
      let it = behind sold by_sale (λ v. refl) (vouchers_of h) l.listed l.lists in
      let tell : List ℕ × Option ℕ → Option Payment =
      λ (s : List ℕ × Option ℕ). payment_at (price_among (plans_of h) (batches_of h) s.0) s in
      let each : map (sale_from (rows_of h)) it.vouchers ≡ map (λ p. Some (payment_of p)) answer =
      (λ i. map (λ v. sale_is v i) it.vouchers)
      ∙ sym (map-map sale_columns tell it.vouchers)
      ∙ ap (map tell) (sym (map-map voucher_kept sale_columns it.vouchers)
      ∙ ap (map sale_columns) (sym it.kept) ∙ sym l.shows)
      ∙ map-map sale_read tell sales
      ∙ sym (λ i. map (λ (s : SaleValue). payment_at (prices s.batch i) (sale_read s)) sales)
      ∙ priced in
      record {
        payments = payments_are (sale_from (rows_of h)) (is_paid_within from to) sold sale_within (sales_of h)
            (vouchers_of h) it.vouchers (sales_are_rows h legal) it.same answer each;
        vouchers = it.vouchers;
        same = it.same;
        sorted = it.sorted;
        each = each;
      }

-- ---- refunds

abbrev refund_of_shown : Option ℕ × Option ℕ → Option Payment
refund_of_shown shown = option_and_then (λ at. option_map (payment at) shown.1) shown.0

module _ (h : History) (legal : IsLegal h) (from to : ℕ) where
  refund_within : (v : VoucherRow) (p : Payment) → refund_from v ≡ Some p
      → is_paid_within from to p ≡ is_within from to v.refunded
  refund_within v p is = go v.refunded v.amount is
    where
      go : (o q : Option ℕ) → option_and_then (λ at. option_map (payment at) q) o ≡ Some p
          → is_paid_within from to p ≡ is_within from to o
      go None q e = absurd (cc)
      go (Some at) None e = absurd (cc)
      go (Some at) (Some amount) e = let same : payment at amount ≡ p = cc in
          ap (is_paid_within from to) (sym same)

  pub refunds_listed : (answer : List (ℕ × ℕ))
      → ListsAs refund_columns (λ (v : VoucherRow). is_within from to v.refunded) by_refund
      (map voucher_kept (vouchers_of h)) (map refund_read answer) → AreRefunds h from to answer
  refunds_listed answer l =
      let refunded : VoucherRow → Bool = λ (v : VoucherRow). is_within from to v.refunded in
      let it = behind refunded by_refund (λ v. refl) (vouchers_of h) l.listed l.lists in
      let each : map refund_from it.vouchers ≡ map (λ p. Some (payment_of p)) answer =
      sym (map-map voucher_kept (λ (v : VoucherRow). refund_of_shown (refund_columns v)) it.vouchers)
      ∙ ap (map (λ (v : VoucherRow). refund_of_shown (refund_columns v))) (sym it.kept)
      ∙ sym (map-map refund_columns refund_of_shown l.listed)
      ∙ ap (map refund_of_shown) (sym l.shows)
      ∙ map-map refund_read refund_of_shown answer in
      record {
        payments = payments_are refund_from (is_paid_within from to) refunded refund_within (refunds_of h)
            (vouchers_of h) it.vouchers (refunds_are_rows h legal) it.same answer each;
        vouchers = it.vouchers;
        same = it.same;
        sorted = it.sorted;
        each = each;
      }
