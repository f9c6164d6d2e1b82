-- Lists of the values of a table that pass a test, in an order.
use Rattle.std.specs.Prelude.{◌≡◌, ℕ, ℤ, pos, Bool, true, false, ◌&&◌, ◌||◌, nat_le, nat_lt, int_lt, List, []}
use Rattle.std.specs.Prelude.{◌∷◌, map, take, filter, Option, Some, None, IsSome, is_none}
use Rattle.std.specs.Prelude.{IsPermutation}
use Rattle.std.specs.List.Sorted.{IsSorted}
use Rattle.std.specs.Option.{option_cmp}
use Rattle.std.specs.Ordering.{ordering_then, nat_cmp, is_ge, is_lt}
use Rattle.std.specs.Cmp.Lexicographic.{slice_cmp}
use Rattle.std.specs.declared.cmp.Ordering.{Ordering}
use Rattle.sqlite.specs.declared.types.Value.TheVariants.{Text}
use Rattle.sqlite.specs.Order.{Row}
use Rattle.portal_tables_sql.specs.Stored.{or_null}
use Rattle.portal_model.specs.History.{is_below}
use Rattle.portal_model.specs.IdText.{IsIdText}
use Rattle.portal_model.specs.declared.record.Batch.{Batch}
use Rattle.portal_model.specs.Rows.{VoucherRow, SessionRow, GrantRow, TotalRow}
use Rattle.portal_tables_rows.specs.Contents.{WholeSession, total_of}
use Rattle.portal_tables_rows.specs.Foreign.{IsMomentIfSome}
use Rattle.portal_tables_rows.specs.declared.lists.SaleValue.{SaleValue}

-- ---- values that pass a test, in an order

-- the list has the values that pass, in this order
pub record Lists {P : Type 0} (passes : P → Bool) (cmp : P → P → Ordering)
    (values listed : List P) : Type 0 where
  pub same : IsPermutation (filter passes values) listed
  pub sorted : IsSorted cmp listed

-- the answer has of each of them what `shown` gives
pub record ListsAs {P X : Type 0} (shown : P → X) (passes : P → Bool) (cmp : P → P → Ordering)
    (values : List P) (answer : List X) : Type 0 where
  pub listed : List P
  pub lists : Lists passes cmp values listed
  pub shows : answer ≡ map shown listed

-- the first values of such a list
pub record ListsFirst {P : Type 0} (count : ℕ) (passes : P → Bool) (cmp : P → P → Ordering)
    (values listed : List P) : Type 0 where
  pub all : List P
  pub lists : Lists passes cmp values all
  pub first : listed ≡ take count all

-- ---- tests

-- there is a time, and it is between the two, both included
abbrev pub is_within : ℕ → ℕ → Option ℕ → Bool
is_within from to None = false
is_within from to (Some at) = nat_le from at && nat_le at to

-- the text is one from the first on and below the second
abbrev pub is_between : List ℕ → List ℕ → List ℕ → Bool
is_between low high text = is_ge (slice_cmp nat_cmp text low) && is_lt (slice_cmp nat_cmp text high)

-- the batch was issued before the time, or then and has an id below that one
abbrev pub is_behind : ℕ → List ℕ → Batch → Bool
is_behind at id b = nat_le b.issued at && (nat_lt b.issued at || is_lt (slice_cmp nat_cmp b.id id))

-- something remains, or there is no limit
abbrev pub is_left : Option ℤ → Bool
is_left None = true
is_left (Some left) = int_lt (pos 0) left

-- the session is open at the time: not closed, before its end, and with something left
abbrev pub is_open_row : ℕ → WholeSession → Bool
is_open_row at w = is_none w.row.closed && (is_below at w.ends && is_left w.remaining)

-- the sessions with their totals that are open at the time, in the order of the rows
pub record ListsOpen (at : ℕ) (sessions : List SessionRow) (totals : List TotalRow)
    (listed : List WholeSession) : Type 0 where
  pub whole : List WholeSession
  pub their_rows : map (λ w. w.row) whole ≡ sessions
  pub their_totals : map total_of whole ≡ totals
  pub are : listed ≡ filter (is_open_row at) whole

-- ---- orders

-- the vouchers of a batch by their places
abbrev pub by_place : VoucherRow → VoucherRow → Ordering
by_place a b = nat_cmp a.place b.place

-- the earlier sale first, and of two at one time the lesser code
abbrev pub by_sale : VoucherRow → VoucherRow → Ordering
by_sale a b = ordering_then (option_cmp nat_cmp a.sold b.sold) (slice_cmp nat_cmp a.code b.code)

-- the earlier refund first, and of two at one time the lesser code
abbrev pub by_refund : VoucherRow → VoucherRow → Ordering
by_refund a b = ordering_then (option_cmp nat_cmp a.refunded b.refunded) (slice_cmp nat_cmp a.code b.code)

-- by the codes of the vouchers
abbrev pub by_code : VoucherRow → VoucherRow → Ordering
by_code a b = slice_cmp nat_cmp a.code b.code

-- the later redemption first
abbrev pub by_newest : GrantRow → GrantRow → Ordering
by_newest a b = nat_cmp b.number a.number

-- ---- what is read of a voucher

-- of a sale: the batch and the time
abbrev pub sale_columns : VoucherRow → List ℕ × Option ℕ
sale_columns v = (v.batch, v.sold)

abbrev pub sale_read : SaleValue → List ℕ × Option ℕ
sale_read s = (s.batch, Some s.at)

-- a sale of a voucher that this product writes
abbrev pub IsOwnSale : List ℕ × Option ℕ → Type 0
IsOwnSale sale = IsIdText sale.0 × IsMomentIfSome sale.1 × IsSome sale.1

-- a sale as two columns of a result
abbrev pub sale_cells : List ℕ × Option ℕ → Row
sale_cells sale = Text sale.0 ∷ or_null sale.1 ∷ []

-- of a refund: the time and the amount
abbrev pub refund_columns : VoucherRow → Option ℕ × Option ℕ
refund_columns v = (v.refunded, v.amount)

abbrev pub refund_read : ℕ × ℕ → Option ℕ × Option ℕ
refund_read r = (Some r.0, Some r.1)
