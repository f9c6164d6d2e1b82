-- When the rows of a database agree with each other: each has a key of its own, each row that another refers
-- to is there, and the counters are what the other rows give.
use Rattle.std.specs.Prelude.{◌≡◌, ℕ, Bool, true, ◌&&◌, nat_eq, bytes_eq, List, map, length}
use Rattle.std.specs.List.{IsDistinct, list_all, list_any}
use Rattle.std.specs.HashSet.{HashSet, contains}
use Rattle.sqlite_rules.specs.Lists.{Has}
use Rattle.portal_codes.specs.Code.{IsCode, text_of}
use Rattle.portal_model.specs.Rows.{VoucherRow, SessionRow, GrantRow, CountRow, TotalRow, total_from}
use Rattle.portal_tables_rows.specs.declared.counted_rows.CountedRows.{CountedRows}
use Rattle.portal_tables_rows.specs.Contents.{Contents, HeadRow}
use Rattle.portal_tables_rows.specs.Read.{voucher_read, voucher_count, session_read, session_total}
use Rattle.portal_tables_rows.specs.Requests.{key_of}
use Rattle.portal_tables_rows.specs.Sums.{grant_read, rows_for_sums, uses_in}

-- ---- keys

-- the same batch and the same place in it
abbrev pub same_place : VoucherRow → VoucherRow → Bool
same_place v w = bytes_eq v.batch w.batch && nat_eq v.place w.place

-- the same caller and the same idempotency key
abbrev pub same_key : List ℕ × List ℕ → List ℕ × List ℕ → Bool
same_key a b = bytes_eq a.0 b.0 && bytes_eq a.1 b.1

-- No two rows of a table have the same key.
pub record HasDistinctKeys (t : Contents) : Type 0 where
  pub plans : IsDistinct bytes_eq (map (λ p. p.id) t.plans)
  pub batches : IsDistinct bytes_eq (map (λ b. b.id) t.batches)
  pub codes : IsDistinct bytes_eq (map (λ v. v.code) t.vouchers)
  pub places : IsDistinct same_place t.vouchers
  pub counts : IsDistinct bytes_eq (map (λ k. k.code) t.counts)
  pub requests : IsDistinct same_key (map key_of t.requests)

-- ---- references

-- each of the first list is in the second
abbrev pub AreAmong : {X : Type 0} → List X → List X → Type 0
AreAmong {X = X} xs ys = (x : X) → Has xs x → Has ys x

-- Each row that another refers to is there.
pub record HasReferences (t : Contents) : Type 0 where
  pub batch_plans : AreAmong (map (λ b. b.plan) t.batches) (map (λ p. p.id) t.plans)
  pub voucher_batches : AreAmong (map (λ v. v.batch) t.vouchers) (map (λ b. b.id) t.batches)
  pub session_plans : AreAmong (map (λ s. s.plan) t.sessions) (map (λ p. p.id) t.plans)
  pub grant_codes : AreAmong (map (λ g. g.code) t.grants) (map (λ v. v.code) t.vouchers)
  pub grant_sessions : AreAmong (map (λ g. g.session) t.grants) (map (λ s. s.number) t.sessions)
  pub count_codes : AreAmong (map (λ k. k.code) t.counts) (map (λ v. v.code) t.vouchers)

-- ---- counters

-- the end of a session and what remains, by the sums over its redemptions
abbrev pub total_in : Contents → SessionRow → TotalRow
total_in t s = total_from (rows_for_sums t.plans t.grants) s

-- The counters agree with the other rows.
pub record HasCounters (t : Contents) : Type 0 where
  -- each count is the number of the redemptions with its code
  pub counts : (k : CountRow) → Has t.counts k → k.redeemed ≡ uses_in t.grants k.code
  -- each total is what the sums give of a session that exists
  pub totals : (m : TotalRow) → Has t.totals m → (s : SessionRow) × Has t.sessions s × (m ≡ total_in t s)
  -- each voucher has its count
  pub vouchers : (v : VoucherRow) → Has t.vouchers v → (k : CountRow) × Has t.counts k × (k.code ≡ v.code)
  -- each session has its total
  pub sessions : (s : SessionRow) → Has t.sessions s → (m : TotalRow) × Has t.totals m × (m.number ≡ s.number)
  -- there is a head, and it has the numbers of rows
  pub head : (h : HeadRow) × Has t.heads h × (h.id ≡ 1) × (h.grants ≡ length t.grants)
      × (h.sessions ≡ length t.sessions)

-- ---- all three

pub record IsAudited (t : Contents) : Type 0 where
  pub keys : HasDistinctKeys t
  pub references : HasReferences t
  pub counters : HasCounters t

-- ---- the counters, tested row by row

-- the count is the number of the redemptions with its code
abbrev pub is_counted : List GrantRow → CountRow → Bool
is_counted grants k = nat_eq k.redeemed (uses_in grants k.code)

-- the voucher has a count
abbrev pub has_count : List CountRow → VoucherRow → Bool
has_count counts v = list_any (λ k. bytes_eq k.code v.code) counts

-- the set has just the codes that have a count
abbrev pub AreCounted : {S : Type 0} → HashSet (List ℕ) S → List CountRow → Type 0
AreCounted codes counts = (code : List ℕ) → IsCode code
    → contains bytes_eq codes code ≡ list_any (λ k. bytes_eq k.code (text_of code)) counts

-- as numbers rise in both tables, the totals are those of the sessions in their order
pub record Agrees (h : HeadRow) (t : Contents) : Type 0 where
  pub grants : h.grants ≡ length t.grants
  pub sessions : h.sessions ≡ length t.sessions
  pub counts : list_all (is_counted t.grants) t.counts ≡ true
  pub vouchers : list_all (has_count t.counts) t.vouchers ≡ true
  pub totals : t.totals ≡ map (total_in t) t.sessions

-- ---- what was read

-- the rows are those of the tables
pub record AreReadRows (rows : CountedRows) (t : Contents) : Type 0 where
  pub plans : rows.plans.items ≡ t.plans
  pub vouchers : map voucher_read rows.vouchers.items ≡ t.vouchers
  pub counts : map voucher_count rows.vouchers.items ≡ t.counts
  pub sessions : map session_read rows.sessions.items ≡ t.sessions
  pub totals : map session_total rows.sessions.items ≡ t.totals
  pub grants : map grant_read rows.grants.items ≡ t.grants
