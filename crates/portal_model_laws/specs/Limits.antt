-- The limits of the values in the rows.
use Rattle.std.specs.Prelude.{ℕ, ◌≤◌, ◌<◌, pos, neg_ℤ, ◌≤ℤ◌, IfSome, All}
use Rattle.portal_model.specs.declared.record.Batch.{Batch}
use Rattle.portal_model.specs.declared.record.Head.{Head}
use Rattle.portal_model.specs.Rows.{Rows, VoucherRow, SessionRow, GrantRow, CountRow, TotalRow}
use Rattle.portal_model.specs.Verdict.{greatest_moment, greatest_allowance, greatest_count}

-- the most bytes that a report may have
abbrev pub greatest_report : ℕ
greatest_report = 9223372036854775807

-- a time within its limit
abbrev pub IsMoment : ℕ → Type 0
IsMoment t = t ≤ greatest_moment

-- the number of a session or a redemption
abbrev pub IsRowNumber : ℕ → Type 0
IsRowNumber n = (1 ≤ n) × (n ≤ greatest_count)

pub record HeadIsWithin (h : Head) : Type 0 where
  pub last : IsMoment h.last
  pub grants : h.grants ≤ greatest_count
  pub sessions : h.sessions ≤ h.grants

pub record BatchIsWithin (b : Batch) : Type 0 where
  pub issued : IsMoment b.issued
  pub expires : IsMoment b.expires
  pub size_least : 1 ≤ b.size
  pub size_most : b.size ≤ 500

pub record VoucherIsWithin (v : VoucherRow) : Type 0 where
  pub place : v.place < 500
  pub sold : IfSome v.sold IsMoment
  pub refunded : IfSome v.refunded IsMoment
  pub amount : IfSome v.amount (λ amount. amount ≤ 100000000)

pub record SessionIsWithin (s : SessionRow) : Type 0 where
  pub number : IsRowNumber s.number
  pub opened : IsMoment s.opened
  pub used : s.used ≤ greatest_report
  pub closed : IfSome s.closed IsMoment

pub record GrantIsWithin (g : GrantRow) : Type 0 where
  pub number : IsRowNumber g.number
  pub session : IsRowNumber g.session
  pub moment : IsMoment g.moment
  pub seconds : g.seconds ≤ 31622400
  pub bytes : g.bytes ≤ 1000000000000000

pub record CountIsWithin (k : CountRow) : Type 0 where
  pub redeemed : k.redeemed ≤ 100000

-- what remains may be below 0, since a report may exceed what was granted
pub record TotalIsWithin (t : TotalRow) : Type 0 where
  pub number : IsRowNumber t.number
  pub ends : IfSome t.ends IsMoment
  pub least : IfSome t.remaining (λ left. neg_ℤ (pos greatest_report) ≤ℤ left)
  pub most : IfSome t.remaining (λ left. left ≤ℤ pos greatest_allowance)

pub record AreWithin (r : Rows) : Type 0 where
  pub head : HeadIsWithin r.head
  pub batches : All BatchIsWithin r.batches
  pub vouchers : All VoucherIsWithin r.vouchers
  pub sessions : All SessionIsWithin r.sessions
  pub grants : All GrantIsWithin r.grants
  pub counts : All CountIsWithin r.counts
  pub totals : All TotalIsWithin r.totals
