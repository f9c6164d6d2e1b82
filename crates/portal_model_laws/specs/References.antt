-- What the rows of a legal history refer to, and the places of its vouchers.
use Rattle.std.specs.Prelude.{Bool, ◌&&◌, nat_eq, bytes_eq, All, IsSome}
use Rattle.std.specs.List.{IsDistinct}
use Rattle.portal_model.specs.Change.{plan_among}
use Rattle.portal_model.specs.History.{History}
use Rattle.portal_model.specs.Rows.{Rows, VoucherRow, rows_of, vouchers_of, batch_among, row_among}
use Rattle.portal_model.specs.Rows.{session_among}
use Rattle.portal_model.specs.Verdict.{IsLegal}

-- each row that another refers to is there
pub record HasReferences (r : Rows) : Type 0 where
  pub batch_plans : All (λ b. IsSome (plan_among r.plans b.plan)) r.batches
  pub voucher_batches : All (λ v. IsSome (batch_among r.batches v.batch)) r.vouchers
  pub session_plans : All (λ s. IsSome (plan_among r.plans s.plan)) r.sessions
  pub grant_codes : All (λ g. IsSome (row_among r.vouchers g.code)) r.grants
  pub grant_sessions : All (λ g. IsSome (session_among r.sessions g.session)) r.grants
  pub count_codes : All (λ k. IsSome (row_among r.vouchers k.code)) r.counts

-- this holds of the rows of every legal history
abbrev pub RowsReferToRows : Type 0
RowsReferToRows = (H : History) → IsLegal H → HasReferences (rows_of H)

-- the same batch and the same place in it
abbrev pub same_place : VoucherRow → VoucherRow → Bool
same_place v w = bytes_eq v.batch w.batch && nat_eq v.place w.place

-- no two vouchers have the same place in a batch
abbrev pub PlacesAreUnique : Type 0
PlacesAreUnique = (H : History) → IsLegal H → IsDistinct same_place (vouchers_of H)
