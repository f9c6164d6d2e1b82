-- The rows of the values that are read.
use Rattle.portal_codes.specs.Code.{text_of}
use Rattle.portal_model.specs.Device.{text_of_device}
use Rattle.portal_model.specs.Rows.{VoucherRow, SessionRow, CountRow, TotalRow}
use Rattle.portal_tables_rows.specs.declared.rows.HeadValue.{HeadValue}
use Rattle.portal_tables_rows.specs.declared.column_values.Total.{Total}
use Rattle.portal_tables_rows.specs.declared.rows.OldSession.{OldSession}
use Rattle.portal_tables_rows.specs.declared.rows.OldVoucher.{OldVoucher}
use Rattle.portal_tables_rows.specs.declared.rows.VoucherValue.{VoucherValue}
use Rattle.portal_tables_rows.specs.declared.rows.SessionValue.{SessionValue}
use Rattle.portal_tables_rows.specs.declared.rows.CountValue.{CountValue}
use Rattle.portal_tables_rows.specs.Contents.{HeadRow, WholeVoucher, WholeSession}

abbrev pub head_read : HeadValue → HeadRow
head_read h =
    record {
      id = 1;
      schema_version = h.schema_version;
      last = h.last;
      grants = h.grants;
      sessions = h.sessions;
    }

abbrev pub voucher_read : VoucherValue → VoucherRow
voucher_read v = record {
  code = text_of v.code;
  batch = v.batch;
  place = v.place;
  sold = v.sold;
  refunded = v.refunded;
  amount = v.amount;
}

-- the count of the voucher
abbrev pub voucher_count : VoucherValue → CountRow
voucher_count v = record { code = text_of v.code; redeemed = v.redeemed }

abbrev pub whole_voucher_read : VoucherValue → WholeVoucher
whole_voucher_read v = record { row = voucher_read v; redeemed = v.redeemed }

abbrev pub old_voucher_read : OldVoucher → VoucherRow
old_voucher_read v = record {
  code = text_of v.code;
  batch = v.batch;
  place = v.place;
  sold = v.sold;
  refunded = v.refunded;
  amount = v.amount;
}

abbrev pub session_read : SessionValue → SessionRow
session_read s = record {
  number = s.number;
  device = text_of_device s.device;
  plan = s.plan;
  opened = s.opened;
  used = s.used;
  closed = s.closed;
}

-- the same as a row of a table of its own
abbrev pub count_part : VoucherValue → CountValue
count_part v = record { code = v.code; redeemed = v.redeemed }

-- the total of the session
abbrev pub session_total : SessionValue → TotalRow
session_total s = record { number = s.number; ends = s.ends; remaining = s.remaining }

-- the same as a row of a table of its own
abbrev pub total_part : SessionValue → Total
total_part s = record { number = s.number; ends = s.ends; remaining = s.remaining }

-- the session without its total
abbrev pub session_part : SessionValue → OldSession
session_part s = record {
  number = s.number;
  device = s.device;
  plan = s.plan;
  opened = s.opened;
  used = s.used;
  closed = s.closed;
}

abbrev pub whole_session_read : SessionValue → WholeSession
whole_session_read s = record { row = session_read s; ends = s.ends; remaining = s.remaining }

abbrev pub old_session_read : OldSession → SessionRow
old_session_read s = record {
  number = s.number;
  device = text_of_device s.device;
  plan = s.plan;
  opened = s.opened;
  used = s.used;
  closed = s.closed;
}

abbrev pub count_read : CountValue → CountRow
count_read k = record { code = text_of k.code; redeemed = k.redeemed }
