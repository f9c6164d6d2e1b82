-- The rows of the tables that a history determines, and how an accepted command changes them.
use Rattle.std.specs.Prelude.{ℕ, ◌+◌, ℤ, pos, ◌+ℤ◌, ◌-ℤ◌, nat_abs, max, cond, nat_eq, nat_lt, List, [], ◌∷◌}
use Rattle.std.specs.Prelude.{◌++◌, map, filter, find, length, sum_by, count_by, Option, Some, None}
use Rattle.std.specs.Prelude.{option_map, option_and_then, bytes_eq}
use Rattle.std.specs.Option.{option_or, option_to_list}
use Rattle.portal_model.specs.declared.command.Command.TheVariants.{Load, Issue}
use Rattle.portal_model.specs.declared.plan.Plan.{Plan}
use Rattle.portal_model.specs.declared.record.Batch.{Batch}
use Rattle.portal_model.specs.declared.record.Voucher.{Voucher}
use Rattle.portal_model.specs.declared.record.Session.{Session}
use Rattle.portal_model.specs.declared.record.Head.{Head}
use Rattle.portal_model.specs.declared.change.Changes.{Changes}
use Rattle.portal_model.specs.declared.change.Changes.TheVariants.{LoadChange, IssueChange, SellChange}
use Rattle.portal_model.specs.declared.change.Changes.TheVariants.{RedeemChange, ReportChange, RefundChange}
use Rattle.portal_model.specs.declared.change.Changes.TheVariants.{CloseChange}
use Rattle.portal_model.specs.History.{entry, History, plan_of, batch_row, Place, places_from, Grant}
use Rattle.portal_model.specs.History.{grants_of, members, greatest_session, session_row, sold_of, uses_of}
use Rattle.portal_model.specs.History.{refund_of, used_of, closed_of, head_of, limit_or_none}
use Rattle.portal_model.specs.Change.{plans_to_add, head_after, with_report, plan_among}

-- a row of portal_vouchers
pub record VoucherRow : Type 0 where
  pub code : List ℕ
  pub batch : List ℕ
  pub place : ℕ
  pub sold : Option ℕ
  pub refunded : Option ℕ
  pub amount : Option ℕ

-- a row of portal_sessions
pub record SessionRow : Type 0 where
  pub number : ℕ
  pub device : List ℕ
  pub plan : List ℕ
  pub opened : ℕ
  pub used : ℕ
  pub closed : Option ℕ

-- a row of portal_grants
pub record GrantRow : Type 0 where
  pub number : ℕ
  pub code : List ℕ
  pub session : ℕ
  pub moment : ℕ
  pub seconds : ℕ
  pub bytes : ℕ

-- a row of portal_counts
pub record CountRow : Type 0 where
  pub code : List ℕ
  pub redeemed : ℕ

-- a row of portal_totals
pub record TotalRow : Type 0 where
  pub number : ℕ
  pub ends : Option ℕ
  pub remaining : Option ℤ

-- The rows of each table, in the order in which they were made. The one row of portal_head also has the
-- schema version, which is not here.
pub record Rows : Type 0 where
  pub head : Head
  pub plans : List Plan
  pub batches : List Batch
  pub vouchers : List VoucherRow
  pub sessions : List SessionRow
  pub grants : List GrantRow
  pub counts : List CountRow
  pub totals : List TotalRow

-- The rows of a history

-- each plan, from the first load that lists it
abbrev pub plans_of : History → List Plan
plans_of [] = []
plans_of (entry t (Load plans) ∷ H) = plans_of H ++ plans_to_add (plan_of H) plans
plans_of (_ ∷ H) = plans_of H

-- each batch, in order of issue
abbrev pub batches_of : History → List Batch
batches_of [] = []
batches_of (entry t (Issue b p codes) ∷ H) =
    batches_of H ++ option_to_list (option_map (batch_row t b (length codes)) (plan_of H p))
batches_of (_ ∷ H) = batches_of H

-- each issued code, with its place in its batch
abbrev pub places_of : History → List Place
places_of [] = []
places_of (entry t (Issue b p codes) ∷ H) = places_of H ++ places_from b 0 codes
places_of (_ ∷ H) = places_of H

-- the row of a voucher, with its sale and its refund
abbrev pub row_of_place : History → Place → VoucherRow
row_of_place H k = record {
  code = k.code;
  batch = k.batch;
  place = k.place;
  sold = sold_of H k.code;
  refunded = option_map (λ r. r.at) (refund_of H k.code);
  amount = option_map (λ r. r.amount) (refund_of H k.code);
}

-- each voucher, in order of issue
abbrev pub vouchers_of : History → List VoucherRow
vouchers_of H = map (row_of_place H) (places_of H)

-- the row of the session that a redemption opened
abbrev pub row_of_opening : History → Grant → SessionRow
row_of_opening H g = record {
  number = g.session;
  device = g.device;
  plan = g.plan.id;
  opened = g.at;
  used = used_of H g.session;
  closed = closed_of H g.session;
}

-- the redemptions that opened a session: those with a new session number
abbrev pub openings : List Grant → List Grant
openings [] = []
openings (g ∷ gs) = openings gs ++ cond (nat_lt (greatest_session gs) g.session) (g ∷ []) []

-- each session, by its number
abbrev pub sessions_of : History → List SessionRow
sessions_of H = map (row_of_opening H) (openings (grants_of H))

-- the row of a redemption, with that number
abbrev pub row_of_grant : ℕ → Grant → GrantRow
row_of_grant number g = record {
  number = number;
  code = g.code;
  session = g.session;
  moment = g.at;
  seconds = g.plan.seconds;
  bytes = g.plan.bytes;
}

-- each redemption, numbered from 1
abbrev pub grant_rows : List Grant → List GrantRow
grant_rows [] = []
grant_rows (g ∷ gs) = grant_rows gs ++ row_of_grant (length gs + 1) g ∷ []

-- the row of portal_counts of a voucher: the number of its redemptions
abbrev pub count_of_place : History → Place → CountRow
count_of_place H k = record { code = k.code; redeemed = uses_of H k.code }

-- the counts of all vouchers, in order of issue
abbrev pub counts_of : History → List CountRow
counts_of H = map (count_of_place H) (places_of H)

-- what is left of a limit; below 0 if more was used
abbrev pub remaining_of : ℕ → Option ℕ → Option ℤ
remaining_of used allowance = option_map (λ all. pos all -ℤ pos used) allowance

-- the row of portal_totals of a session: its end and what remains
abbrev pub total_row : Session → TotalRow
total_row s = record { number = s.number; ends = s.ends; remaining = remaining_of s.used s.allowance }

-- the session that a redemption opened
abbrev pub session_opened : History → Grant → Session
session_opened H g = session_row H g.session (members (grants_of H) g.session) g

-- the totals of the session that a redemption opened
abbrev pub total_of_opening : History → Grant → TotalRow
total_of_opening H g = total_row (session_opened H g)

-- the totals of all sessions, by their numbers
abbrev pub totals_of : History → List TotalRow
totals_of H = map (total_of_opening H) (openings (grants_of H))

-- all rows of a history
abbrev pub rows_of : History → Rows
rows_of H = record {
  head = head_of H;
  plans = plans_of H;
  batches = batches_of H;
  vouchers = vouchers_of H;
  sessions = sessions_of H;
  grants = grant_rows (grants_of H);
  counts = counts_of H;
  totals = totals_of H;
}

-- The two tables of counters, as sums over the rows of the other tables: a database that lacks them gets
-- these, and an audit compares with these

-- the count of a voucher: the redemptions with its code
abbrev pub count_from : List GrantRow → VoucherRow → CountRow
count_from grants v = record { code = v.code; redeemed = count_by (λ g. bytes_eq g.code v.code) grants }

-- the counts of all vouchers
abbrev pub counts_from : Rows → List CountRow
counts_from r = map (count_from r.grants) r.vouchers

-- the totals of a session: its end and what remains, by the sums over its redemptions and by its first plan
abbrev pub total_from : Rows → SessionRow → TotalRow
total_from r s =
    let grants = filter (λ g. nat_eq g.session s.number) r.grants in
    let plan = plan_among r.plans s.plan in
    record {
      number = s.number;
      ends = option_and_then (λ p. limit_or_none p.seconds (s.opened + sum_by (λ g. g.seconds) grants)) plan;
      remaining = remaining_of s.used
          (option_and_then (λ p. limit_or_none p.bytes (sum_by (λ g. g.bytes) grants)) plan);
    }

-- the totals of all sessions
abbrev pub totals_from : Rows → List TotalRow
totals_from r = map (total_from r) r.sessions

-- The rows after an accepted command

-- the head row, with t as the time of the last command
abbrev pub with_last_moment : ℕ → Head → Head
with_last_moment t head = record head { last = t }

-- the rows of the vouchers of a new batch, from place n on
abbrev pub new_vouchers : List ℕ → ℕ → List (List ℕ) → List VoucherRow
new_vouchers b n [] = []
new_vouchers b n (code ∷ codes) =
    record { code = code; batch = b; place = n; sold = None; refunded = None; amount = None }
    ∷ new_vouchers b (n + 1) codes

-- the row, sold at t if it has that code
abbrev pub sold_if : List ℕ → ℕ → VoucherRow → VoucherRow
sold_if code t v = cond (bytes_eq code v.code) (record v { sold = Some t }) v

-- the row, refunded at t if it has that code
abbrev pub refunded_if : List ℕ → ℕ → ℕ → VoucherRow → VoucherRow
refunded_if code t amount v =
    cond (bytes_eq code v.code) (record v { refunded = Some t; amount = Some amount }) v

-- the row, with so many used bytes if it has that number
abbrev pub used_if : ℕ → ℕ → SessionRow → SessionRow
used_if number used s = cond (nat_eq number s.number) (record s { used = used }) s

-- the row, closed at t if it has that number
abbrev pub closed_if : ℕ → ℕ → SessionRow → SessionRow
closed_if number t s = cond (nat_eq number s.number) (record s { closed = Some t }) s

-- the new row of portal_sessions of a redemption that opens a session
abbrev pub new_session : Option Session → Voucher → Session → List SessionRow
new_session (Some running) v s = []
new_session None v s = record {
  number = s.number;
  device = s.device;
  plan = v.plan.id;
  opened = s.opened;
  used = 0;
  closed = None;
} ∷ []

-- the new row of portal_grants of a redemption, with the next number
abbrev pub new_grant : Head → Voucher → Session → ℕ → GrantRow
new_grant head v s t = record {
  number = head.grants + 1;
  code = v.code;
  session = s.number;
  moment = t;
  seconds = v.plan.seconds;
  bytes = v.plan.bytes;
}

-- the rows of portal_counts of a new batch
abbrev pub new_counts : List (List ℕ) → List CountRow
new_counts codes = map (λ code. record { code = code; redeemed = 0 }) codes

-- the row, redeemed that often if it has that code
abbrev pub counted_if : List ℕ → ℕ → CountRow → CountRow
counted_if code redeemed k = cond (bytes_eq code k.code) (record k { redeemed = redeemed }) k

-- the row, with the totals of that session if it is the session's
abbrev pub totalled_if : Session → TotalRow → TotalRow
totalled_if s total = cond (nat_eq s.number total.number) (total_row s) total

-- portal_totals after a redemption: the row of the extended session changed, or a row added for the opened
-- one
abbrev pub totals_after : Option Session → Session → List TotalRow → List TotalRow
totals_after (Some running) s totals = map (totalled_if s) totals
totals_after None s totals = totals ++ total_row s ∷ []

-- the rows after the changes: some are added at the end, some are changed in place
abbrev pub rows_after_changes : Changes → Rows → Rows
rows_after_changes (LoadChange c) r =
    record r { head = with_last_moment c.at r.head; plans = r.plans ++ c.added }
rows_after_changes (IssueChange c) r = record r {
  head = with_last_moment c.at r.head;
  batches = r.batches ++ c.batch ∷ [];
  vouchers = r.vouchers ++ new_vouchers c.batch.id 0 c.codes;
  counts = r.counts ++ new_counts c.codes;
}
rows_after_changes (SellChange c) r =
    record r { head = with_last_moment c.at r.head; vouchers = map (sold_if c.voucher.code c.at) r.vouchers }
rows_after_changes (RedeemChange c) r = record r {
  head = head_after r.head c.running c.at;
  sessions = r.sessions ++ new_session c.running c.voucher c.session;
  grants = r.grants ++ new_grant c.head c.voucher c.session c.at ∷ [];
  counts = map (counted_if c.voucher.code (c.voucher.redeemed + 1)) r.counts;
  totals = totals_after c.running c.session r.totals;
}
rows_after_changes (ReportChange c) r = record r {
  head = with_last_moment c.at r.head;
  sessions = map (used_if c.session.number (max c.bytes c.session.used)) r.sessions;
  totals = map (totalled_if (with_report c.bytes c.session)) r.totals;
}
rows_after_changes (RefundChange c) r = record r {
  head = with_last_moment c.at r.head;
  vouchers = map
      (refunded_if c.voucher.code c.at c.amount) r.vouchers;
}
rows_after_changes (CloseChange c) r = record r
    { head = with_last_moment c.at r.head; sessions = map (closed_if c.session.number c.at) r.sessions }

-- The records, read from the rows by their keys

-- the batch of that id
abbrev pub batch_among : List Batch → List ℕ → Option Batch
batch_among batches id = find (λ b. bytes_eq b.id id) batches

-- the row of the voucher of that code
abbrev pub row_among : List VoucherRow → List ℕ → Option VoucherRow
row_among rows code = find (λ v. bytes_eq v.code code) rows

-- the count of the voucher of that code
abbrev pub count_among : List CountRow → List ℕ → Option CountRow
count_among rows code = find (λ k. bytes_eq k.code code) rows

-- a voucher, joined from its row, its count, its batch and its plan
abbrev pub voucher_of_rows : VoucherRow → CountRow → Batch → Plan → Voucher
voucher_of_rows row count batch plan = record {
  code = row.code;
  batch = row.batch;
  plan = plan;
  expires = batch.expires;
  sold = row.sold;
  refund = row.amount;
  redeemed = count.redeemed;
}

-- the voucher of that code
abbrev pub voucher_from : Rows → List ℕ → Option Voucher
voucher_from r code =
    option_and_then (λ row. option_and_then (λ count.
    option_and_then (λ batch. option_map (voucher_of_rows row count batch) (plan_among r.plans batch.plan))
    (batch_among r.batches row.batch)) (count_among r.counts code)) (row_among r.vouchers code)

-- the row of the session of that number
abbrev pub session_among : List SessionRow → ℕ → Option SessionRow
session_among rows number = find (λ s. nat_eq s.number number) rows

-- the totals of the session of that number
abbrev pub total_among : List TotalRow → ℕ → Option TotalRow
total_among rows number = find (λ s. nat_eq s.number number) rows

-- the allowance, by what remains and what was used
abbrev pub allowance_from : Option ℤ → ℕ → Option ℕ
allowance_from remaining used = option_map (λ left. nat_abs (left +ℤ pos used)) remaining

-- a session, joined from its row, its totals and its plan
abbrev pub session_of_rows : SessionRow → TotalRow → Plan → Session
session_of_rows row total plan = record {
  number = row.number;
  device = row.device;
  plan = row.plan;
  extend = plan.extend;
  opened = row.opened;
  ends = total.ends;
  allowance = allowance_from total.remaining row.used;
  used = row.used;
  closed = row.closed;
}

-- the session of that number
abbrev pub session_from : Rows → ℕ → Option Session
session_from r number =
    option_and_then (λ row. option_and_then (λ total.
    option_map (session_of_rows row total) (plan_among r.plans row.plan)) (total_among r.totals number))
    (session_among r.sessions number)

-- the last row of the sessions of a device
abbrev pub last_among : List SessionRow → List ℕ → Option SessionRow
last_among [] device = None
last_among (s ∷ rows) device =
    option_or (last_among rows device) (cond (bytes_eq s.device device) (Some s) None)

-- the last session of the device
abbrev pub last_session_from : Rows → List ℕ → Option Session
last_session_from r device = option_and_then (λ row. session_from r row.number) (last_among r.sessions device)
