-- The texts that read a whole table only ask, under any schema.
use Rattle.portal_tables_rows.proofs.Common.{codes, None, refl, OnlyAsks, select_of, up, plans_name}
use Rattle.portal_tables_rows.proofs.Common.{vouchers_name, sessions_name, grants_name}
use Rattle.portal_tables_sql.proofs.SelectTexts.{plan_columns, session_columns, voucher_columns}
use Rattle.sqlite_tied.specs.Compute.{everything}
use Rattle.sqlite_ast.specs.declared.Statement.TheVariants as written
use Rattle.portal_tables_rows.proofs.Asking.{understood_idle}
use Rattle.portal_tables_sql.proofs.WholeTexts as texts
use Rattle.portal_tables_sql.proofs.RequestTexts.{request_columns}
use Rattle.portal_tables_sql.proofs.SelectTexts.{head_columns, batch_columns}
use Rattle.portal_tables_rows.proofs.Common.{head_name, batches_name, counts_name, totals_name, requests_name}
use Rattle.portal_tables_sql.specs.Copies.{select_of as select_all_of}
use Rattle.portal_tables_sql.specs.declared.copied_tables.CopiedTable.{CopiedTable}
use Rattle.portal_tables_sql.specs.declared.copied_tables.CopiedTable.TheVariants as copied

pub plans_asked : OnlyAsks texts.all_plans_text
unfolding everything
plans_asked schema c is =
    (understood_idle texts.all_plans_text
    (written.Select (select_of plans_name plan_columns None (up (codes "rowid")) None)) 0 (record {
      parsed = _;
      read = refl;
      is = refl;
      timeless = refl;
      counted = refl;
      whole = refl;
    }) (λ schema. refl) (λ schema base. refl) schema c is).0

pub vouchers_asked : OnlyAsks texts.all_vouchers_text
unfolding everything
vouchers_asked schema c is =
    (understood_idle texts.all_vouchers_text
    (written.Select (select_of vouchers_name voucher_columns None (up (codes "rowid")) None)) 0 (record {
      parsed = _;
      read = refl;
      is = refl;
      timeless = refl;
      counted = refl;
      whole = refl;
    }) (λ schema. refl) (λ schema base. refl) schema c is).0

pub sessions_asked : OnlyAsks texts.all_sessions_text
unfolding everything
sessions_asked schema c is =
    (understood_idle texts.all_sessions_text
    (written.Select (select_of sessions_name session_columns None (up (codes "number")) None)) 0 (record {
      parsed = _;
      read = refl;
      is = refl;
      timeless = refl;
      counted = refl;
      whole = refl;
    }) (λ schema. refl) (λ schema base. refl) schema c is).0

pub grants_asked : OnlyAsks texts.all_grants_text
unfolding everything
grants_asked schema c is =
    (understood_idle texts.all_grants_text
    (written.Select (select_of grants_name texts.all_grants_columns None (up (codes "number")) None))
    0 (record { parsed = _; read = refl; is = refl; timeless = refl; counted = refl; whole = refl })
    (λ schema. refl)
    (λ schema base. refl) schema c is).0

pub heads_asked : OnlyAsks texts.all_heads_text
unfolding everything
heads_asked schema c is =
    (understood_idle texts.all_heads_text
    (written.Select (select_of head_name head_columns None (up (codes "id")) None)) 0 (record {
      parsed = _;
      read = refl;
      is = refl;
      timeless = refl;
      counted = refl;
      whole = refl;
    }) (λ schema. refl) (λ schema base. refl) schema c is).0

pub batches_asked : OnlyAsks texts.all_batches_text
unfolding everything
batches_asked schema c is =
    (understood_idle texts.all_batches_text
    (written.Select (select_of batches_name batch_columns None (up (codes "rowid")) None)) 0 (record {
      parsed = _;
      read = refl;
      is = refl;
      timeless = refl;
      counted = refl;
      whole = refl;
    }) (λ schema. refl) (λ schema base. refl) schema c is).0

pub requests_asked : OnlyAsks texts.all_requests_text
unfolding everything
requests_asked schema c is =
    (understood_idle texts.all_requests_text
    (written.Select (select_of requests_name request_columns None (up (codes "rowid")) None)) 0 (record {
      parsed = _;
      read = refl;
      is = refl;
      timeless = refl;
      counted = refl;
      whole = refl;
    }) (λ schema. refl) (λ schema base. refl) schema c is).0

pub whole_asked : (x : CopiedTable) → OnlyAsks (select_all_of x)
whole_asked copied.Head = heads_asked
whole_asked copied.Plans = plans_asked
whole_asked copied.Batches = batches_asked
whole_asked copied.Grants = grants_asked
whole_asked copied.Requests = requests_asked

-- ---- of schema versions that keep their counters apart

pub old_vouchers_asked : OnlyAsks texts.old_vouchers_text
unfolding everything
old_vouchers_asked schema c is =
    (understood_idle texts.old_vouchers_text
    (written.Select (select_of vouchers_name texts.old_voucher_columns None (up (codes "rowid")) None)) 0
    (record {
      parsed = _;
      read = refl;
      is = refl;
      timeless = refl;
      counted = refl;
      whole = refl;
    }) (λ schema. refl) (λ schema base. refl) schema c is).0

pub old_sessions_asked : OnlyAsks texts.old_sessions_text
unfolding everything
old_sessions_asked schema c is =
    (understood_idle texts.old_sessions_text
    (written.Select (select_of sessions_name texts.old_session_columns None (up (codes "number")) None)) 0
    (record {
      parsed = _;
      read = refl;
      is = refl;
      timeless = refl;
      counted = refl;
      whole = refl;
    }) (λ schema. refl) (λ schema base. refl) schema c is).0

pub old_counts_asked : OnlyAsks texts.old_counts_text
unfolding everything
old_counts_asked schema c is =
    (understood_idle texts.old_counts_text
    (written.Select (select_of counts_name texts.count_columns None (up (codes "rowid")) None)) 0 (record {
      parsed = _;
      read = refl;
      is = refl;
      timeless = refl;
      counted = refl;
      whole = refl;
    }) (λ schema. refl) (λ schema base. refl) schema c is).0

pub old_totals_asked : OnlyAsks texts.old_totals_text
unfolding everything
old_totals_asked schema c is =
    (understood_idle texts.old_totals_text
    (written.Select (select_of totals_name texts.total_columns None (up (codes "number")) None)) 0 (record {
      parsed = _;
      read = refl;
      is = refl;
      timeless = refl;
      counted = refl;
      whole = refl;
    }) (λ schema. refl) (λ schema base. refl) schema c is).0
