use Rattle.portal_tables_rows.proofs.HeldLemmas.{all_stand, open_fails, open_made, open_own, open_then}
use Rattle.portal_tables_rows.proofs.HeldLemmas.{open_wider, tables_opened}
use Rattle.portal_tables_rows.proofs.WholeReading.{bare_held, bare_there, first_held, first_there}
use Rattle.portal_tables_rows.proofs.counted_rows.read_counted_rows.Goals as goal

pub returns : goal.returns
returns g c =
    let plans = open_wider g.S.Store first_there first_held
    (tables_opened g.S.Store c.in_ok-read_all_plans.ensures) in
    let vouchers = open_wider g.S.Store bare_there bare_held
    (tables_opened g.S.Store c.in_ok-read_all_vouchers.ensures) in
    let sessions = open_wider g.S.Store bare_there bare_held
    (tables_opened g.S.Store c.in_ok-read_all_sessions.ensures) in
    let grants = open_wider g.S.Store first_there first_held
    (tables_opened g.S.Store c.in_ok-read_all_grants.ensures) in
    open_made g.S.Store _ (open_then g.S.Store all_stand plans (open_then g.S.Store all_stand vouchers
    (open_then g.S.Store all_stand sessions grants)))
    (λ t held is. record {
      plans = is.0;
      vouchers = is.1.0.0;
      counts = is.1.0.1;
      sessions = is.1.1.0.0;
      totals = is.1.1.0.1;
      grants = is.1.1.1;
    })
    (λ t is own. tt)

pub returns-in_err-read_all_plans : goal.returns-in_err-read_all_plans
returns-in_err-read_all_plans g c = open_fails g.S.Store c.from_residual.result c.from_residual.ensures.1
    (open_own g.S.Store (λ t own. own.plans) (open_wider g.S.Store first_there first_held
    (tables_opened g.S.Store c.in_err-read_all_plans.ensures)))

pub returns-in_err-read_all_vouchers : goal.returns-in_err-read_all_vouchers
returns-in_err-read_all_vouchers g c =
    let plans = open_wider g.S.Store first_there first_held
    (tables_opened g.S.Store c.in_ok-read_all_plans.ensures) in
    open_fails g.S.Store c.from_residual-in_err-read_all_vouchers.result
    c.from_residual-in_err-read_all_vouchers.ensures.1
    (open_own g.S.Store (λ t own. own.vouchers) (open_then g.S.Store all_stand plans (open_wider g.S.Store
    bare_there bare_held (tables_opened g.S.Store c.in_err-read_all_vouchers.ensures))))

pub returns-in_err-read_all_sessions : goal.returns-in_err-read_all_sessions
returns-in_err-read_all_sessions g c =
    let plans = open_wider g.S.Store first_there first_held
    (tables_opened g.S.Store c.in_ok-read_all_plans.ensures) in
    let vouchers = open_wider g.S.Store bare_there bare_held
    (tables_opened g.S.Store c.in_ok-read_all_vouchers.ensures) in
    open_fails g.S.Store c.from_residual-in_err-read_all_sessions.result
    c.from_residual-in_err-read_all_sessions.ensures.1
    (open_own g.S.Store (λ t own. (own.sessions, own.totals)) (open_then g.S.Store all_stand plans
    (open_then g.S.Store all_stand vouchers (open_wider g.S.Store bare_there bare_held
    (tables_opened g.S.Store c.in_err-read_all_sessions.ensures)))))

pub returns-in_err-read_all_grants : goal.returns-in_err-read_all_grants
returns-in_err-read_all_grants g c =
    let plans = open_wider g.S.Store first_there first_held
    (tables_opened g.S.Store c.in_ok-read_all_plans.ensures) in
    let vouchers = open_wider g.S.Store bare_there bare_held
    (tables_opened g.S.Store c.in_ok-read_all_vouchers.ensures) in
    let sessions = open_wider g.S.Store bare_there bare_held
    (tables_opened g.S.Store c.in_ok-read_all_sessions.ensures) in
    open_fails g.S.Store c.from_residual-in_err-read_all_grants.result
    c.from_residual-in_err-read_all_grants.ensures.1
    (open_own g.S.Store (λ t own. own.grants) (open_then g.S.Store all_stand plans
    (open_then g.S.Store all_stand vouchers (open_then g.S.Store all_stand sessions (open_wider g.S.Store
    first_there first_held (tables_opened g.S.Store c.in_err-read_all_grants.ensures))))))
