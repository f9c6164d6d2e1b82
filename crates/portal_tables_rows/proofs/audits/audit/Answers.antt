use Rattle.portal_tables_rows.proofs.Common.{◌≡◌, rules, refl, ap, ◌∙◌, map, None, Option, option_map}
use Rattle.portal_tables_rows.proofs.Common.{subst}
use Rattle.portal_tables_rows.proofs.Common.{IfOk-weaker, state, Finds, HeadRow, ends_row, head_read, map-map}
use Rattle.portal_tables_rows.proofs.Common.{count_read, count_part, total_part, err_from_is_err_and}
use Rattle.portal_tables_rows.specs.declared.rows.HeadValue.{HeadValue}
use Rattle.portal_tables_rows.proofs.HeldLemmas.{all_stand, open_fails, open_made, open_own, open_then}
use Rattle.portal_tables_rows.proofs.HeldLemmas.{row_opened}
use Rattle.portal_tables_rows.proofs.AuditLemmas.{audited, no_head}
use Rattle.portal_tables_rows.proofs.audits.audit.Goals as goal

pub returns-in_default : goal.returns-in_default
returns-in_default g c =
    let none : c.in_ok-head.field-0 ≡ None = search rules in
    open_made g.S.Store _ (row_opened g.S.Store c.in_ok-head.ensures) (λ t held is. no_head t (subst
    (λ (o : Option HeadValue). Finds (λ (x : HeadRow). x.id) 1 t.heads (option_map head_read o)) none is))
    (λ t is own. tt)

pub returns : goal.returns
returns g c =
    open_made g.S.Store c.rows_agree.result
    (open_then g.S.Store all_stand (row_opened g.S.Store c.in_ok-head.ensures)
    (open_then g.S.Store all_stand c.in_ok-rows.ensures
    (open_then g.S.Store all_stand (row_opened g.S.Store c.in_ok-batches.ensures)
    (row_opened g.S.Store c.in_ok-requests.ensures))))
    (λ t held is. IfOk-weaker c.rows_agree.result _ _ (λ agree same.
    let head = subst (λ (o : Option HeadValue).
    Finds (λ (x : HeadRow). x.id) 1 t.heads (option_map head_read o)) c.in-Some.is is.0 in
    let rows = c.in_ok-rows.rows in
    let counts = ap (map count_read) (c.deref-4.ensures.value ∙ c.in_ok-counts.ensures.counts
    ∙ ap (map count_part) c.deref.ensures.value) ∙ map-map count_read count_part rows.vouchers.items
    ∙ is.1.0.counts in
    let totals = ap (map ends_row) (c.deref-5.ensures.value ∙ c.in_ok-totals.ensures.totals
    ∙ ap (map total_part) c.deref-2.ensures.value) ∙ map-map ends_row total_part rows.sessions.items
    ∙ is.1.0.totals in
    let agreement = same t is.1.0 (c.deref-3.ensures.value ∙ is.1.1.0) counts totals is.1.1.1 in
    let db = (state g.S.Store c.args.conn.now).now in
    let counters = audited db t held (head_read c.in-Some.head) head.0 refl in (
      λ on. let it = agreement.0 on in
          record { keys = it.0; references = it.1; counters = counters.0 it.2 },
      λ a. agreement.1 (a.keys, a.references, counters.1 a.counters),
    )) c.rows_agree.ensures.agree)
    (λ t is own. c.rows_agree.ensures.kept t is.1.0 own.1)

pub returns-in_err-head : goal.returns-in_err-head
returns-in_err-head g c = open_fails g.S.Store c.from_residual.result c.from_residual.ensures.1
    (open_own g.S.Store (λ t own. own.0.heads) (row_opened g.S.Store c.in_err-head.ensures))

pub returns-in_err-rows : goal.returns-in_err-rows
returns-in_err-rows g c =
    open_fails g.S.Store c.from_residual-in_err-rows.result c.from_residual-in_err-rows.ensures.1
    (open_own g.S.Store (λ t own. own.0) (open_then g.S.Store all_stand
    (row_opened g.S.Store c.in_ok-head.ensures) c.in_err-rows.ensures))

pub returns-in_err-batches : goal.returns-in_err-batches
returns-in_err-batches g c =
    open_fails g.S.Store c.from_residual-in_err-batches.result
    c.from_residual-in_err-batches.ensures.1 (open_own g.S.Store (λ t own. own.0.batches)
    (open_then g.S.Store all_stand (row_opened g.S.Store c.in_ok-head.ensures)
    (open_then g.S.Store all_stand c.in_ok-rows.ensures
    (row_opened g.S.Store c.in_err-batches.ensures))))

pub returns-in_err-requests : goal.returns-in_err-requests
returns-in_err-requests g c =
    open_fails g.S.Store c.from_residual-in_err-requests.result
    c.from_residual-in_err-requests.ensures.1 (open_own g.S.Store (λ t own. own.0.requests)
    (open_then g.S.Store all_stand (row_opened g.S.Store c.in_ok-head.ensures)
    (open_then g.S.Store all_stand c.in_ok-rows.ensures
    (open_then g.S.Store all_stand (row_opened g.S.Store c.in_ok-batches.ensures)
    (row_opened g.S.Store c.in_err-requests.ensures)))))

pub returns-in_err-counts : goal.returns-in_err-counts
returns-in_err-counts g c =
    let told =
    err_from_is_err_and c.from_residual-in_err-counts.result c.from_residual-in_err-counts.ensures.1 in
    open_made g.S.Store c.from_residual-in_err-counts.result
    (open_then g.S.Store all_stand (row_opened g.S.Store c.in_ok-head.ensures)
    (open_then g.S.Store all_stand c.in_ok-rows.ensures
    (open_then g.S.Store all_stand (row_opened g.S.Store c.in_ok-batches.ensures)
    (row_opened g.S.Store c.in_ok-requests.ensures))))
    (λ t held is. rw told.1 tt) (λ t is own. rw (told.1, told.2) c.in_err-counts.ensures.memory)

pub returns-in_err-totals : goal.returns-in_err-totals
returns-in_err-totals g c =
    let told =
    err_from_is_err_and c.from_residual-in_err-totals.result c.from_residual-in_err-totals.ensures.1 in
    open_made g.S.Store c.from_residual-in_err-totals.result
    (open_then g.S.Store all_stand (row_opened g.S.Store c.in_ok-head.ensures)
    (open_then g.S.Store all_stand c.in_ok-rows.ensures
    (open_then g.S.Store all_stand (row_opened g.S.Store c.in_ok-batches.ensures)
    (row_opened g.S.Store c.in_ok-requests.ensures))))
    (λ t held is. rw told.1 tt) (λ t is own. rw (told.1, told.2) c.in_err-totals.ensures.memory)
