-- What each INSERT makes of the rows.
use Rattle.portal_tables_rows.proofs.Common.{◌≡◌, [], ◌∷◌, ◌++◌, ◌∙◌, None, refl, ap, Text, number, cast_null}
use Rattle.portal_tables_rows.proofs.Common.{cast_int, cast_or_null, cast_signed_or_null, or_null, Plan}
use Rattle.portal_tables_rows.proofs.Common.{SessionRow, GrantRow, TotalRow, head, plans, batches}
use Rattle.portal_tables_rows.proofs.Common.{vouchers, sessions, grants, HeadRow, batch_cells}
use Rattle.portal_tables_rows.proofs.Common.{grant_cells, grant_stored, head_stored, plan_cells}
use Rattle.portal_tables_rows.proofs.Common.{with_plan, with_batch, with_grant, with_head, head_cells}
use Rattle.portal_tables_rows.proofs.Common.{State, Contents, Holds, KeepsOthers, Stores, less_rowid}
use Rattle.portal_tables_rows.proofs.Common.{whole_row}
use Rattle.portal_tables_rows.proofs.Common.{WholeVoucher, WholeSession, whole_voucher_cells, count_of}
use Rattle.portal_tables_rows.proofs.Common.{whole_session_cells, whole_session_stored, total_of}
use Rattle.portal_tables_rows.proofs.Common.{with_whole_voucher, with_whole_session, signed_or_null, put_by}
use Rattle.portal_model.specs.declared.record.Batch.{Batch}
use Rattle.portal_tables_rows.proofs.OthersLemmas.{kept_others, own_named}
use Rattle.portal_tables_sql.specs.declared.our_tables.OurTable.TheVariants as our
use Rattle.portal_tables_rows.proofs.HoldsLemmas.{Touches, heads_now, plans_now, batches_now, vouchers_now}
use Rattle.portal_tables_rows.proofs.HoldsLemmas.{sessions_now, grants_now}
use Rattle.portal_tables_rows.proofs.Parts.{parts_pushed, parts_put}
use Rattle.portal_tables_rows.proofs.TableSteps.{LeadsTo, adds, puts}
use Rattle.portal_tables_sql.proofs.InsertTexts as texts
use Rattle.portal_tables_sql.proofs.TableLemmas.{always}

pub add_plan : (p : Plan) → LeadsTo texts.add_plan_text (plan_cells p) (with_plan p)
add_plan p old new count ran t h =
    let place = (h.places our.Plans) in
    let exists = (h.tables_exist.tables our.Plans (always _, tt)).exists in
    let k = adds texts.add_plan_text (plan_cells p) old new count ran (plans place.tree) exists
    texts.add_plan_terms 8 (texts.add_plan_means old.now.schema place.at place.tree exists) refl plan_cells
    t.plans p (h.store our.Plans (always _, tt)) (simp (cast_null, cast_int)) in
    (plans_now h _ k.0 k.1, kept_others old.now (plans place.tree) new.now (own_named our.Plans) k.0)

pub add_batch : (p : Batch) → LeadsTo texts.add_batch_text (batch_cells p) (with_batch p)
add_batch p old new count ran t h =
    let place = (h.places our.Batches) in
    let exists = (h.tables_exist.tables our.Batches (always _, tt)).exists in
    let k = adds texts.add_batch_text (batch_cells p) old new count ran (batches place.tree) exists
    texts.add_batch_terms 6 (texts.add_batch_means old.now.schema place.at place.tree exists) refl batch_cells
    t.batches p (h.store our.Batches (always _, tt)) (simp (cast_null, cast_int)) in
    (batches_now h _ k.0 k.1, kept_others old.now (batches place.tree) new.now (own_named our.Batches) k.0)

-- the rows with a voucher more, and its count
voucher_added : (w : WholeVoucher) (old new : State) (t : Contents) (h : Holds old.now t)
    → Touches old.now (vouchers (h.places our.Vouchers).tree) new.now
    × Stores less_rowid whole_voucher_cells (new.now.trees (h.places our.Vouchers).tree)
    ((h.store our.Vouchers (always _, tt)).whole ++ w ∷ [])
    → Holds new.now (with_whole_voucher w t) × KeepsOthers old.now new.now
voucher_added w old new t h k =
    let was = h.store our.Vouchers (always _, tt) in (
      vouchers_now h _ _ (was.whole ++ w ∷ [])
          (parts_pushed (λ (x : WholeVoucher). x.row) w was.whole
          ∙ ap (λ vs. vs ++ w.row ∷ []) was.their_rows)
          (parts_pushed count_of w was.whole ∙ ap (λ ks. ks ++ count_of w ∷ []) was.their_counts) k.0 k.1,
      kept_others old.now (vouchers (h.places our.Vouchers).tree) new.now (own_named our.Vouchers) k.0,
    )

pub add_voucher : (w : WholeVoucher)
    (none : (w.row.sold ≡ None) × (w.row.refunded ≡ None) × (w.row.amount ≡ None) × (w.redeemed ≡ 0))
    → LeadsTo texts.add_voucher_text (Text w.row.code ∷ Text w.row.batch ∷ number w.row.place ∷ [])
    (with_whole_voucher w)
add_voucher w none old new count ran t h =
    let place = (h.places our.Vouchers) in
    let exists = (h.tables_exist.tables our.Vouchers (always _, tt)).exists in
    let was = h.store our.Vouchers (always _, tt) in
    voucher_added w old new t h
    (adds texts.add_voucher_text (Text w.row.code ∷ Text w.row.batch ∷ number w.row.place ∷ [])
    old new count ran (vouchers place.tree) exists texts.add_voucher_terms 8
    (texts.add_voucher_means old.now.schema place.at place.tree exists) refl whole_voucher_cells was.whole w
    was.stored (simp (cast_null, cast_int, none.0, none.1, none.2, none.3)))

pub add_whole_voucher : (w : WholeVoucher) → LeadsTo texts.add_whole_voucher_text (whole_voucher_cells w)
    (with_whole_voucher w)
add_whole_voucher w old new count ran t h =
    let place = (h.places our.Vouchers) in
    let exists = (h.tables_exist.tables our.Vouchers (always _, tt)).exists in
    let was = h.store our.Vouchers (always _, tt) in
    voucher_added w old new t h
    (adds texts.add_whole_voucher_text (whole_voucher_cells w) old new count ran (vouchers place.tree) exists
    texts.add_whole_voucher_terms 8 (texts.add_whole_voucher_means old.now.schema place.at place.tree exists)
    refl whole_voucher_cells was.whole w was.stored (simp (cast_null, cast_int, cast_or_null)))

-- the rows with a session more, and its total
session_added : (w : WholeSession) (old new : State) (t : Contents) (h : Holds old.now t)
    → Touches old.now (sessions (h.places our.Sessions).tree) new.now
    × Stores whole_row whole_session_stored (new.now.trees (h.places our.Sessions).tree)
    (put_by (λ (x : WholeSession). x.row.number) w (h.store our.Sessions (always _, tt)).whole)
    → Holds new.now (with_whole_session w t) × KeepsOthers old.now new.now
session_added w old new t h k =
    let was = h.store our.Sessions (always _, tt) in (
      sessions_now h _ _ (put_by (λ (x : WholeSession). x.row.number) w was.whole)
          (parts_put (λ (x : WholeSession). x.row) (λ (x : SessionRow). x.number) w was.whole
          ∙ ap (put_by (λ (x : SessionRow). x.number) w.row) was.their_rows)
          (parts_put total_of (λ (x : TotalRow). x.number) w was.whole
          ∙ ap (put_by (λ (x : TotalRow). x.number) (total_of w)) was.their_totals) k.0 k.1,
      kept_others old.now (sessions (h.places our.Sessions).tree) new.now (own_named our.Sessions) k.0,
    )

pub add_session : (w : WholeSession) (none : (w.row.used ≡ 0) × (w.row.closed ≡ None))
    → LeadsTo texts.add_session_text (number w.row.number ∷ Text w.row.device ∷ Text w.row.plan
    ∷ number w.row.opened ∷ or_null w.ends ∷ signed_or_null w.remaining ∷ []) (with_whole_session w)
add_session w none old new count ran t h =
    let place = (h.places our.Sessions) in
    let exists = (h.tables_exist.tables our.Sessions (always _, tt)).exists in
    let was = h.store our.Sessions (always _, tt) in
    session_added w old new t h
    (puts texts.add_session_text (number w.row.number ∷ Text w.row.device ∷ Text w.row.plan
    ∷ number w.row.opened ∷ or_null w.ends ∷ signed_or_null w.remaining ∷ [])
    old new count ran (sessions place.tree) exists texts.add_session_terms 9 (texts.add_session_means
    old.now.schema place.at place.tree exists) refl (λ (x : WholeSession). x.row.number) whole_session_stored
    (λ x. refl) was.whole w was.stored
    (simp (cast_null, cast_int, cast_or_null, cast_signed_or_null, none.0, none.1)))

pub add_whole_session : (w : WholeSession) → LeadsTo texts.add_whole_session_text (whole_session_cells w)
    (with_whole_session w)
add_whole_session w old new count ran t h =
    let place = (h.places our.Sessions) in
    let exists = (h.tables_exist.tables our.Sessions (always _, tt)).exists in
    let was = h.store our.Sessions (always _, tt) in
    session_added w old new t h
    (puts texts.add_whole_session_text (whole_session_cells w) old new count ran (sessions place.tree) exists
    texts.add_whole_session_terms 9 (texts.add_whole_session_means old.now.schema place.at place.tree exists)
    refl (λ (x : WholeSession). x.row.number) whole_session_stored (λ x. refl) was.whole w was.stored
    (simp (cast_null, cast_int, cast_or_null, cast_signed_or_null)))

pub add_grant : (p : GrantRow) → LeadsTo texts.add_grant_text (grant_cells p) (with_grant p)
add_grant p old new count ran t h =
    let place = (h.places our.Grants) in
    let exists = (h.tables_exist.tables our.Grants (always _, tt)).exists in
    let k = puts texts.add_grant_text (grant_cells p) old new count ran (grants place.tree) exists
    texts.add_grant_terms 7 (texts.add_grant_means old.now.schema place.at place.tree exists) refl
    (λ (x : GrantRow). x.number) grant_stored (λ x. refl) t.grants p (h.store our.Grants (always _, tt))
    (simp (cast_null, cast_int)) in
    (grants_now h _ k.0 k.1, kept_others old.now (grants place.tree) new.now (own_named our.Grants) k.0)

pub add_head : (p : HeadRow) (none : (p.id ≡ 1) × (p.last ≡ 0) × (p.grants ≡ 0) × (p.sessions ≡ 0))
    → LeadsTo texts.add_head_text (number p.schema_version ∷ []) (with_head p)
add_head p none old new count ran t h =
    let place = (h.places our.Head) in
    let exists = (h.tables_exist.tables our.Head (always _, tt)).exists in
    let k = puts texts.add_head_text (number p.schema_version ∷ []) old new count ran (head place.tree)
    exists texts.add_head_terms 6 (texts.add_head_means old.now.schema place.at place.tree exists)
    refl (λ (x : HeadRow). x.id) head_stored (λ x. refl) t.heads p (h.store our.Head (always _, tt))
    (simp (cast_null, cast_int, none.0, none.1, none.2, none.3)) in
    (heads_now h _ k.0 k.1, kept_others old.now (head place.tree) new.now (own_named our.Head) k.0)

-- ---- with all columns

pub add_whole_head : (p : HeadRow) → LeadsTo texts.add_whole_head_text (head_cells p) (with_head p)
add_whole_head p old new count ran t h =
    let place = (h.places our.Head) in
    let exists = (h.tables_exist.tables our.Head (always _, tt)).exists in
    let k = puts texts.add_whole_head_text (head_cells p) old new count ran (head place.tree) exists
    texts.add_whole_head_terms 6 (texts.add_whole_head_means old.now.schema place.at place.tree exists) refl
    (λ (x : HeadRow). x.id) head_stored (λ x. refl) t.heads p (h.store our.Head (always _, tt))
    (simp (cast_null, cast_int)) in
    (heads_now h _ k.0 k.1, kept_others old.now (head place.tree) new.now (own_named our.Head) k.0)
