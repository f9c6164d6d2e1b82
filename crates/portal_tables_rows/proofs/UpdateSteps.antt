-- What each UPDATE makes of the rows.
use Rattle.portal_tables_rows.proofs.Common.{◌≡◌, ℕ, ℤ, List, [], ◌∷◌, Some, map, cond, refl, ap, ◌∙◌, is_eq}
use Rattle.portal_tables_rows.proofs.Common.{bytes_eq, nat_eq, drop, Int, Text, Row, value_cmp, holds, number}
use Rattle.portal_tables_rows.proofs.Common.{or_null, whole_row, less_rowid, cast_null, cast_int}
use Rattle.portal_tables_rows.proofs.Common.{cast_or_null, cast_signed_or_null, truth_is, opens_keyed}
use Rattle.portal_tables_rows.proofs.Common.{opens_numbered, text_test, number_test, TotalRow, head, vouchers}
use Rattle.portal_tables_rows.proofs.Common.{sessions, HeadRow, signed_or_null, head_stored, with_sale}
use Rattle.portal_tables_rows.proofs.Common.{with_refund, with_moment, with_numbers, with_schema_version}
use Rattle.portal_tables_rows.proofs.Common.{with_use, with_close, with_redeemed, with_ends, WholeVoucher}
use Rattle.portal_tables_rows.proofs.Common.{WholeSession, whole_voucher_cells, whole_session_stored}
use Rattle.portal_tables_rows.proofs.Common.{count_of, total_of}
use Rattle.portal_tables_rows.specs.Steps.{with_ends_if}
use Rattle.portal_model.specs.Rows.{sold_if, refunded_if, used_if, closed_if, counted_if}
use Rattle.portal_tables_rows.proofs.Parts.{parts_changed, parts_kept, part_of_cond, part_if_same}
use Rattle.std.specs.List.{list_all}
use Rattle.sqlite_sql.specs.Ops.{binary}
use Rattle.portal_tables_rows.proofs.OthersLemmas.{kept_others, own_named}
use Rattle.portal_tables_sql.specs.declared.our_tables.OurTable.TheVariants as our
use Rattle.portal_tables_rows.proofs.HoldsLemmas.{heads_now, vouchers_now, sessions_now}
use Rattle.portal_tables_rows.proofs.TableSteps.{LeadsTo, sets}
use Rattle.portal_tables_sql.proofs.UpdateTexts as texts
use Rattle.portal_tables_sql.proofs.TableLemmas.{always}

-- what WHERE tests of a row, under these parameters
code_tests : (code c : List ℕ) (n : ℤ) (more rest : Row)
    → list_all (holds ((Text code ∷ more) ∷ (Int n ∷ Text c ∷ rest) ∷ [])) texts.by_code ≡ bytes_eq code c
unfolding binary
code_tests code c n more rest = truth_is (is_eq (value_cmp (Text c) (Text code))) ∙ text_test c code

number_tests : (id n : ℕ) (more rest : Row)
    → list_all (holds ((number id ∷ more) ∷ (number n ∷ rest) ∷ [])) texts.by_number ≡ nat_eq id n
unfolding binary
number_tests id n more rest = truth_is (is_eq (value_cmp (number n) (number id))) ∙ number_test n id

one_tests : (n : ℕ) (params rest : Row)
    → list_all (holds (params ∷ (number n ∷ rest) ∷ [])) texts.by_one ≡ nat_eq 1 n
unfolding binary
one_tests n params rest = truth_is (is_eq (value_cmp (number n) (number 1))) ∙ number_test n 1

pub sell : (code : List ℕ) (at : ℕ)
    → LeadsTo texts.sell_text (Text code ∷ number at ∷ []) (with_sale code at)
sell code at old new count ran t h =
    let place = (h.places our.Vouchers) in
    let here = (h.tables_exist.tables our.Vouchers (always _, tt)) in
    let was = h.store our.Vouchers (always _, tt) in
    let passes = λ (w : WholeVoucher). bytes_eq code w.row.code in
    let set : WholeVoucher → WholeVoucher = λ w. record w { row = record (w.row) { sold = Some at } } in
    let k = sets texts.sell_text (Text code ∷ number at ∷ []) old new count ran
    (vouchers place.tree) here.exists less_rowid whole_voucher_cells (λ n w. Int n ∷ whole_voucher_cells w)
    (opens_keyed whole_voucher_cells) (λ n w. refl) texts.by_code texts.sell_terms here.unacted
    (texts.sell_means old.now.schema place.at place.tree here.exists)
    was.whole was.stored passes set (λ r. refl)
    (λ n w. code_tests code w.row.code n (number at ∷ []) (drop 1 (whole_voucher_cells w)))
    (λ n w. refl) (λ n w. simp (cast_int, cast_or_null)) in (
      vouchers_now h _ _ (map (λ w. cond (passes w) (set w) w) was.whole)
          (parts_changed (λ (w : WholeVoucher). w.row) (λ w. cond (passes w) (set w) w) (sold_if code at)
          (λ w. part_of_cond (λ (x : WholeVoucher). x.row) (passes w) (set w) w) was.whole
          ∙ ap (map (sold_if code at)) was.their_rows)
          (parts_kept count_of (λ w. cond (passes w) (set w) w)
          (λ w. part_if_same count_of (passes w) (set w) w refl) was.whole ∙ was.their_counts) k.0 k.1,
      kept_others old.now (vouchers place.tree) new.now (own_named our.Vouchers) k.0,
    )

pub refund : (code : List ℕ) (at : ℕ) (amount : ℕ)
    → LeadsTo texts.refund_text (Text code ∷ number at ∷ number amount ∷ []) (with_refund code at amount)
refund code at amount old new count ran t h =
    let place = (h.places our.Vouchers) in
    let here = (h.tables_exist.tables our.Vouchers (always _, tt)) in
    let was = h.store our.Vouchers (always _, tt) in
    let passes = λ (w : WholeVoucher). bytes_eq code w.row.code in
    let set : WholeVoucher → WholeVoucher = λ w. record w {
      row = record (w.row)
          { refunded = Some at; amount = Some amount };
    } in
    let k = sets texts.refund_text (Text code ∷ number at ∷ number amount ∷ []) old new count ran
    (vouchers place.tree) here.exists less_rowid whole_voucher_cells (λ n w. Int n ∷ whole_voucher_cells w)
    (opens_keyed whole_voucher_cells) (λ n w. refl) texts.by_code texts.refund_terms here.unacted
    (texts.refund_means old.now.schema place.at place.tree here.exists)
    was.whole was.stored passes set (λ r. refl)
    (λ n w. code_tests code w.row.code n (number at ∷ number amount ∷ []) (drop 1 (whole_voucher_cells w)))
    (λ n w. refl) (λ n w. simp (cast_int, cast_or_null)) in (
      vouchers_now h _ _ (map (λ w. cond (passes w) (set w) w) was.whole)
          (parts_changed (λ (w : WholeVoucher). w.row) (λ w. cond (passes w) (set w) w)
          (refunded_if code at amount)
          (λ w. part_of_cond (λ (x : WholeVoucher). x.row) (passes w) (set w) w) was.whole
          ∙ ap (map (refunded_if code at amount)) was.their_rows)
          (parts_kept count_of (λ w. cond (passes w) (set w) w)
          (λ w. part_if_same count_of (passes w) (set w) w refl) was.whole ∙ was.their_counts) k.0 k.1,
      kept_others old.now (vouchers place.tree) new.now (own_named our.Vouchers) k.0,
    )

pub set_redeemed : (code : List ℕ) (redeemed : ℕ)
    → LeadsTo texts.set_redeemed_text (Text code ∷ number redeemed ∷ []) (with_redeemed code redeemed)
set_redeemed code redeemed old new count ran t h =
    let place = (h.places our.Vouchers) in
    let here = (h.tables_exist.tables our.Vouchers (always _, tt)) in
    let was = h.store our.Vouchers (always _, tt) in
    let passes = λ (w : WholeVoucher). bytes_eq code w.row.code in
    let set : WholeVoucher → WholeVoucher = λ w. record w { redeemed = redeemed } in
    let k = sets texts.set_redeemed_text (Text code ∷ number redeemed ∷ []) old new count ran
    (vouchers place.tree) here.exists less_rowid whole_voucher_cells (λ n w. Int n ∷ whole_voucher_cells w)
    (opens_keyed whole_voucher_cells) (λ n w. refl) texts.by_code texts.set_redeemed_terms here.unacted
    (texts.set_redeemed_means old.now.schema place.at place.tree here.exists)
    was.whole was.stored passes set (λ r. refl)
    (λ n w. code_tests code w.row.code n (number redeemed ∷ []) (drop 1 (whole_voucher_cells w)))
    (λ n w. refl) (λ n w. simp (cast_int, cast_or_null)) in (
      vouchers_now h _ _ (map (λ w. cond (passes w) (set w) w) was.whole)
          (parts_kept (λ (w : WholeVoucher). w.row) (λ w. cond (passes w) (set w) w)
          (λ w. part_if_same (λ (x : WholeVoucher). x.row) (passes w) (set w) w refl) was.whole
          ∙ was.their_rows)
          (parts_changed count_of (λ w. cond (passes w) (set w) w) (counted_if code redeemed)
          (λ w. part_of_cond count_of (passes w) (set w) w) was.whole ∙ ap (map (counted_if code redeemed))
          was.their_counts) k.0 k.1,
      kept_others old.now (vouchers place.tree) new.now (own_named our.Vouchers) k.0,
    )

pub set_moment : (at : ℕ) → LeadsTo texts.set_moment_text (number at ∷ []) (with_moment at)
set_moment at old new count ran t h =
    let place = (h.places our.Head) in
    let here = (h.tables_exist.tables our.Head (always _, tt)) in
    let k = sets texts.set_moment_text (number at ∷ []) old new count ran
    (head place.tree) here.exists whole_row head_stored (λ n x. head_stored x)
    (opens_numbered head_stored) (λ n x. refl) texts.by_one texts.set_moment_terms here.unacted
    (texts.set_moment_means old.now.schema place.at place.tree here.exists)
    t.heads (h.store our.Head (always _, tt)) (λ (x : HeadRow). nat_eq 1 x.id) (λ x. record x { last = at })
    (λ r. refl) (λ n x. one_tests x.id (number at ∷ []) (drop 1 (head_stored x))) (λ n x. refl)
    (λ n x. simp (cast_null, cast_int)) in
    (heads_now h _ k.0 k.1, kept_others old.now (head place.tree) new.now (own_named our.Head) k.0)

pub set_numbers : (at : ℕ) (grants : ℕ) (sessions : ℕ) → LeadsTo texts.set_numbers_text
    (number at ∷ number grants ∷ number sessions ∷ []) (with_numbers at grants sessions)
set_numbers at grants sessions old new count ran t h =
    let place = (h.places our.Head) in
    let here = (h.tables_exist.tables our.Head (always _, tt)) in
    let k = sets texts.set_numbers_text (number at ∷ number grants ∷ number sessions ∷ []) old
    new count ran (head place.tree) here.exists whole_row head_stored (λ n x. head_stored x)
    (opens_numbered head_stored) (λ n x. refl) texts.by_one texts.set_numbers_terms here.unacted
    (texts.set_numbers_means old.now.schema place.at place.tree here.exists)
    t.heads (h.store our.Head (always _, tt)) (λ (x : HeadRow). nat_eq 1 x.id)
    (λ x. record x { last = at; grants = grants; sessions = sessions }) (λ r. refl)
    (λ n x. one_tests x.id (number at ∷ number grants ∷ number sessions ∷ []) (drop 1 (head_stored x)))
    (λ n x. refl) (λ n x. simp (cast_null, cast_int)) in
    (heads_now h _ k.0 k.1, kept_others old.now (head place.tree) new.now (own_named our.Head) k.0)

pub set_schema_version : (schema_version : ℕ)
    → LeadsTo texts.set_layout_text (number schema_version ∷ []) (with_schema_version schema_version)
set_schema_version schema_version old new count ran t h =
    let place = (h.places our.Head) in
    let here = (h.tables_exist.tables our.Head (always _, tt)) in
    let k = sets texts.set_layout_text (number schema_version ∷ []) old new count
    ran (head place.tree) here.exists whole_row head_stored (λ n x. head_stored x)
    (opens_numbered head_stored) (λ n x. refl) texts.by_one texts.set_layout_terms here.unacted
    (texts.set_layout_means old.now.schema place.at place.tree here.exists)
    t.heads (h.store our.Head (always _, tt)) (λ (x : HeadRow). nat_eq 1 x.id)
    (λ x. record x { schema_version = schema_version }) (λ r. refl)
    (λ n x. one_tests x.id (number schema_version ∷ []) (drop 1 (head_stored x))) (λ n x. refl)
    (λ n x. simp (cast_null, cast_int)) in
    (heads_now h _ k.0 k.1, kept_others old.now (head place.tree) new.now (own_named our.Head) k.0)

pub set_used : (id : ℕ) (used : ℕ)
    → LeadsTo texts.set_used_text (number id ∷ number used ∷ []) (with_use id used)
set_used id used old new count ran t h =
    let place = (h.places our.Sessions) in
    let here = (h.tables_exist.tables our.Sessions (always _, tt)) in
    let was = h.store our.Sessions (always _, tt) in
    let passes = λ (w : WholeSession). nat_eq id w.row.number in
    let set : WholeSession → WholeSession = λ w. record w { row = record (w.row) { used = used } } in
    let k = sets texts.set_used_text (number id ∷ number used ∷ []) old new count ran
    (sessions place.tree) here.exists whole_row whole_session_stored (λ n w. whole_session_stored w)
    (opens_numbered whole_session_stored) (λ n w. refl) texts.by_number texts.set_used_terms here.unacted
    (texts.set_used_means old.now.schema place.at place.tree here.exists)
    was.whole was.stored passes set (λ r. refl)
    (λ n w. number_tests id w.row.number (number used ∷ []) (drop 1 (whole_session_stored w)))
    (λ n w. refl) (λ n w. simp (cast_null, cast_int, cast_or_null, cast_signed_or_null)) in (
      sessions_now h _ _ (map (λ w. cond (passes w) (set w) w) was.whole)
          (parts_changed (λ (w : WholeSession). w.row) (λ w. cond (passes w) (set w) w) (used_if id used)
          (λ w. part_of_cond (λ (x : WholeSession). x.row) (passes w) (set w) w) was.whole
          ∙ ap (map (used_if id used)) was.their_rows)
          (parts_kept total_of (λ w. cond (passes w) (set w) w)
          (λ w. part_if_same total_of (passes w) (set w) w refl) was.whole ∙ was.their_totals) k.0 k.1,
      kept_others old.now (sessions place.tree) new.now (own_named our.Sessions) k.0,
    )

pub set_closed : (id : ℕ) (at : ℕ)
    → LeadsTo texts.set_closed_text (number id ∷ number at ∷ []) (with_close id at)
set_closed id at old new count ran t h =
    let place = (h.places our.Sessions) in
    let here = (h.tables_exist.tables our.Sessions (always _, tt)) in
    let was = h.store our.Sessions (always _, tt) in
    let passes = λ (w : WholeSession). nat_eq id w.row.number in
    let set : WholeSession → WholeSession = λ w. record w { row = record (w.row) { closed = Some at } } in
    let k = sets texts.set_closed_text (number id ∷ number at ∷ []) old new count ran
    (sessions place.tree) here.exists whole_row whole_session_stored (λ n w. whole_session_stored w)
    (opens_numbered whole_session_stored) (λ n w. refl) texts.by_number texts.set_closed_terms here.unacted
    (texts.set_closed_means old.now.schema place.at place.tree here.exists)
    was.whole was.stored passes set (λ r. refl)
    (λ n w. number_tests id w.row.number (number at ∷ []) (drop 1 (whole_session_stored w)))
    (λ n w. refl) (λ n w. simp (cast_null, cast_int, cast_or_null, cast_signed_or_null)) in (
      sessions_now h _ _ (map (λ w. cond (passes w) (set w) w) was.whole)
          (parts_changed (λ (w : WholeSession). w.row) (λ w. cond (passes w) (set w) w) (closed_if id at)
          (λ w. part_of_cond (λ (x : WholeSession). x.row) (passes w) (set w) w) was.whole
          ∙ ap (map (closed_if id at)) was.their_rows)
          (parts_kept total_of (λ w. cond (passes w) (set w) w)
          (λ w. part_if_same total_of (passes w) (set w) w refl) was.whole ∙ was.their_totals) k.0 k.1,
      kept_others old.now (sessions place.tree) new.now (own_named our.Sessions) k.0,
    )

pub set_total : (total : TotalRow)
    → LeadsTo texts.set_total_text (number total.number ∷ or_null total.ends ∷ signed_or_null total.remaining
    ∷ []) (with_ends total)
set_total total old new count ran t h =
    let place = (h.places our.Sessions) in
    let here = (h.tables_exist.tables our.Sessions (always _, tt)) in
    let was = h.store our.Sessions (always _, tt) in
    let passes = λ (w : WholeSession). nat_eq total.number w.row.number in
    let set : WholeSession → WholeSession = λ w. record w {
      ends = total.ends;
      remaining = total.remaining;
    } in
    let k = sets texts.set_total_text (number total.number ∷ or_null total.ends ∷ signed_or_null
    total.remaining ∷ []) old new count ran
    (sessions place.tree) here.exists whole_row whole_session_stored (λ n w. whole_session_stored w)
    (opens_numbered whole_session_stored) (λ n w. refl) texts.by_number texts.set_total_terms here.unacted
    (texts.set_total_means old.now.schema place.at place.tree here.exists)
    was.whole was.stored passes set (λ r. refl)
    (λ n w. number_tests total.number w.row.number (or_null total.ends ∷ signed_or_null total.remaining ∷ [])
    (drop 1 (whole_session_stored w)))
    (λ n w. refl) (λ n w. simp (cast_null, cast_int, cast_or_null, cast_signed_or_null)) in (
      sessions_now h _ _ (map (λ w. cond (passes w) (set w) w) was.whole)
          (parts_kept (λ (w : WholeSession). w.row) (λ w. cond (passes w) (set w) w)
          (λ w. part_if_same (λ (x : WholeSession). x.row) (passes w) (set w) w refl) was.whole
          ∙ was.their_rows)
          (parts_changed total_of (λ w. cond (passes w) (set w) w) (with_ends_if total)
          (λ w. part_of_cond total_of (passes w) (set w) w) was.whole ∙ ap (map (with_ends_if total))
          was.their_totals) k.0 k.1,
      kept_others old.now (sessions place.tree) new.now (own_named our.Sessions) k.0,
    )
