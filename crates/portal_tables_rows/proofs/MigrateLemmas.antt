-- How the steps of a migration compose, and what they come to.
use Rattle.portal_tables_rows.proofs.Common.{◌≡◌, IsTrue, List, [], ◌∷◌, ◌++◌, map, fold, sym, ap, ap₂}
use Rattle.portal_tables_rows.proofs.Common.{subst}
use Rattle.portal_tables_rows.proofs.Common.{◌∙◌, append-nil, append_assoc, map-map, State, put_by}
use Rattle.portal_tables_rows.proofs.Common.{Contents, MakesRows, Rebuilds, OldSchema, SessionRow, TotalRow}
use Rattle.portal_tables_rows.proofs.Common.{SessionValue, VoucherValue, WholeSession, WholeVoucher, count_of}
use Rattle.portal_tables_rows.proofs.Common.{total_of, session_read, session_total, whole_session_read}
use Rattle.portal_tables_rows.proofs.Common.{AreCountedOf, AreTotaledOf, after_migration, migrated_rows}
use Rattle.portal_tables_rows.proofs.Common.{with_whole_voucher, with_whole_vouchers, with_whole_session}
use Rattle.portal_tables_rows.proofs.Common.{with_whole_sessions, with_schema_version, this_schema_version}
use Rattle.portal_tables_rows.specs.Migrations.{requests_after}
use Rattle.portal_tables_rows.specs.declared.copies.WholeTable.{WholeTable}
use Rattle.portal_tables_rows.proofs.Compose.{steps_none, steps_same, steps_then}
use Rattle.portal_tables_rows.proofs.ManyValues.{counts_of_read, rows_of_read}
use Rattle.portal_tables_rows.proofs.OthersLemmas.{others_then}
use Rattle.portal_tables_rows.proofs.Parts.{parts_pushed}
use Rattle.portal_tables_rows.proofs.RestoreLemmas.{RisesFrom, put_all, rises_of_parts, rises_of_wholes}
use Rattle.std.proofs.lemmas.List.Sums.{fold-append}

pub rebuilt_then : (from : OldSchema) (read : List WholeTable) (f g : Contents → Contents) (x y z : State)
    → Rebuilds from read f x y → MakesRows g y z → Rebuilds from read (λ t. g (f t)) x z
rebuilt_then from read f g x y z p q = record {
  holds = λ t h is. q.holds (f t) (p.holds t h is);
  others = λ t h is. others_then x.now y.now z.now (p.others t h is) (q.others (f t) (p.holds t h is));
  committed = q.committed ∙ p.committed;
  mode = q.mode;
}

-- ---- loops

pub vouchers_none : (a : State) → IsTrue a.in_transaction → MakesRows (with_whole_vouchers []) a a
vouchers_none a inside = steps_same (λ t. t) (with_whole_vouchers []) a a
    (λ t. ap₂ (λ vs ks. record t { vouchers = vs; counts = ks }) (sym (append-nil t.vouchers))
    (sym (append-nil t.counts))) (steps_none a inside)

pub vouchers_then : (ws : List WholeVoucher) (w : WholeVoucher) (a b c : State)
    → MakesRows (with_whole_vouchers ws) a b → MakesRows (with_whole_voucher w) b c
    → MakesRows (with_whole_vouchers (ws ++ w ∷ [])) a c
vouchers_then ws w a b c p q =
    let row = λ (x : WholeVoucher). x.row in
    steps_same _ (with_whole_vouchers (ws ++ w ∷ [])) a c
    (λ t. ap₂ (λ vs ks. record t { vouchers = vs; counts = ks })
    (append_assoc t.vouchers (map row ws) (w.row ∷ [])
    ∙ ap (λ l. t.vouchers ++ l) (sym (parts_pushed row w ws)))
    (append_assoc t.counts (map count_of ws) (count_of w ∷ [])
    ∙ ap (λ l. t.counts ++ l) (sym (parts_pushed count_of w ws))))
    (steps_then (with_whole_vouchers ws) (with_whole_voucher w) a b c p q)

pub sessions_none : (a : State) → IsTrue a.in_transaction → MakesRows (with_whole_sessions []) a a
sessions_none a inside = steps_none a inside

abbrev put_session : List SessionRow → SessionRow → List SessionRow
put_session rows s = put_by (λ (x : SessionRow). x.number) s rows

abbrev put_total : List TotalRow → TotalRow → List TotalRow
put_total rows m = put_by (λ (x : TotalRow). x.number) m rows

pub sessions_then : (ws : List WholeSession) (w : WholeSession) (a b c : State)
    → MakesRows (with_whole_sessions ws) a b → MakesRows (with_whole_session w) b c
    → MakesRows (with_whole_sessions (ws ++ w ∷ [])) a c
sessions_then ws w a b c p q =
    let row = λ (x : WholeSession). x.row in
    steps_same _ (with_whole_sessions (ws ++ w ∷ [])) a c
    (λ t. ap₂ (λ ss ms. record t { sessions = ss; totals = ms })
    (sym (fold-append put_session t.sessions (map row ws) (w.row ∷ []))
    ∙ ap (fold put_session t.sessions) (sym (parts_pushed row w ws)))
    (sym (fold-append put_total t.totals (map total_of ws) (total_of w ∷ []))
    ∙ ap (fold put_total t.totals) (sym (parts_pushed total_of w ws))))
    (steps_then (with_whole_sessions ws) (with_whole_session w) a b c p q)

-- ---- what the steps of a migration come to

-- the numbers of the sessions rise, and so those of their totals
numbers_rise : (t : Contents) (ss : List SessionValue) → map session_read ss ≡ t.sessions
    → RisesFrom (λ (x : SessionRow). x.number) 0 t.sessions → RisesFrom (λ (s : SessionValue). s.number) 0 ss
numbers_rise t ss are rise = rises_of_wholes (λ (x : SessionRow). x.number) session_read 0 ss
    (subst (RisesFrom (λ (x : SessionRow). x.number) 0) (sym are) rise)

pub brought : (from : OldSchema) (vs : List VoucherValue) (ss : List SessionValue) (t : Contents)
    → AreCountedOf from t vs → AreTotaledOf from t ss
    → RisesFrom (λ (x : SessionRow). x.number) 0 t.sessions
    → after_migration from vs ss t ≡ migrated_rows from t
brought from vs ss t counted totaled rise =
    let numbers = numbers_rise t ss totaled.0 rise in
    let rows_are = map-map (λ (w : WholeSession). w.row) whole_session_read ss in
    let totals_are = map-map total_of whole_session_read ss in
    let in_rows = put_all (λ (x : SessionRow). x.number) 0 (map session_read ss) []
    (rises_of_parts (λ (x : SessionRow). x.number) session_read 0 ss numbers) tt in
    let in_totals = put_all (λ (x : TotalRow). x.number) 0 (map session_total ss) []
    (rises_of_parts (λ (x : TotalRow). x.number) session_total 0 ss numbers) tt in
    let vouchers = rows_of_read vs ∙ counted.0 in
    let counts = counts_of_read vs ∙ counted.1 in
    let sessions = ap (fold put_session []) rows_are ∙ in_rows ∙ totaled.0 in
    let totals = ap (fold put_total []) totals_are ∙ in_totals ∙ totaled.1 in
    λ i. with_schema_version this_schema_version (record t {
      vouchers = vouchers i;
      counts = counts i;
      sessions = sessions i;
      totals = totals i;
      requests = requests_after from t;
    })
