-- How a migration goes from the rows that were read to the tables after it.
use Rattle.portal_tables_rows.proofs.Common.{◌≡◌, IsTrue, map, List, [], ap, sym, subst, ◌∙◌, arith}
use Rattle.portal_tables_rows.proofs.Common.{Database, State, HasCleanDisk, Survives, survives_then}
use Rattle.portal_tables_rows.proofs.Common.{survives_weaker, IsUndone, same_now, still_open, count_from}
use Rattle.portal_tables_rows.proofs.Common.{total_from, Total, Contents, Anything, Holds, HoldsIn}
use Rattle.portal_tables_rows.proofs.Common.{CrashStateHoldsRows, KeepsOthers, CrashStateHasOthers}
use Rattle.portal_tables_rows.proofs.Common.{CountValue}
use Rattle.portal_tables_rows.proofs.Common.{OldVoucher, OldSession, VoucherValue, SessionValue}
use Rattle.portal_tables_rows.proofs.Common.{old_voucher_read, old_session_read, OldSchema, CommitsFrom}
use Rattle.portal_tables_rows.proofs.Common.{MayCommitFrom, HasMigrated, MayMigrate, AreCountedOf}
use Rattle.portal_tables_rows.proofs.Common.{AreTotaledOf}
use Rattle.portal_tables_rows.proofs.Common.{after_migration, migrated_rows, counts_read, totals_read}
use Rattle.portal_tables_rows.proofs.Common.{counts_summed}
use Rattle.portal_tables_rows.proofs.Common.{totals_summed, version_number, AreNamesFree, IsReadFree, Trees}
use Rattle.portal_tables_rows.proofs.Common.{copied_tables}
use Rattle.portal_tables_sql.specs.Looks.{ReadsOnly, Fails}
use Rattle.portal_model.specs.declared.plan.Plan.{Plan}
use Rattle.portal_tables_rows.specs.Sums.{rows_for_sums, grant_read}
use Rattle.portal_tables_rows.specs.Copying.{AreRead}
use Rattle.portal_tables_rows.specs.declared.copies.WholeTable.{WholeTable}
use Rattle.portal_tables_rows.specs.declared.grants.GrantValue.{GrantValue}
use Rattle.portal_tables_rows.proofs.MigrateLemmas.{brought}
use Rattle.portal_tables_rows.proofs.RestoreLemmas.{held_rise}
use Rattle.portal_tables_rows.proofs.WholeReading.{earlier_held}
use Rattle.portal_tables_rows.proofs.Common.{lit≤, map-map, Apart, HoldsApart, HoldsFirst, true, false}
use Rattle.portal_tables_rows.proofs.Common.{Result, Ok, Err, IfOk, Vec, Global}
use Rattle.portal_tables_rows.proofs.Common.{RowError, VoucherRow, SessionRow, CountRow, TotalRow, GrantRow}
use Rattle.portal_tables_rows.proofs.Common.{voucher_read, voucher_count, session_read, session_total}
use Rattle.portal_tables_rows.proofs.Common.{AreInOrder}
use Rattle.portal_tables_rows.proofs.Common.{count_read, ends_row}
use Rattle.portal_model.specs.Rows.{Rows}

-- ---- sums over what was read

pub counts_are : (t : Contents) (gs : List GrantValue) (vs : List OldVoucher) (ks : List CountValue)
    → counts_read ks ≡ map (count_from (map grant_read gs)) (map old_voucher_read vs)
    → map old_voucher_read vs ≡ t.vouchers → map grant_read gs ≡ t.grants → counts_read ks ≡ counts_summed t
counts_are t gs vs ks is vouchers grants =
    is ∙ ap (map (count_from (map grant_read gs))) vouchers ∙ ap (λ l. map (count_from l) t.vouchers) grants

pub totals_are : (t : Contents) (gs : List GrantValue) (ps : List Plan) (ss : List OldSession)
    (ms : List Total)
    → totals_read ms ≡ map (total_from (rows_for_sums ps (map grant_read gs))) (map old_session_read ss)
    → ps ≡ t.plans → map old_session_read ss ≡ t.sessions → map grant_read gs ≡ t.grants
    → totals_read ms ≡ totals_summed t
totals_are t gs ps ss ms is plans sessions grants =
    is ∙ ap (λ l. map (total_from (rows_for_sums l (map grant_read gs))) (map old_session_read ss)) plans
    ∙ ap (map (total_from (rows_for_sums t.plans (map grant_read gs)))) sessions
    ∙ ap (λ l. map (total_from (rows_for_sums t.plans l)) t.sessions) grants

-- ---- the tables of other versions

pub apart_itself : (db : Database) (t : Contents) → HoldsApart 2 db t → HoldsApart 2 db t
apart_itself db t held = held

pub first_apart : (db : Database) (t : Contents) → HoldsApart 2 db t → HoldsApart 1 db t
first_apart db t held = (held.0, earlier_held (Apart held.0) 2 1 [] db t (lit≤ tt) held.1)

pub first_of_apart : (db : Database) (t : Contents) → HoldsApart 1 db t → HoldsFirst db t
first_of_apart db t held = (Apart held.0, held.1)

pub apart_first : (db : Database) (t : Contents) → HoldsIn 1 [] db t → HoldsApart 1 db t
apart_first db t held = (true, held)

pub apart_second : (db : Database) (t : Contents) → HoldsIn 2 [] db t → HoldsApart 2 db t
apart_second db t held = (true, held)

pub apart_third : (db : Database) (t : Contents) → HoldsIn 3 [] db t → HoldsApart 2 db t
apart_third db t held = (true, earlier_held (Apart true) 3 2 [] db t (lit≤ tt) held)

pub apart_fourth : (db : Database) (t : Contents) → HoldsIn 4 [] db t → HoldsApart 2 db t
apart_fourth db t held = (true, earlier_held (Apart true) 4 2 [] db t (lit≤ tt) held)

pub apart_fifth : (db : Database) (t : Contents) → HoldsIn 5 [] db t → HoldsApart 2 db t
apart_fifth db t held = (false, earlier_held (Apart false) 5 2 [] db t (lit≤ tt) held)

-- ---- the vouchers and the sessions with counters that were read of other tables

pub joined_counts : (result : Result (Vec VoucherValue Global) RowError) (vs vs1 : List OldVoucher)
    (ks ks1 : List CountValue) (rows : List VoucherRow) (counts : List CountRow) → vs ≡ vs1 → ks ≡ ks1
    → map old_voucher_read vs1 ≡ rows → map count_read ks1 ≡ counts
    → IfOk result (λ joined. map voucher_read joined.items ≡ map old_voucher_read vs)
    → IfOk result (λ joined. map voucher_count joined.items ≡ map count_read ks)
    → IfOk result (λ joined. (map voucher_read joined.items ≡ rows) × (map voucher_count joined.items ≡
    counts))
joined_counts (Ok joined) vs vs1 ks ks1 rows counts same also read found one two =
    (one ∙ ap (map old_voucher_read) same ∙ read, two ∙ ap (map count_read) also ∙ found)
joined_counts (Err e) vs vs1 ks ks1 rows counts same also read found one two = tt

pub joined_totals : (result : Result (Vec SessionValue Global) RowError) (ss ss1 : List OldSession)
    (ms ms1 : List Total) (rows : List SessionRow) (totals : List TotalRow) → ss ≡ ss1 → ms ≡ ms1
    → map old_session_read ss1 ≡ rows → map ends_row ms1 ≡ totals
    → IfOk result (λ joined. map session_read joined.items ≡ map old_session_read ss)
    → IfOk result (λ joined. map session_total joined.items ≡ map ends_row ms)
    → IfOk result (λ joined. (map session_read joined.items ≡ rows) × (map session_total joined.items ≡
    totals))
joined_totals (Ok joined) ss ss1 ms ms1 rows totals same also read found one two =
    (one ∙ ap (map old_session_read) same ∙ read, two ∙ ap (map ends_row) also ∙ found)
joined_totals (Err e) ss ss1 ms ms1 rows totals same also read found one two = tt

-- they are in the order of what they count
pub in_order_counts : (t : Contents) → AreInOrder t → (vs vs1 : List OldVoucher) (ks ks1 : List CountValue)
    → vs ≡ vs1 → ks ≡ ks1 → map old_voucher_read vs1 ≡ t.vouchers → map count_read ks1 ≡ t.counts
    → map (λ (k : CountValue). (count_read k).code) ks ≡ map (λ (v : OldVoucher). (old_voucher_read v).code)
    vs
in_order_counts t order vs vs1 ks ks1 same also read found =
    let code_of = λ (v : VoucherRow). v.code in
    let counted = λ (k : CountRow). k.code in
    sym (map-map counted count_read ks) ∙ ap (λ l. map counted (map count_read l)) also ∙ ap (map counted)
    found
    ∙ order.counts ∙ sym (ap (λ l. map code_of (map old_voucher_read l)) same ∙ ap (map code_of) read)
    ∙ map-map code_of old_voucher_read vs

pub in_order_totals : (t : Contents) → AreInOrder t → (ss ss1 : List OldSession) (ms ms1 : List Total)
    → ss ≡ ss1 → ms ≡ ms1 → map old_session_read ss1 ≡ t.sessions → map ends_row ms1 ≡ t.totals
    → map (λ (m : Total). m.number) ms ≡ map (λ (s : OldSession). s.number) ss
in_order_totals t order ss ss1 ms ms1 same also read found =
    let number_of = λ (s : SessionRow). s.number in
    let totaled = λ (m : TotalRow). m.number in
    sym (map-map totaled ends_row ms) ∙ ap (λ l. map totaled (map ends_row l)) also ∙ ap (map totaled) found
    ∙ order.totals ∙ sym (ap (λ l. map number_of (map old_session_read l)) same ∙ ap (map number_of) read)
    ∙ map-map number_of old_session_read ss

-- the computed counters are in their order
pub computed_counts : (vs vs1 : List OldVoucher) (ks ks1 : List CountValue) (grants : List GrantRow)
    → vs1 ≡ vs → ks ≡ ks1 → counts_read ks1 ≡ map (count_from grants) (map old_voucher_read vs1)
    → map (λ (k : CountValue). (count_read k).code) ks ≡ map (λ (v : OldVoucher). (old_voucher_read v).code)
    vs
computed_counts vs vs1 ks ks1 grants same also is =
    sym (map-map (λ (k : CountRow). k.code) count_read ks)
    ∙ ap (λ l. map (λ (k : CountRow). k.code) (counts_read l)) also ∙ ap (map (λ (k : CountRow). k.code)) is
    ∙ map-map (λ (k : CountRow). k.code) (count_from grants) (map old_voucher_read vs1)
    ∙ map-map (λ (v : VoucherRow). v.code) old_voucher_read vs1
    ∙ ap (map (λ (v : OldVoucher). (old_voucher_read v).code)) same

pub computed_totals : (ss ss1 : List OldSession) (ms ms1 : List Total) (rows : Rows)
    → ss1 ≡ ss → ms ≡ ms1 → totals_read ms1 ≡ map (total_from rows) (map old_session_read ss1)
    → map (λ (m : Total). m.number) ms ≡ map (λ (s : OldSession). s.number) ss
computed_totals ss ss1 ms ms1 rows same also is =
    sym (map-map (λ (m : TotalRow). m.number) ends_row ms)
    ∙ ap (λ l. map (λ (m : TotalRow). m.number) (totals_read l)) also ∙ ap (map (λ (m : TotalRow). m.number))
    is
    ∙ map-map (λ (m : TotalRow). m.number) (total_from rows) (map old_session_read ss1)
    ∙ map-map (λ (s : SessionRow). s.number) old_session_read ss1
    ∙ ap (map (λ (s : OldSession). s.number)) same

-- ---- from the rows that were read

module _ (from : OldSchema) (a c e : State) (reads : ReadsOnly Anything a c) (vs vs1 : List VoucherValue)
    (ss ss1 : List SessionValue) (same : vs1 ≡ vs) (also : ss1 ≡ ss)
    (known : HasCleanDisk c → IsTrue a.is_open → (t : Contents) → HoldsIn (version_number from) [] a.now t
    → AreCountedOf from t vs × AreTotaledOf from t ss) where
  read_same : HasCleanDisk c → IsTrue a.is_open → c.now ≡ a.now
  read_same clean live = same_now Anything a c reads clean live tt

  held_still : HasCleanDisk c → IsTrue a.is_open → (t : Contents) → HoldsIn (version_number from) [] a.now t
      → HoldsIn (version_number from) [] c.now t
  held_still clean live t was =
      subst (λ (db : Database). HoldsIn (version_number from) [] db t) (sym (read_same clean live)) was

  comes_to : HasCleanDisk c → IsTrue a.is_open → (t : Contents) → HoldsIn (version_number from) [] a.now t
      → after_migration from vs1 ss1 t ≡ migrated_rows from t
  comes_to clean live t was =
      let k = known clean live t was in
      ap (λ l. after_migration from l ss1 t) same ∙ ap (λ l. after_migration from vs l t) also
      ∙ brought from vs ss t k.0 k.1 (held_rise from a.now t was)

  pub upgrade_done : HasCleanDisk c → IsTrue a.is_open
      → CommitsFrom from (λ _ _. Unit {0}) (after_migration from vs1 ss1) c e → HasMigrated from a e
  upgrade_done clean live gained = record {
    holds = λ t was. subst (Holds e.now) (comes_to clean live t was)
        (gained.holds t (held_still clean live t was) tt);
    others = λ t was. subst (λ (db : Database). KeepsOthers db e.now) (read_same clean live)
        (gained.others t (held_still clean live t was) tt);
    committed = gained.committed;
    ended = gained.ended;
    is_open = gained.is_open;
  }

  pub upgrade_crash : Survives c e (λ trees. IsTrue c.is_open
      → MayCommitFrom from (λ _ _. Unit {0}) (after_migration from vs1 ss1) c trees)
      → Survives a e (MayMigrate from a)
  upgrade_crash ending =
      survives_then a c e _ _ (MayMigrate from a) (λ _ db none live t first. absurd (none live tt))
      (λ clean db may live t was.
      let late : HasCleanDisk c = omega (arith, clean, ending.clean) in
      let left = may (still_open Anything a c reads late live tt) t (held_still late live t was) tt in (
        subst (CrashStateHoldsRows db) (comes_to late live t was) left.0,
        subst (λ (was : Database). CrashStateHasOthers was db) (read_same late live) left.1,
      ))
      reads.crash ending

-- where a reading fails, nothing is changed
pub fails_crash : (from : OldSchema) (a b : State) → Fails Anything a b → Survives a b (MayMigrate from a)
fails_crash from a b failed =
    survives_weaker a b _ _ (λ _ db none live t first. absurd (none live tt)) failed.crash

pub undone_after : (a d e : State) → ReadsOnly Anything a d → HasCleanDisk d → IsTrue a.is_open
    → IsUndone d e → IsUndone a e
undone_after a d e read clean live undone =
    let same = read.same clean live tt in
    record {
      now = λ on. undone.now on ∙ same.0.committed_is;
      committed = λ on. undone.committed on ∙ same.0.committed_is;
      ended = undone.ended;
    }

-- ---- the rows are read, and then committed

module _ (from : OldSchema) (read : List WholeTable) (f : Contents → Contents) (a b e : State)
    (reads : ReadsOnly Anything a b) (free : AreNamesFree a.now.schema)
    (are : HasCleanDisk b → IsTrue a.is_open → (t : Contents) → HoldsIn (version_number from) [] a.now t
    → AreRead read (copied_tables from) t) where
  still : HasCleanDisk b → IsTrue a.is_open → b.now ≡ a.now
  still clean live = same_now Anything a b reads clean live tt

  ready : HasCleanDisk b → IsTrue a.is_open → (t : Contents) → HoldsIn (version_number from) [] a.now t
      → HoldsIn (version_number from) [] b.now t × IsReadFree from read b t
  ready clean live t h =
      let same = sym (still clean live) in (
        subst (λ (db : Database). HoldsIn (version_number from) [] db t) same h,
        (subst (λ (db : Database). AreNamesFree db.schema) same free, are clean live t h),
      )

  pub read_done : HasCleanDisk b → IsTrue a.is_open → CommitsFrom from (IsReadFree from read) f b e
      → CommitsFrom from (λ _ _. Unit {0}) f a e
  read_done clean live done = record {
    holds = λ t h any. let it = ready clean live t h in done.holds t it.0 it.1;
    others = λ t h any.
        let it = ready clean live t h in
        subst (λ (db : Database). KeepsOthers db e.now) (still clean live) (done.others t it.0 it.1);
    committed = done.committed;
    ended = done.ended;
    is_open = done.is_open;
  }

  pub read_crash : Survives b e (MayCommitFrom from (IsReadFree from read) f b)
      → Survives a e (λ trees. IsTrue a.is_open → MayCommitFrom from (λ _ _. Unit {0}) f a trees)
  read_crash ending =
      survives_then a b e _ _ (λ trees. IsTrue a.is_open → MayCommitFrom from (λ _ _. Unit {0}) f a trees)
      (λ _ db none live. absurd (none live tt))
      (λ clean db may live t h any.
      let late : HasCleanDisk b = omega (arith, clean, ending.clean) in
      let it = ready late live t h in
      let left = may t it.0 it.1 in
      (left.0, subst (λ (was : Database). CrashStateHasOthers was db) (still late live) left.1))
      reads.crash ending

-- where the reading failed
pub read_fails : (a b : State) (May : Trees → Type 0) → Fails Anything a b
    → Survives a b (λ trees. IsTrue a.is_open → May trees)
read_fails a b May failed = survives_weaker a b _ _ (λ _ db none live. absurd (none live tt)) failed.crash
