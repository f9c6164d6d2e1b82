-- A database that a read does not change holds the same history.
use Rattle.portal_tables.proofs.Common.{IsTrue, List, map, subst, sym, arith, Result, Ok, Err, IsErrAnd}
use Rattle.portal_tables.proofs.Common.{err_from_is_err_and, IfOk-weaker, Held, state, Database, State}
use Rattle.portal_tables.proofs.Common.{HasCleanDisk, History, Ledger, history_of, requests_of, rows_of}
use Rattle.portal_tables.proofs.Common.{IsLegal, RequestRow, row_of_request, the_sound_is_legal, Fails}
use Rattle.portal_tables.proofs.Common.{ReadsOnly, fails_then, looks_weaker, reads_fails, reads_then}
use Rattle.portal_tables.proofs.Common.{same_now, still_open, Contents, RowError, HasFirst, HasTables}
use Rattle.portal_tables.proofs.Common.{this_schema_version, first_held, first_there, ReadsHistory}
use Rattle.portal_tables.proofs.Common.{HoldsHistory, HoldsLedger, contents_of}
use Rattle.sqlite.specs.Store.{Ghosts}
use Rattle.portal_tables_rows.specs.Selects.{ReadsRow}
use Rattle.portal_tables_rows.specs.Selects.{ReadsFirst}

pub has_tables : (h : History) (db : Database) → HoldsHistory h db → HasTables db.schema
has_tables h db shown = (shown.1.1.places, shown.1.1.tables_exist)

pub has_all_tables : (L : Ledger) (db : Database) → HoldsLedger L db → HasTables db.schema
has_all_tables L db shown = (shown.1.places, shown.1.tables_exist)

-- tables that hold a ledger hold its history
pub history_shown : (L : Ledger) (db : Database) → HoldsLedger L db → HoldsHistory (history_of L) db
history_shown L db shown = (the_sound_is_legal L shown.0, (map row_of_request (requests_of L), shown.1))

module _ (h : History) (a b : State) (read : ReadsOnly HasTables a b) (clean : HasCleanDisk b)
    (live : IsTrue a.is_open) (shown : HoldsHistory h a.now) where
  pub shown_after : HoldsHistory h b.now
  shown_after =
      subst (HoldsHistory h) (sym (same_now HasTables a b read clean live (has_tables h a.now shown))) shown

  pub open_after : IsTrue b.is_open
  open_after = still_open HasTables a b read clean live (has_tables h a.now shown)

-- ---- calls that read a history, one after another

module _ {S : Type 0} (g : Ghosts S) where
  -- what was read gives a value for which something else holds
  pub shown_as : {A B : Type 0} {a b : Held S} {x : A} {y : B} {P : History → A → Type 0}
      {Q : History → B → Type 0} → ((h : History) → IsLegal h → P h x → Q h y) → ReadsHistory g a b (Ok x) P
      → ReadsHistory g a b (Ok y) Q
  shown_as leads r =
      record { found = λ clean live h shown. leads h shown.0 (r.found clean live h shown); looks = r.looks }

  -- of a result, whatever it is, something else holds
  pub shown_weaker : {A : Type 0} {a b : Held S} {result : Result A RowError} {P Q : History → A → Type 0}
      → ((h : History) → IsLegal h → (x : A) → P h x → Q h x) → ReadsHistory g a b result P
      → ReadsHistory g a b result Q
  shown_weaker {result = result} leads r = record {
    found = λ clean live h shown.
        IfOk-weaker result _ _ (λ x is. leads h shown.0 x is) (r.found clean live h shown);
    looks = r.looks;
  }

  -- the rows of a table, which hold the history whatever requests are stored
  pub of_rows : {A : Type 0} {a b : Held S} {result : Result A RowError} {Is : Contents → A → Type 0}
      {Own : Contents → Type 0} → ReadsRow g a b result Is Own
      → ReadsHistory g a b result
      (λ h x. (requests : List RequestRow) × Is (contents_of requests this_schema_version (rows_of h)) x)
  of_rows {result = result} r = record {
    found =
        λ clean live h shown. IfOk-weaker result _ _ (λ x is. (shown.1.0, is)) (r.found clean _ shown.1.1);
    looks = r.looks;
  }

  -- and rows of one of the six first tables
  pub of_first : {A : Type 0} {a b : Held S} {result : Result A RowError} {Is : Contents → A → Type 0}
      {Own : Contents → Type 0} → ReadsFirst g a b result Is Own
      → ReadsHistory g a b result
      (λ h x. (requests : List RequestRow) × Is (contents_of requests this_schema_version (rows_of h)) x)
  of_first {result = result} r = record {
    found = λ clean live h shown. IfOk-weaker result _ _ (λ x is. (
      shown.1.0,
      is,
    )) (r.found clean _ (first_held _ _ shown.1.1));
    looks = looks_weaker HasFirst HasTables first_there result _ _ r.looks;
  }

  -- one reading that succeeded, and then another
  pub shown_then : {A B : Type 0} {a b c : Held S} {x : A} {result : Result B RowError}
      {P : History → A → Type 0} {Q : History → B → Type 0} → ReadsHistory g a b (Ok x) P
      → ReadsHistory g b c result Q
      → ReadsHistory g a c result (λ h y. P h x × Q h y)
  shown_then {a = a} {b = b} {c = c} {result = Ok y} one two = record {
    found = λ clean live h shown.
        let early : HasCleanDisk (state g b) = omega (arith, two.looks.crash.clean) in
        let first = one.found early live h shown in (
          first,
          two.found clean (open_after h (state g a) (state g b) one.looks early live shown) h
              (shown_after h (state g a) (state g b) one.looks early live shown),
        );
    looks = reads_then HasTables _ _ _ one.looks two.looks;
  }
  shown_then {result = Err e} one two =
      record { found = λ clean live h shown. tt; looks = fails_then HasTables _ _ _ one.looks two.looks }

  -- what was made of what was read failed
  pub shown_fails : {B : Type 0} {a b : Held S} {Is : History → B → Type 0} (e : RowError)
      → ReadsOnly HasTables (state g a) (state g b) → ReadsHistory g a b (Err e) Is
  shown_fails e first = record { found = λ clean live h shown. tt; looks = reads_fails HasTables _ _ first }

  -- a `?` on that
  pub made_fails : {B : Type 0} {a b : Held S} {Is : History → B → Type 0} (Q : RowError → Type 0)
      (result : Result B RowError) → IsErrAnd result Q → ReadsOnly HasTables (state g a) (state g b)
      → ReadsHistory g a b result Is
  made_fails {a = a} {b = b} {Is = Is} Q result err first =
      let told = err_from_is_err_and result err in
      subst (λ (it : Result _ RowError). ReadsHistory g a b it Is) (sym told.1) (shown_fails told.0 first)

  -- a `?` on a reading that failed, and on one that failed after another
  pub read_fails : {B : Type 0} {a b : Held S} {Is : History → B → Type 0} (Q : RowError → Type 0)
      (result : Result B RowError) → IsErrAnd result Q → Fails HasTables (state g a) (state g b)
      → ReadsHistory g a b result Is
  read_fails {a = a} {b = b} {Is = Is} Q result err failed =
      let told = err_from_is_err_and result err in
      subst (λ (it : Result _ RowError). ReadsHistory g a b it Is) (sym told.1)
      (record { found = λ clean live h shown. tt; looks = failed })

  pub next_fails : {B : Type 0} {a c : Held S} {mid : State} {Is : History → B → Type 0}
      (Q : RowError → Type 0) (result : Result B RowError) → IsErrAnd result Q
      → ReadsOnly HasTables (state g a) mid → Fails HasTables mid (state g c)
      → ReadsHistory g a c result Is
  next_fails Q result err first failed = read_fails Q result err (fails_then HasTables _ _ _ first failed)
