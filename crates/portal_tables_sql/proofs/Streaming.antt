-- The state of a connection after a query whose rows are read one at a time.
use Rattle.portal_tables_sql.proofs.Common.{◌≡◌, inl, inr, ℕ, List, [], ◌∷◌, ◌++◌, map, Result, Option, Some}
use Rattle.portal_tables_sql.proofs.Common.{None, Ok, Err, OnErr, IsTrue, refl, sym, ap, ap₂, subst, ◌∙◌}
use Rattle.portal_tables_sql.proofs.Common.{arith, Database, Select, Error, State, HasCleanDisk, IsUnchanged}
use Rattle.portal_tables_sql.proofs.Common.{Survives, CommitsShowing, Held, state, reads_listing}
use Rattle.portal_tables_sql.proofs.Common.{survives_then, survives_weaker, unchanged, Compiled, CompileError}
use Rattle.portal_tables_sql.proofs.Common.{Has, columns}
use Rattle.std.proofs.lemmas.List.{map-append}
use Rattle.std.specs.Borrow.{Bor}
use Rattle.sqlite.proofs.Callers.{EndsIn, begins_shown, given_begin, unchanged_then}
use Rattle.sqlite.specs.Command.{Command}
use Rattle.sqlite.specs.Order.{Row}
use Rattle.sqlite.specs.Listing.{IsSourceOf, understood}
use Rattle.sqlite_trees.specs.declared.store.Store.{Ghosts}
use Rattle.sqlite.specs.declared.rows.stream.Rows.{Rows}
use Rattle.sqlite.specs.State.{Begins, FailsToQuery, Shown, ShowsRows}
use Rattle.sqlite.specs.Clock.{timed}
use Rattle.sqlite.specs.Given.{HasGiven, HasBegun, Returns, IsRefused}
use Rattle.sqlite.specs.Next.{HasMoved}
use Rattle.sqlite_rules.proofs.ListLemmas.{has_left, has_right}
use Rattle.portal_tables_sql.specs.Asks.{AnswersCells, Asks, IsDirect, IsSimple}
use Rattle.portal_tables_sql.specs.Causes.{HasCause, IsTaken}
use Rattle.portal_tables_sql.specs.Looks.{Fails, ReadsOnly}
use Rattle.portal_tables_sql.proofs.Causes.{caused_after, taken_asks, taken_fails}
use Rattle.portal_tables_sql.proofs.AskLemmas.{asks_looks, commits_nothing, simple_asks}
use Rattle.portal_tables_sql.proofs.LooksLemmas.{fails_then}

-- ---- a text that asks

returns_nothing : (r : Result Compiled CompileError)
    → ((c : Compiled) → r ≡ Ok c → c.returning ≡ None) → Returns r → ⊥
returns_nothing (Ok c) asks returns = let none = asks c refl in absurd (let some = rw none at returns in cc)
returns_nothing (Err e) asks returns = returns

crash_spared : (sql : List ℕ) (params : Row) (old new : State)
    → Survives old new (CommitsShowing sql params old)
    → Survives old new (λ _. IsTrue old.is_open → ¬ Asks sql old.now.schema)
crash_spared sql params old new h =
    survives_weaker old new _ _ (λ _ db none was. none) (commits_nothing sql params old new h)

-- ---- a result under the same database

module _ (sql : List ℕ) (params : Row) (old mid new : State) (same : IsUnchanged old mid) where
  shown_before : (rows : List Row) → Asks sql old.now.schema → Shown sql params mid new rows
      → Shown sql params old new rows
  unfolding Shown
  shown_before rows asks h =
      let is = subst (λ (d : Database). understood d.schema sql ≡ Ok h.0) same.0.now_is h.1.is in
      let none = asks h.0 is in
      let full = timed params h.0.formats h.1.now in
      let it = subst (ShowsRows mid new sql h.0 full rows) none h.2 in (
        h.0,
        record { is = is; whole = h.1.whole; given = h.1.given; now = h.1.now },
        subst (ShowsRows old new sql h.0 full rows) (sym none) (
          it.0,
          subst (λ (d : Database). IsSourceOf (reads_listing d.schema sql) d it.0) same.0.now_is it.1,
          it.2,
          unchanged_then old mid new same it.3,
        ),
      )

ends_directly : (command : Command) (db : Database) (params : Row) → IsDirect command
    → EndsIn command db params
ends_directly (Select plan names) db params direct = rw direct tt
ends_directly _ db params direct = absurd direct

-- the rows that were given so far begin a whole result
begins_answer : (sql : List ℕ) (params : Row) (s : State) (rows : List Row)
    → IsTrue s.is_open → IsSimple (understood s.now.schema sql) → Begins sql params s rows
    → (tail : List Row) × Shown sql params s s (rows ++ tail)
begins_answer sql params s rows live simple begins =
    begins_shown sql params s s rows begins (unchanged s live)
    (λ c db it source. ends_directly c.command db _ (subst IsSimple it.is simple).1)

-- ---- the values of the rows that were given so far

module _ {S V : Type 0} (g : Ghosts S) (sql : List ℕ) (params : Row) (cells : V → Row)
    (width : ℕ) (old : State) where
  -- nothing changed, and the query has given the rows of these values
  pub record HasGivenRows (now : Held S) (values : List V) : Type 0 where
    pub same : IsUnchanged old (state g now)
    pub rows : List Row
    pub given : HasGiven g sql params now rows
    pub are : map cells values ≡ map (columns width) rows

  -- the same if the text only reads; no crash state is added
  pub record ReadsOn (now : Held S) (values : List V) : Type 0 where
    pub read : HasCleanDisk (state g now) → Asks sql old.now.schema → HasGivenRows now values
    pub crash : Survives old (state g now) (λ _. IsTrue old.is_open → ¬ Asks sql old.now.schema)

  pub reads_so_far : (now : Held S) (values : List V) → ReadsOn now values
      → ReadsOnly (Asks sql) old (state g now)
  reads_so_far now values h = record { same = λ clean was asks. (h.read clean asks).same; crash = h.crash }

  module _ (mid now : Rows S g) (values : List V) (h : ReadsOn mid.conn.now values)
      (result : Result (Option (Bor Row)) Error) (moved : HasMoved g mid result now) where
    abbrev was : State
    was = state g mid.conn.now

    abbrev is : State
    is = state g now.conn.now

    at_mid : HasCleanDisk is → Asks sql old.now.schema → HasGivenRows mid.conn.now values
    at_mid clean asks = h.read (omega (arith, moved.survives.clean)) asks

    crash_on : Survives old is (λ _. IsTrue old.is_open → ¬ Asks sql old.now.schema)
    crash_on =
        survives_then old was is _ _ _ (λ _ db none. none) (λ _ db none. absurd none) h.crash moved.survives

    same_on : (o : Option (Bor Row)) → result ≡ Ok o → HasCleanDisk is
        → Asks sql old.now.schema → IsUnchanged old is
    same_on o ok clean asks = unchanged_then old was is (at_mid clean asks).same (rw ok at (moved.same clean))

    -- there is a row, which is not read as a value yet
    pub reads_row : (o : Option (Bor Row)) → result ≡ Ok o → ReadsOnly (Asks sql) old is
    reads_row o ok = record { same = λ clean _ asks. same_on o ok clean asks; crash = crash_on }

    given_row : (row : Bor Row) → result ≡ Ok (Some row)
        → (clean : HasCleanDisk is) (asks : Asks sql old.now.schema)
        → HasGiven g sql params now.conn.now ((at_mid clean asks).rows ++ row.now ∷ [])
    given_row row ok clean asks = let it = at_mid clean asks in
        (rw ok at (moved.ok clean)) sql params it.rows it.given

    -- there is a row, which was read as a value
    pub reads_value : (row : Bor Row) → result ≡ Ok (Some row) → (value : V)
        → cells value ≡ columns width row.now → (more : List V) → more ≡ values ++ value ∷ []
        → ReadsOn now.conn.now more
    reads_value row ok value one more is_more = record {
      read = λ clean asks.
          let it = at_mid clean asks in
          record {
            same = same_on (Some row) ok clean asks;
            rows = it.rows ++ row.now ∷ [];
            given = given_row row ok clean asks;
            are = ap (map cells) is_more ∙ map-append cells values (value ∷ []) ∙ ap₂ ◌++◌ it.are
                (ap (λ r. r ∷ []) one) ∙ sym (map-append (columns width) it.rows (row.now ∷ []));
          };
      crash = crash_on;
    }

    -- there is no further row: those so far are the result
    pub reads_all : result ≡ Ok None → HasCleanDisk is → Asks sql old.now.schema
        → AnswersCells (Shown sql params old is) cells width values
    reads_all ok clean asks =
        let it = at_mid clean asks in
        let shown : Shown sql params was is it.rows =
        (rw ok at (moved.ok clean)) sql params it.rows it.given in
        record {
          rows = it.rows;
          shown = shown_before sql params old was is it.same it.rows asks shown;
          are = it.are;
        }

    -- if this product writes each row of the result, it writes this row
    pub own_row : (Own : Row → Type 0) (row : Bor Row) → result ≡ Ok (Some row) → HasCleanDisk is
        → IsSimple (understood old.now.schema sql)
        → ((rows : List Row) → Shown sql params old is rows → (r : Row) → Has rows r → Own r) → Own row.now
    own_row Own row ok clean simple own =
        let asks = simple_asks sql old.now.schema simple in
        let it = at_mid clean asks in
        let same = same_on (Some row) ok clean asks in
        let rows = it.rows ++ row.now ∷ [] in
        let begins = given_begin g sql params now.conn.now rows (given_row row ok clean asks) in
        let here : IsSimple (understood is.now.schema sql) =
        subst (λ (d : Database). IsSimple (understood d.schema sql)) (sym same.0.now_is) simple in
        let whole = begins_answer sql params is rows same.0.is_open here begins in
        own _ (shown_before sql params old is is same _ asks whole.1) row.now
        (has_left rows whole.0 row.now (has_right it.rows (row.now ∷ []) row.now (inl refl)))

    -- there is no row, since the query failed
    fails_here : (e : Error) → result ≡ Err e → Fails (Asks sql) was is
    fails_here e err = record {
      undone = λ clean _ asks outside settled. elim (rw err at (moved.kept clean)) [
        | inl failed ↦ record {
          now = λ live. (failed.3.undone live).0;
          committed = λ live. (failed.3.undone live).1;
          ended = moved.mode outside;
        }
        | inr same ↦ record {
          now = λ _. same.0.now_is ∙ settled;
          committed = λ _. same.0.committed_is;
          ended = moved.mode outside;
        }
      ];
      crash = survives_weaker was is _ _ (λ _ db none. absurd none) moved.survives;
    }

    pub fails_on : (e : Error) → result ≡ Err e → Fails (Asks sql) old is
    fails_on e err = fails_then (Asks sql) old was is (reads_so_far mid.conn.now values h) (fails_here e err)

    -- and it failed for a cause, if SQLite takes the text
    pub caused_on : (e : Error) → result ≡ Err e → HasCleanDisk is
        → IsTaken sql params old.now.schema → HasCause old is e
    caused_on e err clean taken =
        let it = at_mid clean (taken_asks sql params old.now.schema taken) in
        let failed : FailsToQuery sql params was is e =
        (rw err at (moved.err clean)) sql params it.rows it.given in
        let here = subst (λ (d : Database). IsTaken sql params d.schema) (sym it.same.0.now_is) taken in
        caused_after old was is e (omega (arith, moved.survives.clean)) h.crash moved.survives
        (taken_fails sql params was is e here failed)

-- ---- the start

module _ {S V : Type 0} (g : Ghosts S) (sql : List ℕ) (params : Row) (cells : V → Row) (width : ℕ)
    (old new : Held S) where
  begun_asking : Asks sql old.schema → HasBegun g sql params old new
      → HasGiven g sql params new [] × IsUnchanged (state g old) (state g new)
  begun_asking asks (inl h) = h
  begun_asking asks (inr h) = absurd (returns_nothing (understood old.schema sql) asks h.0)

  pub begins_reading : (HasCleanDisk (state g new) → HasBegun g sql params old new)
      → Survives (state g old) (state g new) (CommitsShowing sql params (state g old))
      → (values : List V) → values ≡ []
      → ReadsOn g sql params cells width (state g old) new values
  begins_reading begun survives values none = record {
    read = λ clean asks. let it = begun_asking asks (begun clean) in
        record { same = it.1; rows = []; given = it.0; are = ap (map cells) none };
    crash = crash_spared sql params (state g old) (state g new) survives;
  }

-- the query did not begin
pub fails_refused : {S X : Type 0} (g : Ghosts S) (sql : List ℕ) (params : Row)
    (old new : Held S) (result : Result X Error) (e : Error) → result ≡ Err e
    → OnErr result (IsRefused g sql params old result new) → Fails (Asks sql) (state g old) (state g new)
fails_refused g sql params old new (Ok x) e is h = absurd cc
fails_refused g sql params old new (Err f) e is h = asks_looks sql params (state g old) (state g new)
    (λ (row : Row). row ∷ []) (Err f) (λ clean. tt) h.err h.mode h.survives

-- for a cause, if SQLite takes the text
pub caused_refused : {S X : Type 0} (g : Ghosts S) (sql : List ℕ) (params : Row)
    (old new : Held S) (result : Result X Error) (e : Error) → result ≡ Err e
    → OnErr result (IsRefused g sql params old result new) → HasCleanDisk (state g new)
    → IsTaken sql params old.schema → HasCause (state g old) (state g new) e
caused_refused g sql params old new (Ok x) e is h clean taken = absurd cc
caused_refused g sql params old new (Err f) e is h clean taken =
    let same : f ≡ e = cc in
    subst (HasCause (state g old) (state g new)) same
    (taken_fails sql params (state g old) (state g new) f taken (h.err clean))
