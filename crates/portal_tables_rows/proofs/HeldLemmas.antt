-- How calls that read an open connection follow one another: what a read does not change holds the same rows.
use Rattle.portal_tables_rows.proofs.Common.{◌≡◌, IsTrue, Result, Ok, Err, IfOk, IsErrAnd, ap, subst, sym}
use Rattle.portal_tables_rows.proofs.Common.{◌∙◌, arith, err_from_is_err_and, IfOk-weaker, Schema}
use Rattle.portal_tables_rows.proofs.Common.{Database, Held, state, State, HasCleanDisk, Looks, ReadsOnly}
use Rattle.portal_tables_rows.proofs.Common.{looks_read, looks_then, looks_weaker, same_now, still_open}
use Rattle.portal_tables_rows.proofs.Common.{Contents, NotForeign, Holds, HasTables, RowError, Anything}
use Rattle.portal_tables_rows.proofs.Common.{ReadsTables}
use Rattle.sqlite.specs.Store.{Ghosts}
use Rattle.portal_tables_rows.specs.Selects.{ReadsRow}
use Rattle.portal_tables_rows.specs.Selects.{ReadsOpen}
use Rattle.portal_tables_rows.proofs.Caused.{not_foreign}

pub all_stand : (db : Database) (t : Contents) → Holds db t → HasTables db.schema
all_stand db t held = (held.places, held.tables_exist)

early : (Has : Schema → Type 0) {A : Type 0} (result : Result A RowError) (a b : State) → Looks Has result a b
    → HasCleanDisk b → HasCleanDisk a
early Has (Ok x) a b looks clean = omega (arith, clean, looks.crash.clean)
early Has (Err e) a b looks clean = omega (arith, clean, looks.crash.clean)

module _ {S : Type 0} (g : Ghosts S) where
  -- a read of one table
  pub row_opened : {A : Type 0} {a b : Held S} {result : Result A RowError} {Is : Contents → A → Type 0}
      {Own : Contents → Type 0} → ReadsRow g a b result Is Own → ReadsOpen g HasTables Holds a b result Is Own
  row_opened {a = a} {b = b} r = record {
    read = λ clean live t held. r.found clean t held;
    looks = r.looks;
    foreign = λ clean live t held own. not_foreign (state g a) (state g b) _ (r.caused clean t held own);
  }

  -- reads of tables that others have too, or that hold more
  pub open_wider : {Has More : Schema → Type 0} {Hold Whole : Database → Contents → Type 0} {A : Type 0}
      {a b : Held S} {result : Result A RowError} {Is : Contents → A → Type 0} {Own : Contents → Type 0}
      → ((schema : Schema) → More schema → Has schema)
      → ((db : Database) (t : Contents) → Whole db t → Hold db t)
      → ReadsOpen g Has Hold a b result Is Own → ReadsOpen g More Whole a b result Is Own
  open_wider {Has = Has} {More = More} {a = a} {result = result} there held r = record {
    read = λ clean live t whole. r.read clean live t (held (state g a).now t whole);
    looks = looks_weaker Has More there result _ _ r.looks;
    foreign = λ clean live t whole. r.foreign clean live t (held (state g a).now t whole);
  }

  -- of tables of other schema versions
  pub tables_opened : {Has : Schema → Type 0} {Hold : Database → Contents → Type 0} {A : Type 0}
      {a b : Held S} {result : Result A RowError} {Is : Contents → A → Type 0} {Own : Contents → Type 0}
      → ReadsTables g Has Hold a b result Is Own → ReadsOpen g Has Hold a b result Is Own
  tables_opened r = record {
    read = λ clean live t held. r.found clean t held;
    looks = r.looks;
    foreign = λ clean live t held own. r.foreign clean t held own;
  }

  -- whatever the schema has
  pub always_opened : {Has : Schema → Type 0} {Hold Whole : Database → Contents → Type 0} {A : Type 0}
      {a b : Held S} {result : Result A RowError} {Is : Contents → A → Type 0} {Own : Contents → Type 0}
      → ((db : Database) (t : Contents) → Whole db t → Hold db t)
      → ReadsTables g Has Hold a b result Is Own → ReadsOpen g Anything Whole a b result Is Own
  always_opened {a = a} held r = record {
    read = λ clean live t whole. r.found clean t (held (state g a).now t whole);
    looks = r.always;
    foreign = λ clean live t whole own. r.foreign clean t (held (state g a).now t whole) own;
  }

  module _ {Has : Schema → Type 0} {Hold : Database → Contents → Type 0} where
    pub open_own : {A : Type 0} {a b : Held S} {result : Result A RowError} {Is : Contents → A → Type 0}
        {Own Whole : Contents → Type 0} → ((t : Contents) → Whole t → Own t)
        → ReadsOpen g Has Hold a b result Is Own
        → ReadsOpen g Has Hold a b result Is Whole
    open_own own r = record {
      read = r.read;
      looks = r.looks;
      foreign = λ clean live t held whole. r.foreign clean live t held (own t whole);
    }

    -- one reading that succeeded, and then another
    pub open_then : {A B : Type 0} {a b c : Held S} {x : A} {result : Result B RowError}
        {P : Contents → A → Type 0} {Q : Contents → B → Type 0} {Before Own : Contents → Type 0}
        → ((db : Database) (t : Contents) → Hold db t → Has db.schema)
        → ReadsOpen g Has Hold a b (Ok x) P Before → ReadsOpen g Has Hold b c result Q Own
        → ReadsOpen g Has Hold a c result (λ t y. P t x × Q t y) Own
    open_then {a = a} {b = b} {c = c} {result = result} there one two =
        let first : ReadsOnly Has (state g a) (state g b) = one.looks in
        let before : HasCleanDisk (state g c) → HasCleanDisk (state g b) =
        early Has result (state g b) (state g c) two.looks in
        let live_then : HasCleanDisk (state g c) → IsTrue (state g a).is_open → (t : Contents)
        → Hold (state g a).now t → IsTrue (state g b).is_open =
        λ clean live t held.
        still_open Has (state g a) (state g b) first (before clean) live (there _ t held) in
        let held_then : HasCleanDisk (state g c) → IsTrue (state g a).is_open → (t : Contents)
        → Hold (state g a).now t → Hold (state g b).now t =
        λ clean live t held. subst (λ (db : Database). Hold db t)
        (sym (same_now Has (state g a) (state g b) first (before clean) live (there _ t held))) held in
        record {
          read = λ clean live t held. let is = one.read (before clean) live t held in
              IfOk-weaker result _ _ (λ y also. (is, also))
              (two.read clean (live_then clean live t held) t (held_then clean live t held));
          looks = looks_then Has result _ _ _ first two.looks;
          foreign = λ clean live t held own.
              two.foreign clean (live_then clean live t held) t (held_then clean live t held) own;
        }

    -- a `?` on a reading that failed
    pub open_fails : {A B : Type 0} {a b : Held S} {e : RowError} {P : Contents → A → Type 0}
        {Q : Contents → B → Type 0} {Own : Contents → Type 0} (result : Result B RowError)
        → IsErrAnd result (λ f. f ≡ e) → ReadsOpen g Has Hold a b (Err e) P Own
        → ReadsOpen g Has Hold a b result Q Own
    open_fails {a = a} {b = b} {Q = Q} {Own = Own} result fails r =
        let told = err_from_is_err_and result fails in
        subst (λ (it : Result _ RowError). ReadsOpen g Has Hold a b it Q Own) (sym (told.1 ∙ ap Err told.2))
        (record { read = λ clean live t held. tt; looks = r.looks; foreign = r.foreign })

    -- what is made of what was read
    pub open_made : {A B : Type 0} {a b : Held S} {x : A} {P : Contents → A → Type 0}
        {Q : Contents → B → Type 0} {Before Own : Contents → Type 0} (result : Result B RowError)
        → ReadsOpen g Has Hold a b (Ok x) P Before
        → ((t : Contents) → Hold (state g a).now t → P t x → IfOk result (Q t))
        → ((t : Contents) → P t x → Own t → NotForeign result) → ReadsOpen g Has Hold a b result Q Own
    open_made result r is own = record {
      read = λ clean live t held. is t held (r.read clean live t held);
      looks = looks_read Has result _ _ r.looks;
      foreign = λ clean live t held owns. own t (r.read clean live t held) owns;
    }
