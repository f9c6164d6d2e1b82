-- Tables that are created one after another, beside others.
use Rattle.portal_tables_rows.proofs.Common.{◌≡◌, inl, inr, Result, Ok, ℕ, List, [], ◌∷◌, ◌++◌}
use Rattle.portal_tables_rows.proofs.Common.{refl, sym, subst, ◌∙◌, Error, Ghosts, State, Database, Has}
use Rattle.portal_tables_rows.proofs.Common.{HasMade, IsUnactedBy, TablePlace, KeepsOthers, makes_inside}
use Rattle.sqlite.specs.declared.transaction.Transaction.{Transaction}
use Rattle.portal_tables_sql.specs.Inside.{Inside, Runs}
use Rattle.portal_tables_sql.proofs.InsideLemmas.{inside_none, inside_then}
use Rattle.portal_tables_sql.proofs.TableLemmas.{creates, counts_none, placed, tree_is, name_is}
use Rattle.portal_tables_sql.proofs.TableLemmas.{names_itself, idle}
use Rattle.portal_tables_sql.specs.Tables.{Together, table_of, name_of, create_of}
use Rattle.portal_tables_sql.specs.declared.our_tables.OurTable.{OurTable}
use Rattle.portal_tables_rows.specs.Creation.{HaveMade, Makes}
use Rattle.portal_tables_rows.proofs.CreateLemmas.{IsReady, new_place, still_by, made_ready, still_ready}
use Rattle.portal_tables_rows.proofs.OthersLemmas.{others_none, others_then}
use Rattle.portal_tables_rows.proofs.OthersMade.{others_made}

-- ---- one statement after another

more_made : (xs : List OurTable) (x : OurTable) (db mid after : Database) → HaveMade xs db mid
    → HasMade mid (table_of x 0) after → HaveMade (xs ++ x ∷ []) db after
more_made [] x db mid after same one =
    (after, subst (λ (d : Database). HasMade d (table_of x 0) after) same one, refl)
more_made (y ∷ ys) x db mid after made one = (made.0, made.1, more_made ys x made.0 mid after made.2 one)

pub none_made : {S : Type 0} (g : Ghosts S) (at : Transaction S) → Inside g (Makes []) at at (Ok tt)
none_made g at = inside_none g {Does = Makes []} at
    (λ s inside. record { made = λ numbered. (refl, numbered); committed = refl; mode = inside })

made_then : (xs : List OurTable) (x : OurTable) {sql : List ℕ} → sql ≡ create_of x → (a b c : State)
    → Makes xs a b → Runs sql [] b c → Makes (xs ++ x ∷ []) a c
made_then xs x {sql = sql} is a b c made ran = record {
  made = λ numbered.
      let before = made.made numbered in
      let one = makes_inside (create_of x) (table_of x 0) b c ran.count (creates x) (counts_none x) before.1
      (rw is at ran.executes) in
      (more_made xs x a.now b.now c.now before.0 one.0, one.1);
  committed = ran.executes.1.committed_is ∙ made.committed;
  mode = ran.executes.1.mode;
}

pub one_more_made : {S : Type 0} (g : Ghosts S) (xs : List OurTable) (x : OurTable) {sql : List ℕ}
    {a b c : Transaction S} {result : Result (Unit {0}) Error}
    → sql ≡ create_of x → Inside g (Makes xs) a b (Ok tt) → Inside g (Runs sql []) b c result
    → Inside g (Makes (xs ++ x ∷ [])) a c result
one_more_made g xs x {sql = sql} is one two = inside_then g {First = Makes xs} {Second = Runs sql []}
    (Makes (xs ++ x ∷ [])) (λ p q made. made.mode) (made_then xs x is) one two

-- ---- what was there stays

pub others_still : (xs : List OurTable) (db after : Database) → HaveMade xs db after → KeepsOthers db after
others_still [] db after same = subst (KeepsOthers db) (sym same) (others_none db)
others_still (x ∷ xs) db after made = others_then db made.0 after
    (others_made db (table_of x 0) made.0 made.1) (others_still xs made.0 after made.2)

-- ---- what was created is ready

-- the table exists somewhere, and has no row yet
abbrev pub IsNew : Database → OurTable → Type 0
IsNew db x = (place : TablePlace) × IsReady db (table_of x) place

just_made : (db after : Database) (x : OurTable) → HasMade db (table_of x 0) after
    → IsUnactedBy db.schema (name_of x) → IsNew after x
just_made db after x made free =
    let unacted = still_by db after (table_of x 0) (name_of x) (idle x) made free in
    let place = new_place db in (
      place,
      made_ready db after (table_of x) (placed x place.tree) (names_itself x) made
          (subst (IsUnactedBy after.schema) (sym (name_is Together x place.tree)) unacted),
    )

still_new : (xs : List OurTable) (db after : Database) → HaveMade xs db after → (x : OurTable)
    → IsNew db x → IsNew after x
still_new [] db after same x new = subst (λ (d : Database). IsNew d x) (sym same) new
still_new (y ∷ ys) db after made x new = still_new ys made.0 after made.2 x (
  new.0,
  still_ready db made.0 (table_of y 0) (table_of x) new.0 (tree_is Together x new.0.tree) (idle y) made.1
      new.1,
)

pub all_new : (xs : List OurTable) (db after : Database)
    → ((x : OurTable) → Has xs x → IsUnactedBy db.schema (name_of x)) → HaveMade xs db after → (x : OurTable)
    → Has xs x → IsNew after x
all_new [] db after free made x has = absurd has
all_new (y ∷ ys) db after free made x (inl e) =
    subst (IsNew after) (sym e)
    (still_new ys made.0 after made.2 y (just_made db made.0 y made.1 (free y (inl refl))))
all_new (y ∷ ys) db after free made x (inr has) =
    all_new ys made.0 after
    (λ z later. still_by db made.0 (table_of y 0) (name_of z) (idle y) made.1 (free z (inr later))) made.2 x
    has
