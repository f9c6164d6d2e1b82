-- If no view has the head's name, the head gives one schema version.
use Rattle.portal_tables_rows.proofs.Common.{◌≡◌, ◌⊎◌, inl, inr, ◌+◌, ℕ, List, [], ◌∷◌, map, Option, Some}
use Rattle.portal_tables_rows.proofs.Common.{None, Ok, false, ◌<◌, length, arith, refl, sym, ap, subst, ◌∙◌}
use Rattle.portal_tables_rows.proofs.Common.{slice_get, IsPermutation, IsPermutation-map, IsPermutation-sym}
use Rattle.portal_tables_rows.proofs.Common.{IsPermutation-trans, Null, Row, column, Table, Term, Select}
use Rattle.portal_tables_rows.proofs.Common.{overlay, IsAnswer, Database, understood, reads_listing}
use Rattle.portal_tables_rows.proofs.Common.{IsSourceOf, position_from, table_named, view_named, Compiled}
use Rattle.portal_tables_rows.proofs.Common.{number, drafted, over, unlimited, IsScan, scan_all, passes}
use Rattle.portal_tables_rows.proofs.Common.{shown_of, keys_of, program_of, head_name, schema_version_text}
use Rattle.portal_tables_rows.proofs.Common.{QueryAnswers, IsOneRow, GivesSchemaVersion}
use Rattle.sqlite.specs.Effect.{Reads}
use Rattle.std.proofs.lemmas.Option.{slice_get_cases}
use Rattle.sqlite_rules.proofs.RowLemmas.{position_within}
use Rattle.sqlite_schema.specs.Names.{same_name}
use Rattle.portal_tables_rows.proofs.Asking.{no_value, lacking}
use Rattle.portal_tables_sql.proofs.Texts.{same_value, understood_as, refused_as}
use Rattle.portal_tables_rows.proofs.HeadVersion.{layout_is_text, untimed, unshown, one_along}
use Rattle.portal_tables_rows.proofs.HeadScan.{layout_statement, IsScanOf, scans, finds_none, lists_none}

-- the text does not compile there, or its results have the same rows
IsSure : Database → Type 0
IsSure db = ((c : Compiled) → ¬ (understood db.schema schema_version_text ≡ Ok c))
    ⊎ ((a b : List Row) → QueryAnswers db a → QueryAnswers db b → IsPermutation a b)

module _ (db : Database) (table : Table) (term : Term) (names : List (List ℕ))
    (means : (c : Compiled) → understood db.schema schema_version_text ≡ Ok c
    → c.command ≡ Select (program_of (drafted table.tree [] (term ∷ []) [] unlimited)) names)
    (unlisted : reads_listing db.schema schema_version_text ≡ false) where
  scanned : (rows : List Row) → QueryAnswers db rows → IsScan (passes [] []) (shown_of (term ∷ []) [])
      (keys_of [] []) [] (overlay db.trees [] table.tree) rows
  scanned rows a =
      let source : a.source ≡ db = subst (λ b. IsSourceOf b db a.source) unlisted a.from in
      let read : Reads (Select (program_of (drafted table.tree [] (term ∷ []) [] unlimited)) names) db []
      rows = rw (means a.compiled a.is, source) at a.reads in
      let answer : IsAnswer (over table.tree [] (term ∷ [])) (overlay db.trees []) [] rows =
      read.answer Null in
      scan_all table.tree [] (term ∷ []) [] (overlay db.trees []) [] rows answer

  pub same_rows : (a b : List Row) → QueryAnswers db a → QueryAnswers db b → IsPermutation a b
  same_rows a b p q =
      let x = scanned a p in
      let y = scanned b q in
      let show = shown_of (term ∷ []) [] in
      let both : IsPermutation x.ordered y.ordered =
      IsPermutation-trans _ _ _ (IsPermutation-sym _ _ x.same) y.same in
      subst (λ r. IsPermutation r b) (sym x.shown)
      (subst (IsPermutation (map show x.ordered)) (sym y.shown) (IsPermutation-map show _ _ both))

sure_of : (db : Database) (at : ℕ) (table : Table) → table_named db.schema head_name ≡ Some at
    → slice_get db.schema.tables at ≡ Some table → IsSure db
unfolding IsSure
sure_of db at table there is = go (scans db.schema at table there is)
  where
    go : IsScanOf db.schema table → IsSure db
    go (inl it) =
        let known = understood_as db.schema schema_version_text layout_statement 0 layout_is_text (untimed _)
        (unshown _) _ (it.2 _) in
        inr (same_rows db table it.0 it.1
        (λ c is. ap (λ (x : Compiled). x.command) (same_value (sym is ∙ known.0))) known.1)
    go (inr it) = inl (λ c is. no_value (sym (refused_as db.schema schema_version_text layout_statement 0
        layout_is_text (untimed _) (unshown _) it.0 it.1 (it.2 _)) ∙ is))

none_there : (db : Database) → table_named db.schema head_name ≡ None
    → view_named db.schema head_name ≡ None → IsSure db
unfolding IsSure
none_there db no_table no_view =
    inl (λ c is. no_value (sym (lacking schema_version_text layout_statement 0 layout_is_text untimed unshown
    db.schema (finds_none db.schema no_table no_view _) (lists_none _)) ∙ is))

-- a place among the tables has one
none_at : (tables : List Table) (at : ℕ)
    → position_from (λ (t : Table). same_name t.name head_name) 0 tables ≡ Some at
    → slice_get tables at ≡ None → ⊥
none_at tables at there none =
    let within : at < 0 + length tables =
    position_within (λ (t : Table). same_name t.name head_name) tables 0 at there in
    elim ((slice_get_cases tables at).1) [
      | inl some ↦ (let clash : Some some.0 ≡ None = sym some.2 ∙ none in cc)
      | inr past ↦ omega (arith, within, past.0)
    ]

placed : (db : Database) → view_named db.schema head_name ≡ None → IsSure db
placed db no_view = go (table_named db.schema head_name) refl
  where
    at_place : (at : ℕ) → table_named db.schema head_name ≡ Some at → (o : Option Table)
        → slice_get db.schema.tables at ≡ o → IsSure db
    at_place at there (Some table) is = sure_of db at table there is
    at_place at there None is = absurd (none_at db.schema.tables at there is)

    go : (o : Option ℕ) → table_named db.schema head_name ≡ o → IsSure db
    go None none = none_there db none no_view
    go (Some at) there = at_place at there (slice_get db.schema.tables at) refl

module _ (db : Database) where
  same_layout : (rows : List Row) (m n : ℕ) → IsOneRow rows m → IsOneRow rows n → m ≡ n
  same_layout rows m n x y =
      let e : x.0 ∷ [] ≡ y.0 ∷ [] = sym x.1 ∙ y.1 in
      let row : x.0 ≡ y.0 = cc in
      let cell : number m ≡ number n = sym x.2 ∙ ap (λ r. column r 0) row ∙ y.2 in
      cc

  one_too : (a b : List Row) (n : ℕ) → IsPermutation a b → IsOneRow a n → IsOneRow b n
  one_too a b n same one =
      (one.0, one_along one.0 b (subst (λ r. IsPermutation r b) one.1 same), one.2, one.3)

  once : IsSure db → (x y : Option ℕ) → GivesSchemaVersion db x → GivesSchemaVersion db y → x ≡ y
  unfolding IsSure
  once (inl none) (Some m) y p q = absurd (none p.1.compiled p.1.is)
  once (inl none) None (Some n) p q = absurd (none q.1.compiled q.1.is)
  once (inl none) None None p q = refl
  once (inr same) (Some m) (Some n) p q =
      ap Some (same_layout q.0 m n (one_too p.0 q.0 m (same p.0 q.0 p.1 q.1) p.2) q.2)
  once (inr same) (Some m) None p (inl q) = absurd (no_value (sym q.1 ∙ p.1.is))
  once (inr same) (Some m) None p (inr q) = absurd (q.2 m (one_too p.0 q.0 m (same p.0 q.0 p.1 q.1) p.2))
  once (inr same) None (Some n) (inl p) q = absurd (no_value (sym p.1 ∙ q.1.is))
  once (inr same) None (Some n) (inr p) q = absurd (p.2 n (one_too q.0 p.0 n (same q.0 p.0 q.1 p.1) q.2))
  once (inr same) None None p q = refl

  pub tells_once : view_named db.schema head_name ≡ None → (x y : Option ℕ) → GivesSchemaVersion db x
      → GivesSchemaVersion db y → x ≡ y
  tells_once no_view = once (placed db no_view)
