-- A table still exists after another one is dropped.
use Rattle.portal_tables_sql.proofs.Common.{◌≡◌, inl, inr, ℕ, suc, ◌+◌, ◌==◌}
use Rattle.portal_tables_sql.proofs.Common.{List, [], ◌∷◌, Option}
use Rattle.portal_tables_sql.proofs.Common.{Some, is_some, slice_get, find, filter}
use Rattle.portal_tables_sql.proofs.Common.{refl, true, false, Bool}
use Rattle.portal_tables_sql.proofs.Common.{not, ap, sym, ◌∙◌, arith, true≢false, position_from}
use Rattle.portal_tables_sql.proofs.Common.{cases_Bool}
use Rattle.portal_tables_sql.proofs.Common.{list_any, codes, Schema, Table, same_name, table_named, Has}
use Rattle.portal_tables_sql.proofs.Common.{has_filtered, place_has, TableExists}
use Rattle.portal_tables_sql.proofs.Common.{IsUnactedBy}
use Rattle.sqlite_catalog.specs.Change.{without_table}
use Rattle.sqlite.specs.Rows.{sequence}
use Rattle.portal_tables_sql.specs.Made.{HasItsSequence}
use Rattle.portal_tables_sql.proofs.Makes.{one_of, found_in, counted_off}
use Rattle.portal_tables_sql.proofs.Drops.{none_of}

module _ {X : Type 0} (p : X → Bool) where
  -- the place does not depend on where the count begins
  placed_any : (b c : ℕ) (xs : List X) (m : ℕ) → position_from p b xs ≡ Some m
      → (k : ℕ) × (m ≡ b + k) × (position_from p c xs ≡ Some (c + k))
  placed_any b c [] m is = absurd cc
  placed_any b c (x ∷ xs) m is = elim (cases_Bool (p x)) [
    | inl e ↦
        let here : ◌≡◌ {A = Option ℕ} (Some b) (Some m) = rw e at is in
        let same : b ≡ m = cc in
        (0, omega (arith, same), rw e (ap Some (omega arith)))
    | inr n ↦
        let it = placed_any (b + 1) (c + 1) xs m (rw n at is) in
        (it.0 + 1, omega (arith, it.1), rw n (it.2 ∙ ap Some (omega arith)))
  ]

  -- what stands at the place passes
  placed_is : (xs : List X) (k : ℕ) (x : X) → position_from p 0 xs ≡ Some k → slice_get xs k ≡ Some x
      → p x ≡ true
  placed_is [] k x is got = absurd cc
  placed_is (y ∷ ys) k x is got = elim (cases_Bool (p y)) [
    | inl e ↦
        let here : ◌≡◌ {A = Option ℕ} (Some 0) (Some k) = rw e at is in
        let first : 0 ≡ k = cc in
        let at : ◌≡◌ {A = Option X} (Some y) (Some x) = rw (← first) at got in
        let same : y ≡ x = cc in
        ap p (sym same) ∙ e
    | inr n ↦
        let it = placed_any 1 0 ys k (rw n at is) in
        let next : k ≡ suc it.0 = omega (arith, it.1) in
        placed_is ys it.0 x (it.2 ∙ ap Some (omega arith)) (rw next at got)
  ]

  module _ (q : X → Bool) where
    placed_kept : (xs : List X) (k : ℕ) (x : X) → position_from p 0 xs ≡ Some k → slice_get xs k ≡ Some x
        → q x ≡ true
        → (l : ℕ) × (position_from p 0 (filter q xs) ≡ Some l) × (slice_get (filter q xs) l ≡ Some x)
    placed_kept [] k x is got on = absurd cc
    placed_kept (y ∷ ys) k x is got on = elim (cases_Bool (p y)) [
      | inl e ↦
          let here : ◌≡◌ {A = Option ℕ} (Some 0) (Some k) = rw e at is in
          let first : 0 ≡ k = cc in
          let at : ◌≡◌ {A = Option X} (Some y) (Some x) = rw (← first) at got in
          let same : y ≡ x = cc in
          let stays : q y ≡ true = ap q same ∙ on in
          (0, rw (stays, e) refl, rw stays at)
      | inr n ↦
          let it = placed_any 1 0 ys k (rw n at is) in
          let next : k ≡ suc it.0 = omega (arith, it.1) in
          let rest = placed_kept ys it.0 x (it.2 ∙ ap Some (omega arith)) (rw next at got) on in
          elim (cases_Bool (q y)) [
            | inl stays ↦
                let more = placed_any 0 1 (filter q ys) rest.0 rest.1 in (
                  suc rest.0,
                  rw (stays, n) (more.2 ∙ ap Some (omega (arith, more.1))),
                  rw stays rest.2,
                )
            | inr gone ↦ (rest.0, rw gone rest.1, rw gone rest.2)
          ]
    ]

    found_kept : (xs : List X) (x : X) → find p xs ≡ Some x → q x ≡ true → find p (filter q xs) ≡ Some x
    found_kept [] x is on = absurd cc
    found_kept (y ∷ ys) x is on = elim (cases_Bool (p y)) [
      | inl e ↦
          let at : ◌≡◌ {A = Option X} (Some y) (Some x) = rw e at is in
          let same : y ≡ x = cc in
          let stays : q y ≡ true = ap q same ∙ on in
          rw stays (rw e at)
      | inr n ↦ elim (cases_Bool (q y)) [
        | inl stays ↦ rw stays (rw n (found_kept ys x (rw n at is) on))
        | inr gone ↦ rw gone (found_kept ys x (rw n at is) on)
      ]
    ]

-- a table that is not the one with this tree
abbrev pub is_left : ℕ → Table → Bool
is_left gone t = not (t.tree == gone)

pub left_on : (gone : ℕ) (t : Table) → (t.tree == gone) ≡ false → is_left gone t ≡ true
left_on gone t other = rw other refl

pub dropped_stands : (schema : Schema) (gone at : ℕ) (t : Table) → TableExists schema at t
    → (t.tree == gone) ≡ false → (now : ℕ) × TableExists (without_table schema gone) now t
dropped_stands schema gone at t h other =
    let on = left_on gone t other in
    let place = placed_kept (λ u. same_name u.name t.name) (is_left gone) schema.tables at t h.named h.there
    on in (
      place.0,
      record {
        named = place.1;
        there = place.2;
        low = h.low;
        typed = found_kept (λ u. u.tree == t.tree) (is_left gone) schema.tables t h.typed on;
        only = λ u has same. h.only u (has_filtered (is_left gone) schema.tables u has).0 same;
      },
    )

pub dropped_unacted : (schema : Schema) (gone : ℕ) (name : List ℕ) → IsUnactedBy schema name
    → IsUnactedBy (without_table schema gone) name
dropped_unacted schema gone name h child ref listed has =
    h child ref (has_filtered (is_left gone) schema.tables child listed).0 has

-- a table of another name than sqlite_sequence may go
pub dropped_counts : (schema : Schema) (at : ℕ) (t : Table) → TableExists schema at t
    → same_name t.name (codes "sqlite_sequence") ≡ false → HasItsSequence schema
    → HasItsSequence (without_table schema t.tree)
dropped_counts schema at t h apart counts =
    elim (one_of (list_any (λ u. u.is_counted) schema.tables) (is_some (sequence schema)) counts) [
      | inl none ↦
          let still = none_of (λ (u : Table). u.is_counted) (filter (is_left t.tree) schema.tables) (λ u has.
          let was = has_filtered (is_left t.tree) schema.tables u has in
          false_of (λ (v : Table). v.is_counted) schema.tables none u was.0) in
          rw still refl
      | inr there ↦
          let found = found_in (table_named schema (codes "sqlite_sequence")) schema.tables there in
          let is_so = placed_is (λ (u : Table). same_name u.name (codes "sqlite_sequence")) schema.tables
          found.0 found.1 found.2 found.3 in
          let other : (found.1.tree == t.tree) ≡ false = elim (cases_Bool (found.1.tree == t.tree)) [
            | inl same ↦
                let e = h.only found.1 (place_has schema.tables found.0 found.1 found.3) same in
                absurd (true≢false (sym is_so
                ∙ ap (λ (u : Table). same_name u.name (codes "sqlite_sequence")) e ∙ apart))
            | inr off ↦ off
          ] in
          let place = placed_kept (λ (u : Table). same_name u.name (codes "sqlite_sequence")) (is_left t.tree)
          schema.tables found.0 found.1 found.2 found.3 (left_on t.tree found.1 other) in
          let some : is_some (sequence (without_table schema t.tree)) ≡ true = rw (place.1, place.2) refl in
          counted_off (list_any (λ u. u.is_counted) (filter (is_left t.tree) schema.tables)) _ some
    ]
  where
    false_of : {X : Type 0} (p : X → Bool) (xs : List X) → list_any p xs ≡ false → (x : X) → Has xs x
        → p x ≡ false
    false_of p [] none x has = absurd has
    false_of p (y ∷ ys) none x has = elim (cases_Bool (p y)) [
      | inl on ↦ absurd (true≢false (rw on at none))
      | inr off ↦ elim has [
        | inl same ↦ ap p same ∙ off
        | inr later ↦ false_of p ys (rw off at none) x later
      ]
    ]
