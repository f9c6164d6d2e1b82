-- What an INSERT and an UPDATE come to on the rows of one table.
use Rattle.portal_tables_sql.proofs.Common.{◌≡◌, inl, inr, ℤ, pos, ◌+ℤ◌, ◌<ℤ◌, Bool, true, false, not, cond}
use Rattle.portal_tables_sql.proofs.Common.{List, [], ◌∷◌, ◌++◌, map, filter, fold, IsTrue, refl, sym, ap}
use Rattle.portal_tables_sql.proofs.Common.{ap₂, subst, ◌∙◌, Ordering, Less, Equal, Greater, is_eq, int_cmp}
use Rattle.portal_tables_sql.proofs.Common.{arith, AllByRecursion, cases_Bool, not-true, false_from_ne_true}
use Rattle.portal_tables_sql.proofs.Common.{nat_tests, tied_itself, ints, Int, value_cmp_total, value_cmp-Int}
use Rattle.portal_tables_sql.proofs.Common.{is_int, AreRows, IsTable-put_row, Has, id_in, next_rowid}
use Rattle.portal_tables_sql.proofs.Common.{without_all, put_all, are_fresh, ids_of, all_has, all_from}
use Rattle.portal_tables_sql.proofs.Common.{has_filtered, has_kept, int_is, put_all_has, put_all_keeps}
use Rattle.portal_tables_sql.proofs.Common.{put_all_adds}
use Rattle.std.specs.Ordering.{ordering_reverse}
use Rattle.sqlite_value.specs.Order.{Row, value_cmp}
use Rattle.sqlite_trees.specs.Tree.{rowid, IsTable, has_rowid, put_row, without_rowid}
use Rattle.sqlite_rules.proofs.PlaceLemmas.{tied_same}

never_both : (a b : Row) → value_cmp (rowid a) (rowid b) ≡ Less → value_cmp (rowid b) (rowid a) ≡ Less → ⊥
never_both a b p q = let e = value_cmp_total.antisymm (rowid a) (rowid b) ∙ ap ordering_reverse q in cc

-- two tables with the same rows are one
pub same_rows : (xs ys : List Row) → IsTable xs → IsTable ys → ((r : Row) → Has xs r → Has ys r)
    → ((r : Row) → Has ys r → Has xs r) → xs ≡ ys
same_rows [] [] p q a b = refl
same_rows [] (y ∷ ys) p q a b = absurd (b y (inl refl))
same_rows (x ∷ xs) [] p q a b = absurd (a x (inl refl))
same_rows (x ∷ xs) (y ∷ ys) p q a b =
    let first : x ≡ y = elim (a x (inl refl)) [
      | inl e ↦ e
      | inr later ↦ elim (b y (inl refl)) [
        | inl e ↦ sym e
        | inr also ↦ absurd (never_both x y (all_has _ xs y p.0 also) (all_has _ ys x q.0 later))
      ]
    ] in
    let past = λ (z : Row) (zs : List Row)
    (up : AllByRecursion (λ r. value_cmp (rowid z) (rowid r) ≡ Less) zs) (r : Row) (h : Has zs r) (e : r ≡ z).
    let lower = rw e at (all_has _ zs r up h) in never_both z z lower lower in
    ap₂ ◌∷◌ first (same_rows xs ys p.1 q.1
    (λ r h. elim (a r (inr h)) [ inl e ↦ absurd (past x xs p.0 r h (e ∙ sym first)) | inr k ↦ k ])
    (λ r h. elim (b r (inr h)) [ inl e ↦ absurd (past y ys q.0 r h (e ∙ first)) | inr k ↦ k ]))

equal_is : (o : Ordering) → is_eq o ≡ true → o ≡ Equal
equal_is Less h = absurd (cc)
equal_is Equal h = refl
equal_is Greater h = absurd (cc)

filter_table : (p : Row → Bool) (rows : List Row) → IsTable rows → IsTable (filter p rows)
filter_table p [] up = tt
filter_table p (r ∷ rows) up = elim (cases_Bool (p r)) [
  | inl e ↦ rw e (
    all_from _ (filter p rows) (λ y h. all_has _ rows y up.0 (has_filtered p rows y h).0),
    filter_table p rows up.1,
  )
  | inr e ↦ rw e (filter_table p rows up.1)
]

without_all_table : (ids : List ℤ) (rows : List Row) → IsTable rows → IsTable (without_all rows ids)
without_all_table [] rows up = up
without_all_table (id ∷ ids) rows up = without_all_table ids (without_rowid id rows) (filter_table _ rows up)

put_all_table : (news rows : List Row) → IsTable rows → IsTable (put_all rows news)
put_all_table [] rows up = up
put_all_table (n ∷ news) rows up = put_all_table news (put_row n rows) (IsTable-put_row n rows up)

-- no number of the list is the row's
abbrev Lacks : List ℤ → Row → Type 0
Lacks ids x = (id : ℤ) → Has ids id → has_rowid id x ≡ false

left_from : (ids : List ℤ) (rows : List Row) (x : Row) → Has (without_all rows ids) x
    → Has rows x × Lacks ids x
left_from [] rows x h = (h, λ id none. absurd none)
left_from (id ∷ ids) rows x h =
    let r = left_from ids (without_rowid id rows) x h in
    let was = has_filtered (λ y. not (has_rowid id y)) rows x r.0 in
    (was.0, λ other k. elim k [ inl e ↦ rw e (not-true _ was.1) | inr more ↦ r.1 other more ])

left_has : (ids : List ℤ) (rows : List Row) (x : Row) → Has rows x → Lacks ids x
    → Has (without_all rows ids) x
left_has [] rows x h lacks = h
left_has (id ∷ ids) rows x h lacks = left_has ids (without_rowid id rows) x
    (has_kept (λ y. not (has_rowid id y)) rows x h (ap not (lacks id (inl refl))))
    (λ other k. lacks other (inr k))

-- ---- membership in a mapped list

pub mapped : {X Y : Type 0} (f : X → Y) (xs : List X) (x : X) → Has xs x → Has (map f xs) (f x)
mapped f [] x h = h
mapped f (y ∷ xs) x (inl e) = inl (ap f e)
mapped f (y ∷ xs) x (inr h) = inr (mapped f xs x h)

pub unmapped : {X Y : Type 0} (f : X → Y) (xs : List X) (y : Y) → Has (map f xs) y
    → (x : X) × Has xs x × (y ≡ f x)
unmapped f [] y h = absurd h
unmapped f (x ∷ xs) y (inl e) = (x, inl refl, e)
unmapped f (x ∷ xs) y (inr h) = let r = unmapped f xs y h in (r.0, inr r.1, r.2)

-- ---- UPDATE

-- the row, or what it becomes if it is meant
abbrev pub changed_if : (Row → Bool) → (Row → Row) → Row → Row
changed_if meant change r = cond (meant r) (change r) r

module _ (meant : Row → Bool) (change : Row → Row) (keeps : (r : Row) → rowid (change r) ≡ rowid r) where
  pub keeps_rowid : (r : Row) → rowid (changed_if meant change r) ≡ rowid r
  keeps_rowid r = elim (meant r) as (λ b. rowid (cond b (change r) r) ≡ rowid r) [
    | true ↦ keeps r
    | false ↦ refl
  ]

  pub still_rows : (rows : List Row) → AreRows rows → AreRows (map (changed_if meant change) rows)
  still_rows [] h = record { rise = tt; keyed = tt }
  still_rows (r ∷ rows) h =
      let later = still_rows rows (record { rise = h.rise.1; keyed = h.keyed.1 }) in
      record {
        rise = (
          all_from _ (map (changed_if meant change) rows) (λ y k.
              let x = unmapped (changed_if meant change) rows y k in
              rw (keeps_rowid r, x.2, keeps_rowid x.0) (all_has _ rows x.0 h.rise.0 x.1)),
          later.rise,
        );
        keyed = (rw (keeps_rowid r) h.keyed.0, later.keyed);
      }

  module _ (rows found : List Row) (are : AreRows rows)
      (only : (r : Row) → Has found r → Has rows r × (meant r ≡ true))
      (each : (r : Row) → Has rows r → meant r ≡ true → Has found r)
      (fresh : are_fresh (without_all rows (ids_of found)) (map change found) ≡ true) where
    id_of_row : (r : Row) → Has rows r → has_rowid (id_in (rowid r)) r ≡ true
    id_of_row r h =
        rw (← int_is (rowid r) (all_has _ rows r are.keyed h), tied_itself value_cmp_total (rowid r))

    -- a row that is meant is taken out
    taken_out : (r : Row) → Has rows r → Lacks (ids_of found) r → meant r ≡ false
    taken_out r h lacks = false_from_ne_true _ (λ is.
        let none = lacks (id_in (rowid r)) (mapped (λ x. id_in (rowid x)) found r (each r h is)) in
        let some = id_of_row r h in cc)

    -- a row that is not meant stays
    stays : (r : Row) → Has rows r → meant r ≡ false → Lacks (ids_of found) r
    stays r h other id k = false_from_ne_true _ (λ tie.
        let f = unmapped (λ x. id_in (rowid x)) found id k in
        let o = only f.0 f.1 in
        let same : r ≡ f.0 = tied_same rows r f.0 are.rise h o.0
        (equal_is _ (rw (int_is (rowid f.0) (all_has _ rows f.0 are.keyed o.0), ← f.2) tie)) in
        let e = rw same at other in cc)

    -- the rows that are meant change in place
    pub updates : put_all (without_all rows (ids_of found)) (map change found)
        ≡ map (changed_if meant change) rows
    updates = same_rows _ _ (put_all_table (map change found) _
        (without_all_table (ids_of found) rows are.rise)) (still_rows rows are).rise
        (λ x h. elim (put_all_has (map change found) (without_all rows (ids_of found)) x h) [
          | inl new ↦ let f = unmapped change found x new in let o = only f.0 f.1 in
              subst (Has (map (changed_if meant change) rows))
              (ap (λ b. cond b (change f.0) f.0) o.1 ∙ sym f.2)
              (mapped (changed_if meant change) rows f.0 o.0)
          | inr kept ↦ let l = left_from (ids_of found) rows x kept in
              subst (Has (map (changed_if meant change) rows))
              (ap (λ b. cond b (change x) x) (taken_out x l.0 l.1))
              (mapped (changed_if meant change) rows x l.0)
        ])
        (λ x h. let r = unmapped (changed_if meant change) rows x h in
        elim (cases_Bool (meant r.0)) [
          | inl is ↦ subst (Has (put_all (without_all rows (ids_of found)) (map change found)))
              (sym (r.2 ∙ ap (λ b. cond b (change r.0) r.0) is))
              (put_all_adds (map change found) _ (change r.0) fresh
              (mapped change found r.0 (each r.0 r.1 is)))
          | inr other ↦ subst (Has (put_all (without_all rows (ids_of found)) (map change found)))
              (sym (r.2 ∙ ap (λ b. cond b (change r.0) r.0) other))
              (put_all_keeps (map change found) _ r.0 fresh
              (left_has (ids_of found) rows r.0 r.1 (stays r.0 r.1 other)))
        ])

-- ---- INSERT

lower_than : (a b c : ℤ) → int_cmp a b ≡ Less → b <ℤ c → a <ℤ c
lower_than a b c p q = grind (arith, ints, nat_tests)

below_is : (a b : ℤ) → a <ℤ b → value_cmp (Int a) (Int b) ≡ Less
below_is a b h = value_cmp-Int a b ∙ grind (arith, ints, nat_tests)

abbrev step_rowid : ℤ → Row → ℤ
step_rowid n r = id_in (rowid r) +ℤ pos 1

below_next : (x : Row) (rows : List Row) → IsTable (x ∷ rows)
    → AllByRecursion (λ r. IsTrue (is_int (rowid r))) (x ∷ rows)
    → AllByRecursion (λ r. id_in (rowid r) <ℤ fold step_rowid (step_rowid (pos 1) x) rows) (x ∷ rows)
below_next x [] up keyed = (omega (arith, ints), tt)
below_next x (y ∷ rows) up keyed =
    let later = below_next y rows up.1 keyed.1 in
    let lower = rw (
      int_is (rowid x) keyed.0,
      int_is (rowid y) keyed.1.0,
      value_cmp-Int (id_in (rowid x)) (id_in (rowid y)),
    ) at up.0.0 in
    let first = later.0 in
    (lower_than (id_in (rowid x)) (id_in (rowid y)) _ lower first, later)

put_last : (new : Row) (rows : List Row) → AllByRecursion (λ r. value_cmp (rowid r) (rowid new) ≡ Less) rows
    → put_row new rows ≡ rows ++ new ∷ []
put_last new [] all = refl
put_last new (r ∷ rows) all = rw (all.0, put_last new rows all.1)

-- a row with the next rowid comes last
pub inserts : (rows : List Row) (rest : Row) → AreRows rows
    → put_row (Int (next_rowid rows) ∷ rest) rows ≡ rows ++ (Int (next_rowid rows) ∷ rest) ∷ []
inserts [] rest are = refl
inserts (x ∷ rows) rest are =
    put_last (Int (next_rowid (x ∷ rows)) ∷ rest) (x ∷ rows) (all_from _ (x ∷ rows) (λ r h.
    rw (int_is (rowid r) (all_has _ (x ∷ rows) r are.keyed h))
    (below_is _ _ (all_has _ (x ∷ rows) r (below_next x rows are.rise are.keyed) h))))

pub more_rows : (rows : List Row) (rest : Row) → AreRows rows
    → AreRows (rows ++ (Int (next_rowid rows) ∷ rest) ∷ [])
more_rows rows rest are =
    rw (← inserts rows rest are) (record {
      rise = IsTable-put_row _ rows are.rise;
      keyed = Rattle.sqlite_trees.proofs.TreeLemmas.all-put_row _
          (Int (next_rowid rows) ∷ rest) rows refl are.keyed;
    })
