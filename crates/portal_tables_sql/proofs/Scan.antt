-- The result of a query over one table, by the table's rows.
use Rattle.portal_tables_sql.proofs.Common.{◌≡◌, ◌+◌, arith, Ordering, ℕ, ℤ, pos, List, [], ◌∷◌, ◌++◌, map}
use Rattle.portal_tables_sql.proofs.Common.{filter, take, Bool, true, false, cond, refl, sym, ap, subst, ◌∙◌}
use Rattle.portal_tables_sql.proofs.Common.{list_all, IsPermutation, IsSorted, get_or-map, length-map, Key}
use Rattle.portal_tables_sql.proofs.Common.{Trees, Term, Env, eval_all, holds, inner, end, IsAnswer, Output}
use Rattle.portal_tables_sql.proofs.Common.{output, output_cmp, page, key_cmp, pull_back, map-map}
use Rattle.std.proofs.Common.{flat_map}
use Rattle.sqlite.specs.Order.{Row}
use Rattle.portal_tables_sql.proofs.Queries.{simple, unlimited}

-- the rows that pass, in an order that the keys allow, and the terms of each
pub record IsScan (passes : Row → Bool) (show keys : Row → Row) (by : List Key)
    (rows out : List Row) : Type 0 where
  pub ordered : List Row
  pub same : IsPermutation (filter passes rows) ordered
  pub sorted : IsSorted (λ a b. key_cmp 0 by (keys a) (keys b)) ordered
  pub shown : out ≡ map show ordered

found : {X : Type 0} (f : Row → Bool) (g : Row → X) (rows : List Row)
    → flat_map (λ r. cond (f r) (g r ∷ []) []) rows ≡ map g (filter f rows)
found f g [] = refl
found f g (r ∷ rows) =
    elim (f r) as (λ b. (cond b (g r ∷ []) [] ++ flat_map (λ r. cond (f r) (g r ∷ []) []) rows)
    ≡ map g (cond b (r ∷ filter f rows) (filter f rows))) [
      | true ↦ ap (λ xs. g r ∷ xs) (found f g rows)
      | false ↦ found f g rows
    ]

sorted_from_map : {A B : Type 0} (f : A → B) (cmp : B → B → Ordering) (xs : List A) → IsSorted cmp (map f xs)
    → IsSorted (λ a b. cmp (f a) (f b)) xs
sorted_from_map f cmp xs h k d low within =
    rw (get_or-map f xs (k + 1) d (f d) within, get_or-map f xs k d (f d) (omega arith)) at
    (h k (f d) low (rw (length-map) within))

abbrev pub env : Row → Row → Env
env params r = params ∷ r ∷ []

abbrev pub passes : List Term → Row → Row → Bool
passes terms params r = list_all (holds (env params r)) terms

abbrev pub shown_of : List Term → Row → Row → Row
shown_of shows params r = eval_all shows (env params r)

abbrev pub keys_of : List (Term × Key) → Row → Row → Row
keys_of order params r = eval_all (map (λ (k : Term × Key). k.0) order) (env params r)

module _ (t : ℕ) (terms shows : List Term) (order : List (Term × Key)) (db : Trees) (params : Row) where
  abbrev pub IsScanOf : List Row → Type 0
  IsScanOf = IsScan (passes terms params) (shown_of shows params) (keys_of order params)
      (map (λ (k : Term × Key). k.1) order) (db t)

  abbrev pair : Row → Output
  pair r = (keys_of order params r, shown_of shows params r)

  -- the rows that pass in order, before LIMIT
  pub scan_before : (limit : ℤ) (out : List Row)
      → IsAnswer (simple (inner t end) terms shows order limit) db params out
      → (all : List Row) × IsScanOf all
      × (out ≡ page (simple (inner t end) terms shows order limit) params all)
  scan_before limit out a =
      let query = simple (inner t end) terms shows order limit in
      let passing = filter (passes terms params) (db t) in
      let staged : a.staged ≡ map (env params) passing =
      a.grouped ∙ found (passes terms params) (env params) (db t) in
      let kept : a.kept ≡ map pair passing =
      a.distinct ∙ ap (map (output query)) staged ∙ map-map (output query) (env params) passing in
      let back = pull_back pair a.kept a.ordered a.same passing kept in
      let sorted : IsSorted (output_cmp query) (map pair back.0) =
      subst (IsSorted (output_cmp query)) back.2 a.sorted in
      let all : map (λ (o : Output). o.1) a.ordered ≡ map (shown_of shows params) back.0 =
      ap (map (λ (o : Output). o.1)) back.2 ∙ map-map (λ (o : Output). o.1) pair back.0 in (
        map (shown_of shows params) back.0,
        record {
          ordered = back.0;
          same = back.1;
          sorted = sorted_from_map pair (output_cmp query) back.0 sorted;
          shown = refl;
        },
        a.shown ∙ ap (page query params) all,
      )

  pub scan_all : (out : List Row)
      → IsAnswer (simple (inner t end) terms shows order unlimited) db params out → IsScanOf out
  scan_all out a =
      let before = scan_before unlimited out a in
      subst IsScanOf (sym before.2) before.1

  -- with LIMIT
  pub scan_first : (count : ℕ) (out : List Row)
      → IsAnswer (simple (inner t end) terms shows order (pos count)) db params out
      → (all : List Row) × IsScanOf all × (out ≡ take count all)
  scan_first count = scan_before (pos count)
