-- A query that SQLite does not refuse fails for a cause.
use Rattle.portal_tables_sql.proofs.Common.{◌≡◌, inl, inr, ℕ, ℤ, List, [], length, Option, Some, None, Ok}
use Rattle.portal_tables_sql.proofs.Common.{Err, Result, true, false, refl, sym, ap, subst, ◌∙◌, append-nil}
use Rattle.portal_tables_sql.proofs.Common.{arith, ◌≤◌}
use Rattle.portal_tables_sql.proofs.Common.{cases_Bool, IfErr, Select, Schema, State, Survives, Compiled}
use Rattle.portal_tables_sql.proofs.Common.{CompileError, command_of, Term, Key, accepts_program, Command}
use Rattle.portal_tables_sql.proofs.Common.{Database, Error, inner, end, Query, Row, HasCleanDisk}
use Rattle.std.specs.Prelude.{IsSome}
use Rattle.portal_tables_sql.proofs.Common.{Trees}
use Rattle.sqlite_trees.specs.declared.error.StoreError.TheVariants.{OutOfMemory, Io, Corrupt, Full, Broken}
use Rattle.sqlite_trees.specs.declared.error.StoreError.TheVariants.{Unstorable}
use Rattle.sqlite.specs.Effect.{RefusesToRead}
use Rattle.sqlite.specs.Listing.{understood, reads_listing, IsSourceOf}
use Rattle.sqlite.specs.State.{FailsToQuery, IsNotRun, Fails}
use Rattle.sqlite.proofs.Callers.{IsPlain}
use Rattle.portal_tables_sql.specs.Asks.{Asks, IsDirect, IsSimple}
use Rattle.portal_tables_sql.specs.Causes.{HasCause, IsTaken}
use Rattle.portal_tables_sql.proofs.Queries.{simple}
use Rattle.portal_tables_sql.proofs.Texts.{IsOne, Means}

-- ---- the causes that the store has

store_caused : (old new : State) (e : Error) → Fails old new ⊥ e → HasCause old new e
store_caused old new e (OutOfMemory, is, cause, undone, named) = inl is
store_caused old new e (Io, is, cause, undone, named) = inr (inl cause)
store_caused old new e (Corrupt, is, cause, undone, named) = inr (inl cause)
store_caused old new e (Full, is, cause, undone, named) = inr (inl cause)
store_caused old new e (Broken, is, cause, undone, named) = inr (inr (inl cause))
store_caused old new e (Unstorable, is, cause, undone, named) = absurd cause

-- with no limit nothing is refused, so there is one
limited : (limit : Option ℕ) (command : Command) (db : Database) (params : Row) (e : Error)
    → ¬ RefusesToRead None command db params e → RefusesToRead limit command db params e → IsSome limit
limited None command db params e accepted refused = absurd (accepted refused)
limited (Some n) command db params e accepted refused = refl

module _ (sql : List ℕ) (params : Row) (old new : State) (e : Error)
    (taken : IsTaken sql params old.now.schema) where
  same_text : (c : Compiled) → understood old.now.schema sql ≡ Ok c → c ≡ taken.compiled
  same_text c is = let e = sym is ∙ taken.is in cc

  pub taken_fails : FailsToQuery sql params old new e → HasCause old new e
  unfolding FailsToQuery IsNotRun
  taken_fails (inl (inl (unread, same))) = absurd (elim unread [
    | inl (fault, is, named) ↦ let e = sym is ∙ taken.is in cc
    | inr (c, is, inl (long, named)) ↦
        long (subst (λ (x : Compiled). length sql ≤ x.tail) (sym (same_text c is)) taken.whole)
    | inr (c, is, inr (inl (count, named))) ↦
        count (taken.given ∙ ap (λ (x : Compiled). length x.names) (sym (same_text c is)))
    | inr (c, is, inr (inr (formats, named))) ↦
        formats (ap (λ (x : Compiled). x.formats) (same_text c is) ∙ taken.timeless)
  ])
  taken_fails (inl (inr failed)) = store_caused old new e failed
  taken_fails (inr (c, it, shown)) =
      let same = same_text c it.is in
      let asks = ap (λ (x : Compiled). x.returning) same ∙ taken.asks in
      let timeless = ap (λ (x : Compiled). x.formats) same ∙ taken.timeless in
      let read = rw (asks, timeless, append-nil params) at shown in
      let now : read.0 ≡ old.now = subst (λ b. IsSourceOf b old.now read.0) taken.unlisted read.1 in
      inr (inr (inr (limited old.step_limit c.command read.0 params e (subst (λ (x : Compiled).
      ¬ RefusesToRead None x.command read.0 params e) (sym same)
      (taken.accepted read.0 (ap (λ (d : Database). d.schema) now) e)) read.2)))

module _ (sql : List ℕ) (params : Row) (old new : State) {X : Type 0} where
  -- whatever the result is
  pub taken_caused : (r : Result X Error) → IsTaken sql params old.now.schema
      → IfErr r (FailsToQuery sql params old new) → IfErr r (HasCause old new)
  taken_caused (Ok x) taken fails = tt
  taken_caused (Err e) taken fails = taken_fails sql params old new e taken fails

pub taken_asks : (sql : List ℕ) (params : Row) (schema : Schema) → IsTaken sql params schema → Asks sql schema
taken_asks sql params schema taken c is = let same = sym is ∙ taken.is in
    let one : c ≡ taken.compiled = cc in ap (λ (x : Compiled). x.returning) one ∙ taken.asks

pub taken_simple : (sql : List ℕ) (params : Row) (schema : Schema) → IsTaken sql params schema
    → IsSimple (understood schema sql)
taken_simple sql params schema taken = subst IsSimple (sym taken.is) (taken.asks, taken.direct)

-- ---- a text of which the meaning is known

no_some : {X : Type 0} (o : Option X) → o ≡ None → IsSome o → ⊥
no_some None is some = cc
no_some (Some x) is some = cc

module _ (schema : Schema) (sql : List ℕ) (count tree : ℕ) (filter shows : List Term)
    (order : List (Term × Key)) (limit : ℤ) (names : List (List ℕ)) (params : Row) where
  abbrev asked : Query
  asked = simple (inner tree end) filter shows order limit

  accepts : accepts_program schema [] asked params ≡ true → (db : Database) → db.schema ≡ schema → (e : Error)
      → ¬ RefusesToRead None (Select (record { lets = []; body = asked }) names) db params e
  accepts typed db same e refused = elim refused [
    | inl (kind, unfit) ↦
        let f = sym typed ∙ subst (λ s. accepts_program s [] asked params ≡ false) same unfit in cc
    | inr (inl (kind, inl lost)) ↦ lost
    | inr (inl (kind, inr (k, r, low, is, none))) ↦ none
    | inr (inr (kind, some)) ↦ no_some {X = ℕ} None refl some
  ]

  taken_of : (r : Result Compiled CompileError) → understood schema sql ≡ r
      → command_of r ≡ Select (record { lets = []; body = asked }) names → IsPlain r → IsOne sql count r
      → reads_listing schema sql ≡ false → length params ≡ count
      → accepts_program schema [] asked params ≡ true
      → IsTaken sql params schema
  taken_of (Ok c) is command plain one unlisted given typed = record {
    compiled = c;
    is = is;
    whole = grind (arith, one.0);
    given = given ∙ sym one.1;
    timeless = plain.1;
    asks = plain.0;
    direct = subst IsDirect (sym command) refl;
    unlisted = unlisted;
    accepted = λ db same e.
        subst (λ k. ¬ RefusesToRead None k db params e) (sym command) (accepts typed db same e);
  }
  taken_of (Err fault) is command plain one unlisted given typed = absurd plain

-- SQLite takes such a text with as many parameters, where they have the types that it wants
pub text_taken : {schema : Schema} {sql : List ℕ} {count tree : ℕ} {filter shows : List Term}
    {order : List (Term × Key)} {limit : ℤ} {names : List (List ℕ)}
    → Means schema sql count
    (Select (record { lets = []; body = simple (inner tree end) filter shows order limit }) names)
    → (params : Row) → length params ≡ count
    → accepts_program schema [] (simple (inner tree end) filter shows order limit) params ≡ true
    → IsTaken sql params schema
text_taken {schema} {sql} means params =
    taken_of schema sql _ _ _ _ _ _ _ params (understood schema sql) refl means.is means.plain means.one
    means.unlisted

-- ---- one call after another

-- a call before adds a cause at most
pub caused_after : (a b c : State) {Commits Later : Trees → Type 0} (e : Error) → HasCleanDisk b
    → Survives a b Commits → Survives b c Later
    → HasCause b c e → HasCause a c e
caused_after a b c e clean p q (inl memory) = inl memory
caused_after a b c e clean p q (inr (inl more)) = inr (inl (omega (arith, more, p.counts)))
caused_after a b c e clean p q (inr (inr (inl shut))) = elim (cases_Bool a.is_open) [
  | inl was ↦ elim (p.closes clean (rw was refl)) [
    | inl still ↦ absurd (let e = rw shut at still in cc)
    | inr more ↦ inr (inl (omega (arith, more, q.counts)))
  ]
  | inr not ↦ inr (inr (inl not))
]
caused_after a b c e clean p q (inr (inr (inr limit))) = inr (inr (inr (rw p.limit at limit)))
