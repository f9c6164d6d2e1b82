-- How calls on one transaction compose.
use Rattle.portal_tables_sql.proofs.Common.{IsTrue, Result, Ok, Err, OnOk, IsErrAnd, refl, ◌∙◌, arith, state}
use Rattle.portal_tables_sql.proofs.Common.{State, Error, survives_then}
use Rattle.std.proofs.lemmas.Result.{on_ok_weaker}
use Rattle.sqlite.specs.Store.{Ghosts}
use Rattle.sqlite.specs.declared.transaction.Transaction.{Transaction}
use Rattle.sqlite.proofs.InsideLemmas.{keeps_then}
use Rattle.portal_tables_sql.specs.Inside.{Inside}
use Rattle.portal_tables_sql.proofs.Frame.{keeps_none, survives_none}

-- the `?` of a call that failed
pub on_failed : {A E : Type 0} (r : Result A E) (P : Type 0) (Q : E → Type 0) → IsErrAnd r Q → OnOk r P
on_failed (Ok a) P Q h = absurd h
on_failed (Err e) P Q h = tt

-- what a call does implies more
pub inside_by : {S : Type 0} (g : Ghosts S) {First Second : State → State → Type 0} {old new : Transaction S}
    {result : Result (Unit {0}) Error}
    → ((a b : State) → First a b → Second a b) → Inside g First old new result
    → Inside g Second old new result
inside_by g {old = old} {new = new} {result = result} leads one = record {
  same_reference = one.same_reference;
  steps = λ clean inside.
      on_ok_weaker result (leads (state g old.conn.now) (state g new.conn.now)) (one.steps clean inside);
  kept = one.kept;
  survives = one.survives;
}

-- nothing was called
pub inside_none : {S : Type 0} (g : Ghosts S) {Does : State → State → Type 0} (at : Transaction S)
    → ((s : State) → IsTrue s.in_transaction → Does s s) → Inside g Does at at (Ok tt)
inside_none g at still = record {
  same_reference = refl;
  steps = λ clean inside. still (state g at.conn.now) inside;
  kept = λ clean. keeps_none (state g at.conn.now);
  survives = survives_none (state g at.conn.now) (λ _. ⊥);
}

-- a call that succeeded and left the transaction open, and one after it, which together do as Both says
pub inside_then : {S : Type 0} (g : Ghosts S) {First Second : State → State → Type 0}
    (Both : State → State → Type 0) {a b c : Transaction S} {result : Result (Unit {0}) Error}
    → ((p q : State) → First p q → IsTrue q.in_transaction)
    → ((p q r : State) → First p q → Second q r → Both p r)
    → Inside g First a b (Ok tt) → Inside g Second b c result → Inside g Both a c result
inside_then g Both {a = a} {b = b} {c = c} {result = result} stays join one two =
    let first = state g a.conn.now in
    let mid = state g b.conn.now in
    let last = state g c.conn.now in
    record {
      same_reference = two.same_reference ∙ one.same_reference;
      steps = λ clean inside.
          let before = one.steps (omega (arith, two.survives.clean)) inside in
          on_ok_weaker result (join first mid last before) (two.steps clean (stays first mid before));
      kept =
          λ clean. keeps_then first mid last (one.kept (omega (arith, two.survives.clean))) (two.kept clean);
      survives = survives_then first mid last _ _ (λ _. ⊥) (λ _ db none. none) (λ _ db none. none)
          one.survives two.survives;
    }
