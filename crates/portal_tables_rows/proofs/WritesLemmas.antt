-- How calls compose that write on one transaction.
use Rattle.portal_tables_rows.proofs.Common.{ℕ, List, IsTrue, Result, Ok, IsErrAnd, refl, Row, Ghosts, State}
use Rattle.portal_tables_rows.proofs.Common.{Error, state, Contents, MakesRows, Writes}
use Rattle.sqlite.specs.declared.transaction.Transaction.{Transaction}
use Rattle.portal_tables_sql.specs.Inside.{Inside, Runs}
use Rattle.portal_tables_sql.proofs.Frame.{keeps_none, survives_none}
use Rattle.portal_tables_sql.proofs.InsideLemmas.{inside_by, inside_none, inside_then, on_failed}
use Rattle.portal_tables_rows.proofs.Compose.{steps_then}
use Rattle.portal_tables_rows.proofs.TableSteps.{LeadsTo}

pub writes_none : {S : Type 0} (g : Ghosts S) {f : Contents → Contents} (at : Transaction S)
    → ((s : State) → IsTrue s.in_transaction → MakesRows f s s) → Writes g f at at (Ok tt)
writes_none g {f = f} at still = inside_none g {Does = MakesRows f} at still

-- the same of two that write
pub writes_by : {S : Type 0} (g : Ghosts S) {f k : Contents → Contents} (h : Contents → Contents)
    {a b c : Transaction S} {result : Result (Unit {0}) Error}
    → ((p q r : State) → MakesRows f p q → MakesRows k q r → MakesRows h p r) → Writes g f a b (Ok tt)
    → Writes g k b c result → Writes g h a c result
writes_by g {f = f} {k = k} h join one two =
    inside_then g {First = MakesRows f} {Second = MakesRows k} (MakesRows h) (λ p q s. s.mode) join one two

-- one call, and then another
pub writes_then : {S : Type 0} (g : Ghosts S) {f k : Contents → Contents} {a b c : Transaction S}
    {result : Result (Unit {0}) Error}
    → Writes g f a b (Ok tt) → Writes g k b c result → Writes g (λ t. k (f t)) a c result
writes_then g {f = f} {k = k} one two = writes_by g (λ t. k (f t)) (steps_then f k) one two

-- one statement on one of the product's tables
pub writes_run : {S : Type 0} (g : Ghosts S) {f : Contents → Contents} {sql : List ℕ} {params : Row}
    {a b : Transaction S} {result : Result (Unit {0}) Error}
    → LeadsTo sql params f → Inside g (Runs sql params) a b result → Writes g f a b result
writes_run g {f = f} {sql = sql} {params = params} leads one =
    inside_by g {First = Runs sql params} {Second = MakesRows f} (λ p q ran. record {
      holds = λ t h. (leads p q ran.count ran.executes.0 t h).0;
      others = λ t h. (leads p q ran.count ran.executes.0 t h).1;
      committed = ran.executes.1.committed_is;
      mode = ran.executes.1.mode;
    }) one

-- a call that failed before it wrote
pub writes_failed : {S : Type 0} (g : Ghosts S) {f : Contents → Contents} (at : Transaction S)
    (result : Result (Unit {0}) Error) (Q : Error → Type 0) → IsErrAnd result Q → Writes g f at at result
writes_failed g {f = f} at result Q err = record {
  same_reference = refl;
  steps = λ clean inside. on_failed result _ Q err;
  kept = λ clean. keeps_none (state g at.conn.now);
  survives = survives_none (state g at.conn.now) (λ _. ⊥);
}
