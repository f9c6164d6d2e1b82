-- Rows that are inserted one after another, as they were read.
use Rattle.portal_tables_rows.proofs.Common.{Err, IfOk, zero, suc, ◌<◌, length, get_or, arith}
use Rattle.portal_tables_rows.proofs.Common.{◌≡◌, Result, Ok, ℕ, List, [], ◌∷◌}
use Rattle.portal_tables_rows.proofs.Common.{◌++◌, map, Option, Some}
use Rattle.portal_tables_rows.proofs.Common.{None, refl, sym, ap, subst, ◌∙◌, Error}
use Rattle.portal_tables_rows.proofs.Common.{Ghosts, Row, State}
use Rattle.portal_tables_rows.proofs.Common.{or_null, Contents, Holds}
use Rattle.portal_tables_rows.proofs.Common.{head_cells}
use Rattle.portal_tables_rows.proofs.Common.{plan_cells, batch_cells}
use Rattle.portal_tables_rows.proofs.Common.{grant_cells, request_cells, ExecutesInside}
use Rattle.sqlite.specs.Values.{bound_value}
use Rattle.sqlite.specs.State.{Executes}
use Rattle.sqlite.specs.declared.transaction.Transaction.{Transaction}
use Rattle.portal_tables_sql.specs.Copies.{insert_of}
use Rattle.portal_tables_sql.specs.Inside.{Inside, Runs}
use Rattle.portal_tables_sql.specs.declared.copied_tables.CopiedTable.{CopiedTable}
use Rattle.portal_tables_sql.specs.declared.copied_tables.CopiedTable.TheVariants as copied
use Rattle.portal_tables_sql.proofs.InsideLemmas.{inside_by, inside_none, inside_then}
use Rattle.portal_tables_rows.specs.Contents.{text_or_null}
use Rattle.portal_tables_rows.specs.Copying.{Adds, AddsRow, Chain}
use Rattle.portal_tables_rows.proofs.InsertSteps.{add_batch, add_grant, add_plan, add_whole_head}
use Rattle.portal_tables_rows.proofs.OthersLemmas.{others_none, others_then}
use Rattle.portal_tables_rows.proofs.RequestSteps.{add_request}
use Rattle.portal_tables_rows.proofs.TableSteps.{LeadsTo}

-- ---- a value of a row is bound as it is

bound_or_null : (o : Option ℕ) → bound_value (or_null o) ≡ or_null o
bound_or_null None = refl
bound_or_null (Some n) = refl

bound_text_or_null : (o : Option (List ℕ)) → bound_value (text_or_null o) ≡ text_or_null o
bound_text_or_null None = refl
bound_text_or_null (Some t) = refl

-- ---- one row

-- an INSERT of the cells of a value leads on from any of that value
adds_of : {P : Type 0} (sql : List ℕ) (cells : P → Row) (step : P → Contents → Contents)
    → ((p : P) → map bound_value (cells p) ≡ cells p) → ((p : P) → LeadsTo sql (cells p) (step p))
    → (row : Row) (a b : State) (count : ℕ) → ExecutesInside 0 sql (map bound_value row) a b (Ok count)
    → Adds (λ t now. (p : P) × (cells p ≡ row) × (now ≡ step p t)) a b
adds_of {P = P} sql cells step bound leads row a b count ran =
    let given = λ (p : P) (is : cells p ≡ row). subst (λ (params : Row). Executes sql params a b (Ok count))
    (ap (map bound_value) (sym is) ∙ bound p) ran.0 in
    record {
      holds = λ t now r h. subst (Holds b.now) (sym r.2) (leads r.0 a b count (given r.0 r.1) t h).0;
      others = λ t now r h. (leads r.0 a b count (given r.0 r.1) t h).1;
      committed = ran.1.committed_is;
      mode = ran.1.mode;
    }

adds_row : (x : CopiedTable) (row : Row) (a b : State) (count : ℕ)
    → ExecutesInside 0 (insert_of x) (map bound_value row) a b (Ok count) → Adds (AddsRow x row) a b
adds_row copied.Head = adds_of (insert_of copied.Head) head_cells _ (λ p. refl) add_whole_head
adds_row copied.Plans = adds_of (insert_of copied.Plans) plan_cells _ (λ p. refl) add_plan
adds_row copied.Batches = adds_of (insert_of copied.Batches) batch_cells _ (λ p. refl) add_batch
adds_row copied.Grants = adds_of (insert_of copied.Grants) grant_cells _ (λ p. refl) add_grant
adds_row copied.Requests = adds_of (insert_of copied.Requests) request_cells _
    (λ p. rw (bound_text_or_null p.answer.word, bound_or_null p.answer.n2, bound_or_null p.answer.n3) refl)
    add_request

pub row_added : {S : Type 0} (g : Ghosts S) (x : CopiedTable) (row params : Row) {sql : List ℕ}
    {a b : Transaction S} {result : Result (Unit {0}) Error} → sql ≡ insert_of x → params ≡
    map bound_value row
    → Inside g (Runs sql params) a b result → Inside g (Adds (AddsRow x row)) a b result
row_added g x row params {sql = sql} is bound one = inside_by g
    (λ p q ran. adds_row x row p q ran.count (rw (is, bound) at ran.executes)) one

-- ---- one after another

chain_more : {X : Type 0} (Step : X → Contents → Contents → Type 0) (xs : List X) (x : X) (t now : Contents)
    → Chain Step (xs ++ x ∷ []) t now → (mid : Contents) × Chain Step xs t mid × Step x mid now
chain_more Step [] x t now c = (t, refl, subst (Step x t) (sym c.2) c.1)
chain_more Step (y ∷ ys) x t now c =
    let rest = chain_more Step ys x c.0 now c.2 in (rest.0, (c.0, c.1, rest.1), rest.2)

pub none_added : {S X : Type 0} (g : Ghosts S) (Step : X → Contents → Contents → Type 0) (at : Transaction S)
    → Inside g (Adds (Chain Step [])) at at (Ok tt)
none_added g Step at = inside_none g {Does = Adds (Chain Step [])} at (λ s inside. record {
  holds = λ t now same h. subst (Holds s.now) (sym same) h;
  others = λ t now same h. others_none s.now;
  committed = refl;
  mode = inside;
})

added_then : {X : Type 0} (Step : X → Contents → Contents → Type 0) (xs : List X) (x : X) (a b c : State)
    → Adds (Chain Step xs) a b → Adds (Step x) b c → Adds (Chain Step (xs ++ x ∷ [])) a c
added_then Step xs x a b c one two = record {
  holds = λ t now r h.
      let parts = chain_more Step xs x t now r in
      two.holds parts.0 now parts.2 (one.holds t parts.0 parts.1 h);
  others = λ t now r h.
      let parts = chain_more Step xs x t now r in
      others_then a.now b.now c.now (one.others t parts.0 parts.1 h)
      (two.others parts.0 now parts.2 (one.holds t parts.0 parts.1 h));
  committed = two.committed ∙ one.committed;
  mode = two.mode;
}

pub one_more_added : {S X : Type 0} (g : Ghosts S) (Step : X → Contents → Contents → Type 0) (xs : List X)
    (x : X) {a b c : Transaction S} {result : Result (Unit {0}) Error}
    → Inside g (Adds (Chain Step xs)) a b (Ok tt) → Inside g (Adds (Step x)) b c result
    → Inside g (Adds (Chain Step (xs ++ x ∷ []))) a c result
one_more_added g Step xs x one two = inside_then g {First = Adds (Chain Step xs)} {Second = Adds (Step x)}
    (Adds (Chain Step (xs ++ x ∷ []))) (λ p q added. added.mode) (added_then Step xs x) one two

pub ok_weaker : {A E : Type 0} {P Q : A → Type 0} (r : Result A E) → ((a : A) → P a → Q a) → IfOk r P
    → IfOk r Q
ok_weaker (Ok a) f h = f a h
ok_weaker (Err e) f h = tt

-- an element does not depend on what stands for a missing one
pub same_got : {X : Type 0} (xs : List X) (i : ℕ) (d e : X) → i < length xs → get_or xs i d ≡ get_or xs i e
same_got [] i d e within = absurd (omega arith)
same_got (x ∷ xs) zero d e within = refl
same_got (x ∷ xs) (suc i) d e within = same_got xs i d e (omega arith)
