-- How the statements of a transaction compose.
use Rattle.portal_tables_rows.proofs.Common.{take_more, map-append, ◌≡◌, true, false, IsTrue, ℕ, ◌+◌, ◌<◌}
use Rattle.portal_tables_rows.proofs.Common.{map, take, drop, get_or, List, [], ◌∷◌, ◌++◌, length, refl, sym}
use Rattle.portal_tables_rows.proofs.Common.{ap}
use Rattle.portal_tables_rows.proofs.Common.{subst, subst₂, ◌∙◌, arith, add-zero, zero-add, add_assoc, suc}
use Rattle.portal_tables_rows.proofs.Common.{zero}
use Rattle.portal_tables_rows.proofs.Common.{add-suc, one-add, append_assoc, append-nil, ap₂, Ghosts, Held}
use Rattle.portal_tables_rows.proofs.Common.{state, State, HasCleanDisk, Shows, Survives, survives_begin}
use Rattle.portal_tables_rows.proofs.Common.{Plan, new_vouchers, new_counts, Contents, CrashStateHoldsRows}
use Rattle.portal_tables_rows.proofs.Common.{KeepsOthers, CrashStateHasOthers, MakesRows, CommitsRows}
use Rattle.portal_tables_rows.proofs.Common.{MayCommitRows, new_voucher, count_row, with_plan, with_plans}
use Rattle.portal_tables_rows.proofs.Common.{with_vouchers, with_counts, with_whole_voucher}
use Rattle.portal_tables_rows.proofs.Common.{new_whole_voucher}
use Rattle.sqlite.proofs.StateLemmas.{survives_then}
use Rattle.portal_tables_rows.proofs.OthersLemmas.{others_none, others_then}

pub steps_then : (f g : Contents → Contents) (a b c : State) → MakesRows f a b → MakesRows g b c
    → MakesRows (λ t. g (f t)) a c
steps_then f g a b c p q = record {
  holds = λ t h. q.holds (f t) (p.holds t h);
  others = λ t h. others_then a.now b.now c.now (p.others t h) (q.others (f t) (p.holds t h));
  committed = q.committed ∙ p.committed;
  mode = q.mode;
}

pub steps_none : (s : State) → IsTrue s.in_transaction → MakesRows (λ t. t) s s
steps_none s inside =
    record { holds = λ t h. h; others = λ t h. others_none s.now; committed = refl; mode = inside }

pub steps_same : (f g : Contents → Contents) (a b : State) → ((t : Contents) → f t ≡ g t)
    → MakesRows f a b → MakesRows g a b
steps_same f g a b same s = record {
  holds = λ t h. rw (← same t) (s.holds t h);
  others = s.others;
  committed = s.committed;
  mode = s.mode;
}

-- a transaction of which the body took steps leads to what it commits
pub leads : (f : Contents → Contents) (old begun last new : State) → begun.now ≡ old.now
    → MakesRows f begun last → Shows last new last.now last.now false → CommitsRows f old new
leads f old begun last new same steps end = record {
  holds = λ t h. rw end.now_is (steps.holds t (rw same h));
  others = λ t h. subst₂ KeepsOthers same (sym end.now_is) (steps.others t (rw same h));
  committed = end.committed_is ∙ sym end.now_is;
  ended = end.mode;
  is_open = end.is_open;
}

module _ {S : Type 0} (g : Ghosts S) (f : Contents → Contents) (old begun last end : Held S)
    (begins : begun ≡ record old { in_transaction = true })
    (steps : HasCleanDisk (state g last) → IsTrue begun.in_transaction
    → MakesRows f (state g begun) (state g last)) where
  stepped : HasCleanDisk (state g last)
      → MakesRows f (state g (record old { in_transaction = true })) (state g last)
  stepped clean = rw begins at (steps clean (rw begins refl))

  -- the transaction is committed
  pub done : HasCleanDisk (state g last)
      → Shows (state g last) (state g end) (state g last).now (state g last).now false
      → CommitsRows f (state g old) (state g end)
  done clean shown = leads f (state g old) (state g (record old { in_transaction = true })) (state g last)
      (state g end) refl (stepped clean) shown

  -- the crash states
  pub crash : Survives (state g begun) (state g last) (λ _. ⊥)
      → Survives (state g last) (state g end) (λ db. db ≡ (state g last).now.trees)
      → Survives (state g old) (state g end) (MayCommitRows f (state g old))
  crash inside ending =
      survives_then (state g old) (state g last) (state g end) _ _ (MayCommitRows f (state g old))
      (λ _ db none. absurd none)
      (λ clean db is t h.
      let took = stepped (omega (arith, ending.clean)) in
      let it = took.holds t h in
      let schema = (state g last).now.schema in
      subst (λ trees. CrashStateHoldsRows trees (f t) × CrashStateHasOthers (state g old).now trees) (sym is)
      ((schema, it.sound, it), (schema, it.sound, took.others t h)))
      (survives_begin g old (state g last) _ (rw begins at inside)) ending

-- ---- loops

pub more_items : {X : Type 0} (xs : List X) (at : ℕ) (x : X) → at < length xs → x ≡ get_or xs at x
    → take (at + 1) xs ≡ take at xs ++ x ∷ []
more_items xs at x within is = take_more xs at x within ∙ ap (λ y. take at xs ++ y ∷ []) (sym is)

pub more_mapped : {X Y : Type 0} (f : X → Y) (xs : List X) (at : ℕ) (x : X) → at < length xs
    → x ≡ get_or xs at x → map f (take (at + 1) xs) ≡ map f (take at xs) ++ f x ∷ []
more_mapped f xs at x within is =
    ap (map f) (more_items xs at x within is) ∙ map-append f (take at xs) (x ∷ [])

-- one element more is made of one element more
pub made_more : {X Y Z : Type 0} (f : X → Z) (h : Y → Z) (made new : List X) (x : X)
    (ys : List Y) (i : ℕ) (y : Y)
    → map f made ≡ map h (take i ys) → new ≡ made ++ x ∷ [] → i < length ys → y ≡ get_or ys i y → f x ≡ h y
    → map f new ≡ map h (take (i + 1) ys)
made_more f h made new x ys i y so_far grown within is one = ap (map f) grown ∙ map-append f made (x ∷ [])
    ∙ ap₂ ◌++◌ so_far (ap (λ z. z ∷ []) one) ∙ sym (more_mapped h ys i y within is)

-- two elements at the same place of lists with the same values
pub same_at : {X Y Z : Type 0} (f : X → Z) (h : Y → Z) (xs : List X) (ys : List Y) (i : ℕ) (x : X) (y : Y)
    → i < length xs → i < length ys → x ≡ get_or xs i x → y ≡ get_or ys i y → map f xs ≡ map h ys → f x ≡ h y
same_at f h [] ys i x y less also is too same = absurd (omega arith)
same_at f h (a ∷ xs) [] i x y less also is too same = absurd (omega arith)
same_at f h (a ∷ xs) (b ∷ ys) zero x y less also is too same =
    ap f is ∙ ap (λ l. get_or l 0 (f x)) same ∙ sym (ap h too)
same_at f h (a ∷ xs) (b ∷ ys) (suc i) x y less also is too same =
    same_at f h xs ys i x y (omega arith) (omega arith) is too (ap (λ l. drop 1 l) same)

pub plans_none : (a : State) → IsTrue a.in_transaction → MakesRows (with_plans []) a a
plans_none a inside = steps_same (λ t. t) (with_plans []) a a
    (λ t. ap (λ ps. record t { plans = ps }) (sym (append-nil t.plans))) (steps_none a inside)

-- one plan more
pub plans_then : (plans : List Plan) (plan : Plan) (a b c : State) → MakesRows (with_plans plans) a b
    → MakesRows (with_plan plan) b c → MakesRows (with_plans (plans ++ plan ∷ [])) a c
plans_then plans plan a b c p q =
    steps_same _ (with_plans (plans ++ plan ∷ [])) a c
    (λ t. ap (λ ps. record t { plans = ps }) (append_assoc t.plans plans (plan ∷ [])))
    (steps_then (with_plans plans) (with_plan plan) a b c p q)

new_vouchers-push : (batch : List ℕ) (place : ℕ) (codes : List (List ℕ)) (code : List ℕ)
    → new_vouchers batch place (codes ++ code ∷ [])
    ≡ new_vouchers batch place codes ++ new_voucher batch (place + length codes) code ∷ []
new_vouchers-push batch place [] code = rw add-zero refl
new_vouchers-push batch place (c ∷ codes) code =
    rw (new_vouchers-push batch (place + 1) codes code, add_assoc, add-suc, one-add) refl

-- the vouchers of a batch, each with a count of 0
abbrev pub with_issued : List ℕ → List (List ℕ) → Contents → Contents
with_issued batch codes t = with_counts (new_counts codes) (with_vouchers (new_vouchers batch 0 codes) t)

-- one voucher more
pub issued_then : (batch : List ℕ) (codes : List (List ℕ)) (code : List ℕ) (place : ℕ) (a b c : State)
    → place ≡ length codes → MakesRows (with_issued batch codes) a b
    → MakesRows (with_whole_voucher (new_whole_voucher batch place code)) b c
    → MakesRows (with_issued batch (codes ++ code ∷ [])) a c
issued_then batch codes code place a b c at p q =
    steps_same _ (with_issued batch (codes ++ code ∷ [])) a c
    (λ t. rw (
      new_vouchers-push batch 0 codes code,
      zero-add,
      at,
      map-append (λ code. count_row code 0) codes (code ∷ []),
    ) (ap₂ (λ vs ks. record t { vouchers = vs; counts = ks })
    (append_assoc t.vouchers (new_vouchers batch 0 codes) (new_voucher batch (length codes) code ∷ []))
    (append_assoc t.counts (new_counts codes) (count_row code 0 ∷ []))))
    (steps_then (with_issued batch codes) (with_whole_voucher (new_whole_voucher batch place code)) a b c p q)

pub issued_none : (batch : List ℕ) (a : State) → IsTrue a.in_transaction
    → MakesRows (with_issued batch []) a a
issued_none batch a inside = steps_same (λ t. t) (with_issued batch []) a a
    (λ t. ap₂ (λ vs ks. record t { vouchers = vs; counts = ks }) (sym (append-nil t.vouchers))
    (sym (append-nil t.counts))) (steps_none a inside)
