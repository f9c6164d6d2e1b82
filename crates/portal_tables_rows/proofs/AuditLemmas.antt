-- From tests row by row to counters that agree with the other rows.
use Rattle.portal_tables_rows.proofs.Common.{◌≡◌, inl, inr, ℕ, ◌+◌, ◌<◌, Bool, true, false, cond, ◌&&◌, ◌||◌}
use Rattle.portal_tables_rows.proofs.Common.{◌↔◌, IsTrue, List, [], ◌∷◌, map, take, length, get_or, Less}
use Rattle.portal_tables_rows.proofs.Common.{refl, sym, ap, ap₂, subst, ◌∙◌, bytes_eq, true≢false}
use Rattle.portal_tables_rows.proofs.Common.{list_all, list_any, eqb-true, cases_Bool, Decides-eqb}
use Rattle.portal_tables_rows.proofs.Common.{list_any-append, bytes_eq-Decides, Row, column, value_cmp}
use Rattle.portal_tables_rows.proofs.Common.{Database, rowid, IsTable, value_cmp_total, Has, all_has}
use Rattle.portal_tables_rows.proofs.Common.{all_from, map-map, IsCode, text_of, Stores, whole_row, has_image}
use Rattle.portal_tables_rows.proofs.Common.{same_rows, length-map, SessionRow, CountRow, TotalRow}
use Rattle.portal_tables_rows.proofs.Common.{total_from, Total, ends_row, grant_read, rows_for_sums, uses_in}
use Rattle.portal_tables_rows.proofs.Common.{CountValue, Contents, HeadRow, head_stored, session_stored}
use Rattle.portal_tables_rows.proofs.Common.{total_stored, Holds, voucher_read, session_read, count_read}
use Rattle.portal_tables_rows.proofs.Common.{HasCounters, IsAudited, Agrees, AreReadRows, is_counted}
use Rattle.portal_tables_rows.proofs.Common.{has_count, total_in}
use Rattle.portal_tables_rows.proofs.Common.{has_mapped, both, WholeSession, whole_session_stored, total_of}
use Rattle.portal_tables_rows.proofs.Cells.{exact_head, exact_session, exact_total}
use Rattle.portal_tables_rows.proofs.Compose.{more_mapped}
use Rattle.std.proofs.lemmas.Cmp.{tied_itself}
use Rattle.sqlite_rules.proofs.PlaceLemmas.{tied_same}
use Rattle.portal_tables_sql.specs.Stored.{number as number_cell}
use Rattle.portal_tables_rows.specs.declared.counted_rows.CountedRows.{CountedRows}
use Rattle.portal_tables_rows.proofs.SameCode.{code_test}
use Rattle.portal_tables_rows.proofs.SumLemmas.{map_exact}
use Rattle.portal_tables_sql.specs.declared.our_tables.OurTable.TheVariants as our
use Rattle.portal_tables_sql.proofs.TableLemmas.{always}

-- ---- tests of all rows, and of any

pub all_true : {X : Type 0} (p : X → Bool) (xs : List X)
    → list_all p xs ≡ true → (x : X) → Has xs x → p x ≡ true
all_true p [] h x has = absurd has
all_true p (y ∷ xs) h x (inl e) = ap p e ∙ (both (p y) (list_all p xs) h).0
all_true p (y ∷ xs) h x (inr later) = all_true p xs (both (p y) (list_all p xs) h).1 x later

pub true_all : {X : Type 0} (p : X → Bool) (xs : List X)
    → ((x : X) → Has xs x → p x ≡ true) → list_all p xs ≡ true
true_all p [] each = refl
true_all p (y ∷ xs) each = ap₂ ◌&&◌ (each y (inl refl)) (true_all p xs (λ x has. each x (inr has)))

pub any_true : {X : Type 0} (p : X → Bool) (xs : List X) → list_any p xs ≡ true
    → (x : X) × Has xs x × (p x ≡ true)
any_true p [] h = absurd (true≢false (sym h))
any_true p (y ∷ xs) h = elim (cases_Bool (p y)) [
  | inl on ↦ (y, inl refl, on)
  | inr off ↦ let it = any_true p xs (sym (ap (λ b. b || list_any p xs) off) ∙ h) in (it.0, inr it.1, it.2)
]

or_true : (b : Bool) → (b || true) ≡ true
or_true true = refl
or_true false = refl

pub true_any : {X : Type 0} (p : X → Bool) (xs : List X) (x : X)
    → Has xs x → p x ≡ true → list_any p xs ≡ true
true_any p [] x has on = absurd has
true_any p (y ∷ xs) x (inl e) on = ap (λ b. b || list_any p xs) (sym (ap p e) ∙ on)
true_any p (y ∷ xs) x (inr later) on = ap (λ b. p y || b) (true_any p xs x later on) ∙ or_true (p y)

-- ---- the codes that have a count, with one count more

abbrev pub counted_so_far : List CountValue → ℕ → List ℕ → Bool
counted_so_far counts i code =
    list_any (λ (k : CountRow). bytes_eq k.code code) (map count_read (take i counts))

or_false : (b : Bool) → (b || false) ≡ b
or_false true = refl
or_false false = refl

or_cond : (a b : Bool) → cond b true a ≡ (a || b)
or_cond a true = sym (or_true a)
or_cond a false = sym (or_false a)

pub counted_step : (counts : List CountValue) (i : ℕ) (k : CountValue) → IsCode k.code
    → i < length counts → k ≡ get_or counts i k
    → (old new : List ℕ → Bool)
    → ((code : List ℕ) → IsCode code → old code ≡ counted_so_far counts i (text_of code))
    → ((code : List ℕ) → new code ≡ cond (bytes_eq k.code code) true (old code)) → (code : List ℕ)
    → IsCode code → new code ≡ counted_so_far counts (i + 1) (text_of code)
counted_step counts i k own within is old new so_far now code is_code =
    let text = text_of code in
    let test : CountRow → Bool = λ (x : CountRow). bytes_eq x.code text in
    let same : bytes_eq k.code code ≡ bytes_eq (text_of k.code) text =
    sym (code_test k.code code own is_code) in
    let more : counted_so_far counts (i + 1) text
    ≡ (counted_so_far counts i text || (bytes_eq (text_of k.code) text || false)) =
    ap (list_any test) (more_mapped count_read counts i k within is)
    ∙ list_any-append test (map count_read (take i counts)) (count_read k ∷ []) in
    now code ∙ or_cond (old code) (bytes_eq k.code code)
    ∙ ap₂ ◌||◌ (so_far code is_code) (same ∙ sym (or_false (bytes_eq (text_of k.code) text))) ∙ sym more

-- ---- rows of a table with an INTEGER PRIMARY KEY

uncut : (rows : List Row) → map whole_row rows ≡ rows
uncut [] = refl
uncut (r ∷ rows) = ap (λ xs. r ∷ xs) (uncut rows)

table_of : {P : Type 0} (stored : P → Row) (rows : List Row) (ps : List P) → Stores whole_row stored rows ps
    → IsTable (map stored ps)
table_of stored rows ps h = subst IsTable (sym (uncut rows) ∙ h.is) h.are.rise

one_of_number : {P : Type 0} (stored : P → Row) (ps : List P) → IsTable (map stored ps) → (a b : P) → Has ps a
    → Has ps b → rowid (stored a) ≡ rowid (stored b) → stored a ≡ stored b
one_of_number stored ps up a b has also same =
    tied_same (map stored ps) (stored a) (stored b) up
    (has_mapped stored ps a has) (has_mapped stored ps b also)
    (ap (value_cmp (rowid (stored a))) (sym same) ∙ tied_itself value_cmp_total (rowid (stored a)))

table_like : {X : Type 0} (f g : X → Row) → ((x : X) → rowid (f x) ≡ rowid (g x)) → (xs : List X)
    → IsTable (map g xs) → IsTable (map f xs)
table_like f g same [] up = tt
table_like f g same (x ∷ xs) up = (
  all_from _ (map f xs) (λ r h.
      let it = has_image f xs r h in
      let below : value_cmp (rowid (g x)) (rowid (g it.0)) ≡ Less =
      all_has _ (map g xs) (g it.0) up.0 (has_mapped g xs it.0 it.1) in
      ap₂ value_cmp (same x) (ap rowid it.2 ∙ same it.0) ∙ below),
  table_like f g same xs up.1,
)

head_exact : (a b : HeadRow) → head_stored a ≡ head_stored b → a ≡ b
head_exact a b e =
    exact_head a b (ap (λ r. column r 0 ∷ column r 2 ∷ column r 3 ∷ column r 4 ∷ column r 5 ∷ []) e)

session_exact : (a b : SessionRow) → session_stored a ≡ session_stored b → a ≡ b
session_exact a b e = exact_session a b
    (ap (λ r. column r 0 ∷ column r 2 ∷ column r 3 ∷ column r 4 ∷ column r 5 ∷ column r 6 ∷ []) e)

total_exact : (a b : TotalRow) → total_stored a ≡ total_stored b → a ≡ b
total_exact a b e = exact_total a b (ap (λ r. column r 0 ∷ column r 2 ∷ column r 3 ∷ []) e)

-- ---- the tests are the audit

module _ (db : Database) (t : Contents) (held : Holds db t) (head : HeadRow) (has : Has t.heads head)
    (first : head.id ≡ 1) where
  to_audit : Agrees head t → HasCounters t
  to_audit a = record {
    counts = λ k among. eqb-true k.redeemed (uses_in t.grants k.code)
        (all_true (is_counted t.grants) t.counts a.counts k among);
    totals =
        λ m among. let it = has_image (total_in t) t.sessions m (subst (λ ms. Has ms m) a.totals among) in
        (it.0, it.1, it.2);
    vouchers = λ v among.
        let it = any_true (λ (k : CountRow). bytes_eq k.code v.code) t.counts
        (all_true (has_count t.counts) t.vouchers a.vouchers v among) in
        (it.0, it.1, (bytes_eq-Decides it.0.code v.code).0 it.2);
    sessions = λ s among. (
      total_in t s,
      subst (λ ms. Has ms (total_in t s)) (sym a.totals) (has_mapped (total_in t) t.sessions s among),
      refl,
    );
    head = (head, has, first, a.grants, a.sessions);
  }

  same_totals : HasCounters t → t.totals ≡ map (total_in t) t.sessions
  same_totals a =
      let was = held.store our.Sessions (always _, tt) in
      let whole : IsTable (map whole_session_stored was.whole) = table_of whole_session_stored
      (db.trees (held.places our.Sessions).tree) was.whole was.stored in
      let by_number : IsTable (map session_stored t.sessions) =
      subst IsTable (sym (map-map session_stored (λ (w : WholeSession). w.row) was.whole)
      ∙ ap (map session_stored) was.their_rows)
      (table_like (λ (w : WholeSession). session_stored w.row) whole_session_stored (λ w. refl) was.whole
      whole)
      in
      let up : IsTable (map total_stored t.totals) =
      subst IsTable (sym (map-map total_stored total_of was.whole) ∙ ap (map total_stored) was.their_totals)
      (table_like (λ (w : WholeSession). total_stored (total_of w)) whole_session_stored (λ w. refl) was.whole
      whole) in
      let also : IsTable (map total_stored (map (total_in t) t.sessions)) =
      subst IsTable (sym (map-map total_stored (total_in t) t.sessions))
      (table_like (λ s. total_stored (total_in t s)) session_stored (λ s. refl) t.sessions by_number) in
      map_exact total_stored total_exact t.totals (map (total_in t) t.sessions)
      (same_rows (map total_stored t.totals) (map total_stored (map (total_in t) t.sessions)) up also
      (λ r among.
      let m = has_image total_stored t.totals r among in
      let s = a.totals m.0 m.1 in
      subst (Has (map total_stored (map (total_in t) t.sessions))) (ap total_stored (sym s.2) ∙ sym m.2)
      (has_mapped total_stored (map (total_in t) t.sessions) (total_in t s.0)
      (has_mapped (total_in t) t.sessions s.0 s.1)))
      (λ r among.
      let m = has_image total_stored (map (total_in t) t.sessions) r among in
      let s = has_image (total_in t) t.sessions m.0 m.1 in
      let own = a.sessions s.0 s.1 in
      let of = a.totals own.0 own.1 in
      let number : of.0.number ≡ s.0.number = sym (ap (λ (x : TotalRow). x.number) of.2) ∙ own.2 in
      let same : of.0 ≡ s.0 = session_exact of.0 s.0
      (one_of_number session_stored t.sessions by_number of.0 s.0 of.1 s.1 (ap number_cell number)) in
      let total : own.0 ≡ m.0 = of.2 ∙ ap (total_in t) same ∙ sym s.2 in
      subst (Has (map total_stored t.totals)) (ap total_stored total ∙ sym m.2)
      (has_mapped total_stored t.totals own.0 own.1)))

  to_agree : HasCounters t → Agrees head t
  to_agree a =
      let one : a.head.0 ≡ head =
      head_exact a.head.0 head (one_of_number head_stored t.heads
      (table_of head_stored (db.trees (held.places our.Head).tree) t.heads
      (held.store our.Head (always _, tt)))
      a.head.0 head a.head.1 has (ap number_cell (a.head.2 ∙ sym first))) in
      record {
        grants = subst (λ (h : HeadRow). h.grants ≡ length t.grants) one a.head.3;
        sessions = subst (λ (h : HeadRow). h.sessions ≡ length t.sessions) one a.head.4;
        counts = true_all (is_counted t.grants) t.counts
            (λ k among. (Decides-eqb k.redeemed (uses_in t.grants k.code)).1 (a.counts k among));
        vouchers = true_all (has_count t.counts) t.vouchers (λ v among.
            let k = a.vouchers v among in true_any (λ (k : CountRow). bytes_eq k.code v.code) t.counts k.0 k.1
            ((bytes_eq-Decides k.0.code v.code).1 k.2));
        totals = same_totals a;
      }

  pub audited : Agrees head t ↔ HasCounters t
  audited = (to_audit, to_agree)

-- where there is no head
pub no_head : (t : Contents) → ((h : HeadRow) → Has t.heads h → h.id ≡ 1 → ⊥) → IsTrue false ↔ IsAudited t
no_head t none = (
  λ on. absurd (true≢false (sym on)),
  λ a. let head = a.counters.head in absurd (none head.0 head.1 head.2),
)

-- ---- what was read is what the tables hold

exact_ends : (a b : Total) → ends_row a ≡ ends_row b → a ≡ b
exact_ends a b e = λ i. record { number = (e i).number; ends = (e i).ends; remaining = (e i).remaining }

module _ (head : HeadRow) (rows : CountedRows) (counts : List CountValue) (totals : List Total)
    (t : Contents) (read : AreReadRows rows t) (counted : map count_read counts ≡ t.counts)
    (ended : map ends_row totals ≡ t.totals) where
  grants_long : length rows.grants.items ≡ length t.grants
  grants_long = sym (length-map rows.grants.items grant_read) ∙ ap length read.grants

  sessions_long : length rows.sessions.items ≡ length t.sessions
  sessions_long = sym (length-map rows.sessions.items session_read) ∙ ap length read.sessions

  counts_same : list_all (is_counted (map grant_read rows.grants.items)) (map count_read counts)
      ≡ list_all (is_counted t.grants) t.counts
  counts_same = ap₂ (λ grants ks. list_all (is_counted grants) ks) read.grants counted

  vouchers_same : list_all (has_count (map count_read counts)) (map voucher_read rows.vouchers.items)
      ≡ list_all (has_count t.counts) t.vouchers
  vouchers_same = ap₂ (λ ks vs. list_all (has_count ks) vs) counted read.vouchers

  pub on_totals : (sums : List Total) (same : Bool)
      → (head.grants ≡ length rows.grants.items) × (head.sessions ≡ length rows.sessions.items)
      → list_all (is_counted (map grant_read rows.grants.items)) (map count_read counts) ≡ true
      → list_all (has_count (map count_read counts)) (map voucher_read rows.vouchers.items) ≡ true
      → map ends_row sums ≡ map (total_from (rows_for_sums rows.plans.items
      (map grant_read rows.grants.items))) (map session_read rows.sessions.items)
      → IsTrue same ↔ (totals ≡ sums) → IsTrue same ↔ Agrees head t
  on_totals sums same numbers all_counted all_found summed_up test =
      let made : map ends_row sums ≡ map (total_in t) t.sessions = summed_up
      ∙ (λ i. map (total_from (rows_for_sums (read.plans i) (read.grants i))) (read.sessions i)) in (
        λ on. record {
          grants = numbers.0 ∙ grants_long;
          sessions = numbers.1 ∙ sessions_long;
          counts = sym counts_same ∙ all_counted;
          vouchers = sym vouchers_same ∙ all_found;
          totals = sym ended ∙ ap (map ends_row) (test.0 on) ∙ made;
        },
        λ a. test.1 (map_exact ends_row exact_ends totals sums (ended ∙ a.totals ∙ sym made)),
      )
