-- A path's route, step by step.
use Rattle.portal_http_routes.proofs.Common.{◌≡◌, ℕ, zero, suc, ◌-◌, Bool, true, false, cond, eqb, ltb}
use Rattle.portal_http_routes.proofs.Common.{nat_eq, ◌&&◌, drop, codes, List, [], ◌∷◌, ◌++◌, length, Option}
use Rattle.portal_http_routes.proofs.Common.{Some, None, refl, sym, ap, ◌∙◌, arith, append-nil, ne_eqb}
use Rattle.portal_http_routes.proofs.Common.{lt-ltb, length_push, drop_at, ends_with, RowsOf, step, segment}
use Rattle.portal_http_routes.proofs.Common.{has_slash, or_else, cuts, IsPlain}
use Rattle.std.specs.Cmp.Lexicographic.{pointwise}
use Rattle.matchit.specs.Seek.{seek, param_step}

abbrev no_rows : {K : Type 0} → Bool → ℕ → ℕ × RowsOf K
no_rows slashed n = cond slashed (0, []) (n, [])

nil_either : {K : Type 0} (slashed : Bool) (n : ℕ) (path : List ℕ) → ((m : ℕ) → seek {K = K} m [] path ≡ None)
    → seek {K = K} ((no_rows {K = K} slashed n).0 - 1) (no_rows {K = K} slashed n).1 path ≡ None
nil_either true n path none = none 0
nil_either false n path none = none (n - 1)

-- no row, no route
pub seek-nil : {K : Type 0} (n : ℕ) (path : List ℕ) → seek {K = K} n [] path ≡ None
unfolding seek param_step
seek-nil n [] = refl
seek-nil (suc n) (b ∷ path) = seek-nil n path
seek-nil {K} zero (b ∷ path) =
    rw (seek-nil {K = K} 0 path)
    (ap (λ (o : Option K). or_else o None)
    (nil_either {K = K} (has_slash (b ∷ path)) (length (b ∷ path)) path (λ m. seek-nil {K = K} m path)))

-- the rows after some bytes
abbrev pub steps : {K : Type 0} → List ℕ → RowsOf K → RowsOf K
steps [] rows = rows
steps (b ∷ front) rows = steps front (step b rows)

pub seek-front : {K : Type 0} (front : List ℕ) (rows : RowsOf K) (path : List ℕ) (r : K)
    → seek 0 (steps front rows) path ≡ Some r → seek 0 rows (front ++ path) ≡ Some r
unfolding seek
seek-front [] rows path r h = h
seek-front (b ∷ front) rows path r h = rw (seek-front front (step b rows) path r h)

-- a parameter's bytes are skipped
pub seek-skip : {K : Type 0} (rows : RowsOf K) (word path : List ℕ)
    → seek (length word) rows (word ++ path) ≡ seek 0 rows path
unfolding seek
seek-skip rows [] path = refl
seek-skip rows (b ∷ word) path = seek-skip rows word path

-- the segment of a word that a slash ends
segment_word : (word tail : List ℕ) → IsPlain word → segment (word ++ 47 ∷ tail) ≡ word ++ 47 ∷ []
segment_word [] tail plain = refl
segment_word (b ∷ rest) tail plain =
    rw (ne_eqb b 47 plain.1) (ap (λ (w : List ℕ). b ∷ w) (segment_word rest tail plain.2))

last_slash : (word : List ℕ) → drop (length (word ++ 47 ∷ []) - 1) (word ++ 47 ∷ []) ≡ 47 ∷ []
last_slash word =
    let n : length (word ++ 47 ∷ []) - 1 ≡ length word = omega (arith, length_push word 47) in
    ap (λ (k : ℕ). drop k (word ++ 47 ∷ [])) n ∙ drop_at word (47 ∷ []) (length word) refl

cut_word : (b : ℕ) (rest : List ℕ) → cuts (b ∷ rest ++ 47 ∷ []) (47 ∷ []) ≡ true
cut_word b rest =
    let long : ltb 1 (length (b ∷ rest ++ 47 ∷ [])) ≡ true =
    lt-ltb 1 (length (b ∷ rest ++ 47 ∷ [])) (omega (arith, length_push rest 47)) in
    let ends : ends_with nat_eq (b ∷ rest ++ 47 ∷ []) (47 ∷ []) ≡ true =
    ap (λ (x : List ℕ). pointwise nat_eq (47 ∷ []) x) (last_slash (b ∷ rest)) in
    ap (λ (x : Bool). x && ends_with nat_eq (b ∷ rest ++ 47 ∷ []) (47 ∷ [])) long ∙ ends

-- the rows of a path under a segment and of the segment itself, behind the bytes that both begin with
abbrev under_rows : {K : Type 0} → List ℕ → K → K → RowsOf K
under_rows tail under whole = (47 ∷ tail, under) ∷ ([], whole) ∷ []

param_under : {K : Type 0} (tail : List ℕ) (under whole : K) (b : ℕ) (rest : List ℕ) → IsPlain (b ∷ rest)
    → param_step (under_rows tail under whole) (b ∷ rest ++ 47 ∷ tail) ≡ (
      length (b ∷ rest),
      (47 ∷ tail, under) ∷ [],
    )
unfolding param_step
param_under {K} tail under whole b rest plain =
    let shorter : length (b ∷ rest ++ 47 ∷ []) - 1 ≡ length (b ∷ rest) = omega (arith, length_push rest 47) in
    rw (segment_word (b ∷ rest) tail plain, cut_word b rest, shorter)

seek-under : {K : Type 0} (tail : List ℕ) (under whole : K) → seek 0 ((47 ∷ tail, under) ∷ []) (47 ∷ tail)
    ≡ Some under → (b : ℕ) (rest : List ℕ) → IsPlain (b ∷ rest)
    → seek 0 ((256 ∷ 47 ∷ tail, under) ∷ (256 ∷ [], whole) ∷ []) (b ∷ rest ++ 47 ∷ tail) ≡ Some under
unfolding seek
seek-under {K} tail under whole found b rest plain =
    let other : eqb 256 b ≡ false = ne_eqb 256 b (λ e. omega (arith, plain.0)) in
    let left : RowsOf K = (47 ∷ tail, under) ∷ [] in
    let skipped : seek (length rest) left (rest ++ 47 ∷ tail) ≡ Some under =
    seek-skip left rest (47 ∷ tail) ∙ found in
    let pred : length (b ∷ rest) - 1 ≡ length rest = omega arith in
    rw (
      other,
      seek-nil {K = K} 0 (rest ++ 47 ∷ tail),
      param_under tail under whole b rest plain,
      pred,
      skipped,
    )

print_alone : {K : Type 0} (printed : K) → seek 0 ((codes "/print", printed) ∷ []) (codes "/print")
    ≡ Some printed
unfolding seek
print_alone printed = refl

pub seek-print : {K : Type 0} (printed batch : K) (b : ℕ) (rest : List ℕ) → IsPlain (b ∷ rest)
    → seek 0 ((256 ∷ codes "/print", printed) ∷ (256 ∷ [], batch) ∷ []) (b ∷ rest ++ codes "/print")
    ≡ Some printed
seek-print printed batch b rest plain =
    seek-under (codes "print") printed batch (print_alone printed) b rest plain

redemptions_alone : {K : Type 0} (listed : K) → seek 0 ((codes "/redemptions", listed) ∷ [])
    (codes "/redemptions") ≡ Some listed
unfolding seek
redemptions_alone listed = refl

pub seek-redemptions : {K : Type 0} (listed voucher : K) (b : ℕ) (rest : List ℕ) → IsPlain (b ∷ rest)
    → seek 0 ((256 ∷ codes "/redemptions", listed) ∷ (256 ∷ [], voucher) ∷ [])
    (b ∷ rest ++ codes "/redemptions") ≡ Some listed
seek-redemptions listed voucher b rest plain =
    seek-under (codes "redemptions") listed voucher (redemptions_alone listed) b rest plain

no_slash : (word : List ℕ) → IsPlain word → has_slash word ≡ false
no_slash [] plain = refl
no_slash (b ∷ rest) plain = rw (ne_eqb b 47 plain.1) (no_slash rest plain.2)

-- a word with no slash is its own segment, and does not end with a slash
segment_whole : (word : List ℕ) → IsPlain word → segment word ≡ word
segment_whole [] plain = refl
segment_whole (b ∷ rest) plain =
    rw (ne_eqb b 47 plain.1) (ap (λ (w : List ℕ). b ∷ w) (segment_whole rest plain.2))

last_plain : (b : ℕ) (rest : List ℕ) → IsPlain (b ∷ rest)
    → pointwise nat_eq (47 ∷ []) (drop (length rest) (b ∷ rest)) ≡ false
last_plain b [] plain = rw (ne_eqb 47 b (λ e. plain.1 (sym e))) refl
last_plain b (c ∷ rest) plain = last_plain c rest plain.2

no_cut : (b : ℕ) (rest : List ℕ) → IsPlain (b ∷ rest) → cuts (b ∷ rest) (47 ∷ []) ≡ false
no_cut b rest plain =
    let pred : length (b ∷ rest) - 1 ≡ length rest = omega arith in
    let ends : ends_with nat_eq (b ∷ rest) (47 ∷ []) ≡ false =
    ap (λ (k : ℕ). pointwise nat_eq (47 ∷ []) (drop k (b ∷ rest))) pred ∙ last_plain b rest plain in
    ap (λ (x : Bool). ltb 1 (length (b ∷ rest)) && x) ends ∙ never (ltb 1 (length (b ∷ rest)))
  where
    never : (x : Bool) → (x && false) ≡ false
    never true = refl
    never false = refl

param_whole : {K : Type 0} (tail : List ℕ) (under whole : K) (b : ℕ) (rest : List ℕ) → IsPlain (b ∷ rest)
    → param_step (under_rows tail under whole) (b ∷ rest) ≡ (length (b ∷ rest), under_rows tail under whole)
unfolding param_step
param_whole tail under whole b rest plain =
    rw (segment_whole (b ∷ rest) plain, no_cut b rest plain, no_slash (b ∷ rest) plain)

-- the segment itself
pub seek-whole : {K : Type 0} (tail : List ℕ) (under whole : K) (b : ℕ) (rest : List ℕ) → IsPlain (b ∷ rest)
    → seek 0 ((256 ∷ 47 ∷ tail, under) ∷ (256 ∷ [], whole) ∷ []) (b ∷ rest) ≡ Some whole
unfolding seek
seek-whole {K} tail under whole b rest plain =
    let other : eqb 256 b ≡ false = ne_eqb 256 b (λ e. omega (arith, plain.0)) in
    let skipped : seek (length rest) (under_rows tail under whole) (rest ++ []) ≡ Some whole =
    seek-skip (under_rows tail under whole) rest [] in
    let all : seek (length rest) (under_rows tail under whole) rest ≡ Some whole = rw append-nil at skipped in
    let pred : length (b ∷ rest) - 1 ≡ length rest = omega arith in
    rw (other, seek-nil {K = K} 0 rest, param_whole tail under whole b rest plain, pred, all)

param_last : {K : Type 0} (r : K) (b : ℕ) (rest : List ℕ) → IsPlain (b ∷ rest)
    → param_step (([], r) ∷ []) (b ∷ rest) ≡ (length (b ∷ rest), ([], r) ∷ [])
unfolding param_step
param_last r b rest plain = rw (no_slash (b ∷ rest) plain)

pub seek-last : {K : Type 0} (r : K) (b : ℕ) (rest : List ℕ) → IsPlain (b ∷ rest)
    → seek 0 ((256 ∷ [], r) ∷ []) (b ∷ rest) ≡ Some r
unfolding seek
seek-last {K} r b rest plain =
    let other : eqb 256 b ≡ false = ne_eqb 256 b (λ e. omega (arith, plain.0)) in
    let skipped : seek (length rest) (([], r) ∷ []) (rest ++ []) ≡ Some r =
    seek-skip (([], r) ∷ []) rest [] in
    let whole : seek (length rest) (([], r) ∷ []) rest ≡ Some r = rw append-nil at skipped in
    let pred : length (b ∷ rest) - 1 ≡ length rest = omega arith in
    rw (other, seek-nil {K = K} 0 rest, param_last r b rest plain, pred, whole)
