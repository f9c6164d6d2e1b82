-- A router finds only routes whose pattern the path has.
use Rattle.portal_http_routes.proofs.Common.{◌≡◌, ℕ, zero, suc, ◌-◌, ◌<◌, ◌≤◌, ◌⊎◌, inl, inr, Bool, true}
use Rattle.portal_http_routes.proofs.Common.{false, cond, ltb, ◌==◌, nat_eq, ◌&&◌, take, drop, List, [], ◌∷◌}
use Rattle.portal_http_routes.proofs.Common.{◌++◌, length, Option, Some, None, refl, sym, ap, ◌∙◌, subst}
use Rattle.portal_http_routes.proofs.Common.{arith, nat_lt, All, list_all, ends_with, eqb-true, ltb-true}
use Rattle.portal_http_routes.proofs.Common.{eqb_tells, take-append-drop, take_all, RowsOf, own, step}
use Rattle.portal_http_routes.proofs.Common.{segment, has_slash, or_else, better, cuts, longest_from}
use Rattle.portal_http_routes.proofs.Common.{longest_suffix, with_suffix, same_text, IsPlain, IsSegment}
use Rattle.std.proofs.lemmas.List.Elements.{All-head, All-tail}
use Rattle.matchit.specs.Seek.{seek, param_step}
use Rattle.portal_http_routes.proofs.SeekLemmas.{seek-nil}

-- the path has the pattern: bytes for bytes, and a segment for a parameter
abbrev pub Matches : List ℕ → List ℕ → Type 0
Matches [] path = path ≡ []
Matches (t ∷ pattern) path =
    ((rest : List ℕ) × (t < 256) × (path ≡ t ∷ rest) × Matches pattern rest)
    ⊎ (((word : List ℕ) × (rest : List ℕ) × (t ≡ 256) × IsSegment word
    × (path ≡ word ++ rest) × Matches pattern rest)
    ⊎ (t ≡ 257))

-- one of the rows has the key, and the path has its pattern
abbrev pub Found : {K : Type 0} → RowsOf K → K → List ℕ → Type 0
Found [] key path = ⊥
Found ((pattern, k) ∷ rest) key path = ((k ≡ key) × Matches pattern path) ⊎ Found rest key path

abbrev Bytes : List ℕ → Type 0
Bytes path = All (λ b. b < 256) path

both : (a b : Bool) → (a && b) ≡ true → (a ≡ true) × (b ≡ true)
both true b h = (refl, h)
both false b h = absurd (cc)

some_same : {K : Type 0} (a b : K) → Some a ≡ Some b → a ≡ b
some_same a b h = cc

found-own : {K : Type 0} (rows : RowsOf K) (key : K) → own rows ≡ Some key → Found rows key []
found-own [] key h = absurd (cc)
found-own (([], k) ∷ rest) key h = inl (some_same k key h, refl)
found-own ((x ∷ t, k) ∷ rest) key h = inr (found-own rest key h)

-- a row whose pattern goes on with a token
found-step : {K : Type 0} (token : ℕ) (front path : List ℕ)
    → ((t : List ℕ) → Matches t path → Matches (token ∷ t) (front ++ path))
    → (rows : RowsOf K) (key : K) → Found (step token rows) key path → Found rows key (front ++ path)
found-step token front path on [] key h = absurd h
found-step token front path on (([], k) ∷ rest) key h = inr (found-step token front path on rest key h)
found-step {K} token front path on ((x ∷ t, k) ∷ rest) key h =
    at (found-step token front path on rest key) (x == token) refl h
  where
    at : (Found (step token rest) key path → Found rest key (front ++ path))
        → (same : Bool) → (x == token) ≡ same
        → Found (cond same ((t, k) ∷ step token rest) (step token rest)) key path
        → Found ((x ∷ t, k) ∷ rest) key (front ++ path)
    at later true e (inl m) =
        inl (m.0, subst (λ (y : ℕ). Matches (y ∷ t) (front ++ path)) (sym (eqb-true x token e)) (on t m.1))
    at later true e (inr m) = inr (later m)
    at later false e m = inr (later m)

found-catch : {K : Type 0} (rows : RowsOf K) (key : K) (path : List ℕ)
    → own (step 257 rows) ≡ Some key → Found rows key path
found-catch [] key path h = absurd (cc)
found-catch (([], k) ∷ rest) key path h = inr (found-catch rest key path h)
found-catch ((x ∷ [], k) ∷ rest) key path h =
    at (found-catch rest key path) (x == 257) refl h
  where
    at : (own (step 257 rest) ≡ Some key → Found rest key path) → (same : Bool) → (x == 257) ≡ same
        → own (cond same (([], k) ∷ step 257 rest) (step 257 rest)) ≡ Some key
        → Found ((x ∷ [], k) ∷ rest) key path
    at later true e m = inl (some_same k key m, inr (inr (eqb-true x 257 e)))
    at later false e m = inr (later m)
found-catch ((x ∷ y ∷ t, k) ∷ rest) key path h =
    at (found-catch rest key path) (x == 257) h
  where
    at : (own (step 257 rest) ≡ Some key → Found rest key path) → (same : Bool)
        → own (cond same ((y ∷ t, k) ∷ step 257 rest) (step 257 rest)) ≡ Some key
        → Found ((x ∷ y ∷ t, k) ∷ rest) key path
    at later true m = inr (later m)
    at later false m = inr (later m)

found-with : {K : Type 0} (suffix : List ℕ) (rows : RowsOf K) (key : K) (path : List ℕ)
    → Found (with_suffix suffix rows) key path → Found rows key path
found-with suffix [] key path h = absurd h
found-with suffix ((t, k) ∷ rest) key path h =
    at (found-with suffix rest key path) (same_text (segment t) suffix) h
  where
    at : (Found (with_suffix suffix rest) key path → Found rest key path) → (same : Bool)
        → Found (cond same ((t, k) ∷ with_suffix suffix rest) (with_suffix suffix rest)) key path
        → Found ((t, k) ∷ rest) key path
    at later true (inl m) = inl m
    at later true (inr m) = inr (later m)
    at later false m = inr (later m)

-- the longest suffix is none, or shorter than the segment
abbrev IsShort : List ℕ → List ℕ → Type 0
IsShort seg suffix = 0 < length suffix → length suffix < length seg

better_short : (seg best suffix : List ℕ) → IsShort seg best → IsShort seg (better seg best suffix)
better_short seg best suffix h =
    at (ltb (length best) (length suffix) && cuts seg suffix) refl
  where
    at : (b : Bool) → (ltb (length best) (length suffix) && cuts seg suffix) ≡ b
        → IsShort seg (cond b suffix best)
    at true e = λ _. ltb-true (length suffix) (length seg)
        (both (ltb (length suffix) (length seg)) (ends_with nat_eq seg suffix)
        (both (ltb (length best) (length suffix)) (cuts seg suffix) e).1).0
    at false e = h

longest_short : {K : Type 0} (seg best : List ℕ) (rows : RowsOf K) → IsShort seg best
    → IsShort seg (longest_from seg best rows)
longest_short seg best [] h = h
longest_short seg best ((t, k) ∷ rest) h =
    longest_short seg (better seg best (segment t)) rest (better_short seg best (segment t) h)

-- the bytes before the end of a segment have no slash
segment_front : (path : List ℕ) (n : ℕ) → Bytes path → n < length (segment path) → IsPlain (take n path)
segment_front path zero bytes h = tt
segment_front [] (suc n) bytes h = absurd (omega arith)
segment_front (b ∷ rest) (suc n) bytes h =
    elim (eqb_tells b 47) [
      | inl e ↦ absurd (subst (λ (t : Bool). suc n < length (cond t (b ∷ []) (b ∷ segment rest)) → ⊥)
          (sym e.0) (λ x. omega arith) h)
      | inr e ↦ (
        All-head (λ x. x < 256) b rest bytes,
        e.1,
        segment_front rest n (All-tail (λ x. x < 256) b rest bytes)
            (subst (λ (t : Bool). suc n < length (cond t (b ∷ []) (b ∷ segment rest))
            → n < length (segment rest)) (sym e.0) (λ x. omega arith) h),
      )
    ]

segment_within : (path : List ℕ) → length (segment path) ≤ length path
segment_within [] = omega arith
segment_within (b ∷ rest) =
    at (segment_within rest) (b == 47)
  where
    at : length (segment rest) ≤ length rest → (t : Bool)
        → length (cond t (b ∷ []) (b ∷ segment rest)) ≤ length (b ∷ rest)
    at h true = omega arith
    at h false = omega arith

no_slash_plain : (path : List ℕ) → Bytes path → has_slash path ≡ false → IsPlain path
no_slash_plain [] bytes h = tt
no_slash_plain (b ∷ rest) bytes h =
    elim (eqb_tells b 47) [
      | inl e ↦ absurd (subst (λ (t : Bool). cond t true (has_slash rest) ≡ false → ⊥) (sym e.0) (λ x. cc) h)
      | inr e ↦ (
        All-head (λ x. x < 256) b rest bytes,
        e.1,
        no_slash_plain rest (All-tail (λ x. x < 256) b rest bytes)
            (subst (λ (t : Bool). cond t true (has_slash rest) ≡ false → has_slash rest ≡ false) (sym e.0)
            (λ x. x) h),
      )
    ]

-- where a parameter takes bytes, they are a segment, and the search goes on among the same rows
abbrev Takes : {K : Type 0} → RowsOf K → List ℕ → ℕ × RowsOf K → Type 0
Takes {K} rows path p =
    (p.1 ≡ [])
    ⊎ ((1 ≤ p.0) × (p.0 ≤ length path) × IsPlain (take p.0 path)
    × ((key : K) (rest : List ℕ) → Found p.1 key rest → Found rows key rest))

takes : {K : Type 0} (rows : RowsOf K) (b : ℕ) (path : List ℕ) → Bytes (b ∷ path)
    → Takes rows (b ∷ path) (param_step rows (b ∷ path))
unfolding param_step
takes {K} rows b path bytes =
    at (ltb 0 (length suffix)) refl (has_slash whole) refl
  where
    whole : List ℕ
    whole = b ∷ path

    seg : List ℕ
    seg = segment whole

    suffix : List ℕ
    suffix = longest_suffix seg rows

    at : (t : Bool) → ltb 0 (length suffix) ≡ t → (s : Bool) → has_slash whole ≡ s
        → Takes rows whole
        (cond t (length seg - length suffix, with_suffix suffix rows) (cond s (0, []) (length whole, rows)))
    at true e s d =
        let some : 0 < length suffix = ltb-true 0 (length suffix) e in
        let short : length suffix < length seg = longest_short seg [] rows (λ h. absurd (omega arith)) some in
        let within : length seg ≤ length whole = segment_within whole in
        inr (
          omega arith,
          omega arith,
          segment_front whole (length seg - length suffix) bytes (omega arith),
          λ key rest h. found-with suffix rows key rest h,
        )
    at false e true d = inl refl
    at false e false d =
        inr (
          omega arith,
          omega arith,
          subst IsPlain (sym (take_all (length whole) whole (omega arith))) (no_slash_plain whole bytes d),
          λ key rest h. h,
        )

or_cases : {K : Type 0} (x y : Option K) (key : K) → or_else x y ≡ Some key → (x ≡ Some key) ⊎ (y ≡ Some key)
or_cases None y key h = inr h
or_cases (Some k) y key h = inl h

-- what the search finds is a row whose pattern the path has
pub seek-sound : {K : Type 0} (n : ℕ) (rows : RowsOf K) (path : List ℕ) (key : K)
    → Bytes path → n ≤ length path
    → seek n rows path ≡ Some key → Found rows key (drop n path)
unfolding seek
seek-sound zero rows [] key bytes h e = found-own rows key e
seek-sound (suc n) rows [] key bytes h e = absurd (omega arith)
seek-sound (suc n) rows (b ∷ path) key bytes h e =
    seek-sound n rows path key (All-tail (λ x. x < 256) b path bytes) (omega arith) e
seek-sound {K} zero rows (b ∷ path) key bytes h e =
    elim (or_cases by_byte (or_else by_parameter by_rest) key e) [
      | inl found ↦ found-step b (b ∷ []) path (λ t m. inl (path, head, refl, m)) rows key
          (seek-sound 0 (step b rows) path key tail (omega arith) found)
      | inr later ↦ elim (or_cases by_parameter by_rest key later) [
        | inl found ↦ parameter (λ m rs within there. seek-sound m rs path key tail within there) found
            (takes (step 256 rows) b path bytes)
        | inr found ↦ found-catch rows key (b ∷ path) found
      ]
    ]
  where
    head : b < 256
    head = All-head (λ x. x < 256) b path bytes

    tail : Bytes path
    tail = All-tail (λ x. x < 256) b path bytes

    taken : ℕ × RowsOf K
    taken = param_step (step 256 rows) (b ∷ path)

    by_byte : Option K
    by_byte = seek 0 (step b rows) path

    by_parameter : Option K
    by_parameter = seek (taken.0 - 1) taken.1 path

    by_rest : Option K
    by_rest = own (step 257 rows)

    parameter : ((m : ℕ) (rs : RowsOf K) → m ≤ length path → seek m rs path ≡ Some key
        → Found rs key (drop m path))
        → by_parameter ≡ Some key → Takes (step 256 rows) (b ∷ path) taken → Found rows key (b ∷ path)
    parameter again found (inl nothing) =
        let none : by_parameter ≡ None =
        ap (λ (rs : RowsOf K). seek (taken.0 - 1) rs path) nothing ∙ seek-nil {K = K} (taken.0 - 1) path in
        absurd (cc)
    parameter again found (inr more) =
        let m = taken.0 - 1 in
        let one : taken.0 ≡ suc m = omega arith in
        let word : IsSegment (b ∷ take m path) = subst (λ (n : ℕ). IsPlain (take n (b ∷ path))) one more.2 in
        let within : m ≤ length path = omega arith in
        subst (λ (l : List ℕ). Found rows key (b ∷ l)) (take-append-drop m path)
        (found-step 256 (b ∷ take m path) (drop m path)
        (λ t h. inr (inl (b ∷ take m path, drop m path, refl, word, refl, h))) rows key
        (more.3 key (drop m path) (again m taken.1 within found)))

-- the path of a pattern with no parameter
pub literal-whole : (front path : List ℕ) → list_all (λ b. nat_lt b 256) front ≡ true
    → Matches front path → path ≡ front
literal-whole [] path h m = m
literal-whole (b ∷ front) path h (inl m) =
    m.2 ∙ ap (λ (l : List ℕ). b ∷ l)
    (literal-whole front m.0 (both (nat_lt b 256) (list_all (λ x. nat_lt x 256) front) h).1 m.3)
literal-whole (b ∷ front) path h (inr (inl m)) =
    let lower : b < 256 = ltb-true b 256 (both (nat_lt b 256) (list_all (λ x. nat_lt x 256) front) h).0 in
    let same = m.2 in
    absurd (omega arith)
literal-whole (b ∷ front) path h (inr (inr m)) =
    let lower : b < 256 = ltb-true b 256 (both (nat_lt b 256) (list_all (λ x. nat_lt x 256) front) h).0 in
    absurd (omega arith)

-- what is left of the path behind the bytes that a pattern begins with
pub literal-front : (front pattern path : List ℕ) → list_all (λ b. nat_lt b 256) front ≡ true
    → Matches (front ++ pattern) path
    → (rest : List ℕ) × (path ≡ front ++ rest) × Matches pattern rest
literal-front [] pattern path h m = (path, refl, m)
literal-front (b ∷ front) pattern path h (inl m) =
    let later =
    literal-front front pattern m.0 (both (nat_lt b 256) (list_all (λ x. nat_lt x 256) front) h).1 m.3 in
    (later.0, m.2 ∙ ap (λ (l : List ℕ). b ∷ l) later.1, later.2)
literal-front (b ∷ front) pattern path h (inr (inl m)) =
    let lower : b < 256 = ltb-true b 256 (both (nat_lt b 256) (list_all (λ x. nat_lt x 256) front) h).0 in
    let same = m.2 in
    absurd (omega arith)
literal-front (b ∷ front) pattern path h (inr (inr m)) =
    let lower : b < 256 = ltb-true b 256 (both (nat_lt b 256) (list_all (λ x. nat_lt x 256) front) h).0 in
    absurd (omega arith)

-- the segment in the place of a parameter, and the bytes after it
pub path_parameter-then : (tail path : List ℕ) → list_all (λ b. nat_lt b 256) tail ≡ true
    → Matches (256 ∷ tail) path
    → (word : List ℕ) × IsSegment word × (path ≡ word ++ tail)
path_parameter-then tail path h (inl m) = absurd (omega (arith, m.1))
path_parameter-then tail path h (inr (inl m)) =
    (m.0, m.3, m.4 ∙ ap (λ (l : List ℕ). m.0 ++ l) (literal-whole tail m.1 h m.5))
path_parameter-then tail path h (inr (inr m)) = absurd (omega (arith, m))
