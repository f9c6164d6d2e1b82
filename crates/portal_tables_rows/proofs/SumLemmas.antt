-- Sums over the redemptions so far, with one redemption more.
use Rattle.portal_tables_rows.proofs.Common.{◌≡◌, inl, inr, ℕ, ◌+◌, ◌^◌, ◌<◌, ◌≤◌, length-take, Bool, true}
use Rattle.portal_tables_rows.proofs.Common.{false, cond, List, [], ◌∷◌, ◌++◌, map, filter, take, drop}
use Rattle.portal_tables_rows.proofs.Common.{length, get_or, Option, Some, unwrap_or, count_by, sum_by, refl}
use Rattle.portal_tables_rows.proofs.Common.{sym, ap, ap₂, ◌∙◌, arith, zero-add, add-zero, bytes_eq, nat_eq}
use Rattle.portal_tables_rows.proofs.Common.{cases_Bool, eqb-true, Decides-eqb, length-map, map-append}
use Rattle.portal_tables_rows.proofs.Common.{take-append-drop, filter-append, bytes_eq-Decides, Row, columns}
use Rattle.portal_tables_rows.proofs.Common.{IsCode, text_of, GrantRow, GrantValue, IsKeptSum, grant_read}
use Rattle.portal_tables_rows.proofs.Common.{given_to, nothing_given, Given}
use Rattle.portal_tables_rows.proofs.Compose.{more_mapped}
use Rattle.std.proofs.lemmas.List.Sums.{sum_by_push, sum_by-append, count_by-le-length}
use Rattle.portal_tables_rows.proofs.SameCode.{code_test}

-- how many of the redemptions so far have the code
abbrev pub uses_so_far : List GrantValue → ℕ → List ℕ → ℕ
uses_so_far grants i code = count_by (λ (g : GrantRow). bytes_eq g.code code) (map grant_read (take i grants))

pub uses_more : (grants : List GrantValue) (i : ℕ) (g : GrantValue) (code : List ℕ)
    → i < length grants → g ≡ get_or grants i g
    → uses_so_far grants (i + 1) code ≡ uses_so_far grants i code + cond (bytes_eq (text_of g.code) code) 1 0
uses_more grants i g code within is =
    let count : List GrantRow → ℕ = count_by (λ (x : GrantRow). bytes_eq x.code code) in
    ap count (more_mapped grant_read grants i g within is)
    ∙ sum_by_push (λ (x : GrantRow). cond (bytes_eq x.code code) 1 0)
    (map grant_read (take i grants)) (grant_read g)

pub uses_few : (grants : List GrantValue) (i : ℕ) (code : List ℕ) → uses_so_far grants i code ≤ i
uses_few grants i code = omega (
  arith,
  count_by-le-length (λ (g : GrantRow). bytes_eq g.code code) (map grant_read (take i grants)),
  (simp (length-map, length-take) at
      (count_by-le-length (λ (g : GrantRow). bytes_eq g.code code) (map grant_read (take i grants)))),
)

-- one more at its own code, and the same at each other
pub uses_step : (grants : List GrantValue) (i : ℕ) (g : GrantValue) → IsCode g.code
    → i < length grants → g ≡ get_or grants i g
    → (before : ℕ) (old new : List ℕ → Option ℕ)
    → ((code : List ℕ) → IsCode code → unwrap_or (old code) 0 ≡ uses_so_far grants i (text_of code))
    → before ≡ unwrap_or (old g.code) 0
    → ((code : List ℕ) → new code ≡ cond (bytes_eq g.code code) (Some (before + 1)) (old code))
    → (code : List ℕ) → IsCode code → unwrap_or (new code) 0 ≡ uses_so_far grants (i + 1) (text_of code)
uses_step grants i g own within is before old new so_far was now code is_code =
    let text = text_of code in
    let test : bytes_eq (text_of g.code) text ≡ bytes_eq g.code code = code_test g.code code own is_code in
    elim (cases_Bool (bytes_eq g.code code)) [
      | inl on ↦
          let same : g.code ≡ code = (bytes_eq-Decides g.code code).0 on in
          let value : new code ≡ Some (before + 1) =
          now code ∙ ap (λ b. cond b (Some (before + 1)) (old code)) on in
          let more : uses_so_far grants (i + 1) text ≡ uses_so_far grants i text + 1 = uses_more grants i g
          text within is ∙ ap (λ b. uses_so_far grants i text + cond b 1 0) (test ∙ on) in
          let count : before ≡ uses_so_far grants i text =
          was ∙ so_far g.code own ∙ ap (λ c. uses_so_far grants i (text_of c)) same in
          ap (λ o. unwrap_or o 0) value ∙ ap (λ n. n + 1) count ∙ sym more
      | inr off ↦
          let value : new code ≡ old code = now code ∙ ap (λ b. cond b (Some (before + 1)) (old code)) off in
          let more : uses_so_far grants (i + 1) text ≡ uses_so_far grants i text + 0 = uses_more grants i g
          text within is ∙ ap (λ b. uses_so_far grants i text + cond b 1 0) (test ∙ off) in
          let less : uses_so_far grants (i + 1) text ≡ uses_so_far grants i text = omega arith in
          ap (λ o. unwrap_or o 0) value ∙ so_far code is_code ∙ sym less
    ]

-- ---- what a session was given

module _ (f : GrantRow → ℕ) (number : ℕ) where
  abbrev sum_so_far : List GrantValue → ℕ → ℕ
  sum_so_far grants i =
      sum_by f (filter (λ (g : GrantRow). nat_eq g.session number) (map grant_read (take i grants)))

  pub sum_more : (grants : List GrantValue) (i : ℕ) (g : GrantValue)
      → i < length grants → g ≡ get_or grants i g
      → sum_so_far grants (i + 1) ≡ sum_so_far grants i + cond (nat_eq g.session number) (f (grant_read g)) 0
  sum_more grants i g within is =
      let own : GrantRow → Bool = λ (x : GrantRow). nat_eq x.session number in
      let so_far : List GrantRow = map grant_read (take i grants) in
      let last : List GrantRow = cond (nat_eq g.session number) (grant_read g ∷ []) [] in
      let more : filter own (map grant_read (take (i + 1) grants)) ≡ filter own so_far ++ last =
      ap (filter own) (more_mapped grant_read grants i g within is)
      ∙ filter-append own so_far (grant_read g ∷ []) in
      ap (sum_by f) more ∙ sum_by-append f (filter own so_far) last
      ∙ ap (λ n. sum_by f (filter own so_far) + n) (one (nat_eq g.session number))
    where
      one : (b : Bool) → sum_by f (cond b (grant_read g ∷ []) []) ≡ cond b (f (grant_read g)) 0
      one true = zero-add (f (grant_read g))
      one false = refl

-- so far no more than in all
module _ (f : GrantRow → ℕ) (number : ℕ) where
  pub sum_few : (grants : List GrantValue) (i : ℕ) → sum_so_far f number grants i
      ≤ sum_by f (filter (λ (g : GrantRow). nat_eq g.session number) (map grant_read grants))
  sum_few grants i =
      let own : GrantRow → Bool = λ (x : GrantRow). nat_eq x.session number in
      let so_far = map grant_read (take i grants) in
      let rest = map grant_read (drop i grants) in
      let all : map grant_read grants ≡ so_far ++ rest = ap (map grant_read) (sym (take-append-drop i grants))
      ∙ map-append grant_read (take i grants) (drop i grants) in
      let sum : sum_by f (filter own (map grant_read grants))
      ≡ sum_by f (filter own so_far) + sum_by f (filter own rest) =
      ap (λ gs. sum_by f (filter own gs)) all ∙ ap (sum_by f) (filter-append own so_far rest)
      ∙ sum_by-append f (filter own so_far) (filter own rest) in
      omega (arith, sum)

abbrev pub given_so_far : List GrantValue → ℕ → ℕ → Given
given_so_far grants i number = given_to (map grant_read (take i grants)) number

abbrev pub given_more : Given → GrantValue → Given
given_more sum g = record { seconds = sum.seconds + g.seconds; bytes = sum.bytes + g.bytes }

given_then : (grants : List GrantValue) (i : ℕ) (g : GrantValue) (number : ℕ) → i < length grants
    → g ≡ get_or grants i g → given_so_far grants (i + 1) number ≡ cond (nat_eq g.session number)
    (given_more (given_so_far grants i number) g) (given_so_far grants i number)
given_then grants i g number within is =
    let seconds = sum_more (λ x. x.seconds) number grants i g within is in
    let bytes = sum_more (λ x. x.bytes) number grants i g within is in
    go (nat_eq g.session number) seconds bytes
  where
    so_far : Given
    so_far = given_so_far grants i number

    next : Given
    next = given_so_far grants (i + 1) number

    go : (b : Bool) → next.seconds ≡ so_far.seconds + cond b g.seconds 0
        → next.bytes ≡ so_far.bytes + cond b g.bytes 0 → next ≡ cond b (given_more so_far g) so_far
    go true s b = λ k. record { seconds = s k; bytes = b k }
    go false s b = λ k. record {
      seconds = (s ∙ add-zero so_far.seconds) k;
      bytes = (b ∙ add-zero so_far.bytes) k;
    }

-- one more at its own session, and the same at each other
pub given_step : (grants : List GrantValue) (i : ℕ) (g : GrantValue)
    → i < length grants → g ≡ get_or grants i g
    → (before : Given) (old new : ℕ → Option Given)
    → ((number : ℕ) → unwrap_or (old number) nothing_given ≡ given_so_far grants i number)
    → before ≡ unwrap_or (old g.session) nothing_given
    → ((number : ℕ) → new number ≡ cond (nat_eq g.session number) (Some (given_more before g)) (old number))
    → (number : ℕ) → unwrap_or (new number) nothing_given ≡ given_so_far grants (i + 1) number
given_step grants i g within is before old new so_far was now number =
    elim (cases_Bool (nat_eq g.session number)) [
      | inl on ↦
          let same : g.session ≡ number = eqb-true g.session number on in
          let value : new number ≡ Some (given_more before g) =
          now number ∙ ap (λ b. cond b (Some (given_more before g)) (old number)) on in
          let more : given_so_far grants (i + 1) number ≡ given_more (given_so_far grants i number) g =
          given_then grants i g number within is ∙ ap
          (λ b. cond b (given_more (given_so_far grants i number) g) (given_so_far grants i number)) on in
          let sum : before ≡ given_so_far grants i number =
          was ∙ so_far g.session ∙ ap (given_so_far grants i) same in
          ap (λ o. unwrap_or o nothing_given) value ∙ ap (λ s. given_more s g) sum ∙ sym more
      | inr off ↦
          let value : new number ≡ old number =
          now number ∙ ap (λ b. cond b (Some (given_more before g)) (old number)) off in
          let more : given_so_far grants (i + 1) number ≡ given_so_far grants i number =
          given_then grants i g number within is ∙ ap
          (λ b. cond b (given_more (given_so_far grants i number) g) (given_so_far grants i number)) off in
          ap (λ o. unwrap_or o nothing_given) value ∙ so_far number ∙ sym more
    ]

-- ---- lists made in a loop

pub map_exact : {X Y : Type 0} (f : X → Y) → ((a b : X) → f a ≡ f b → a ≡ b) → (xs ys : List X)
    → map f xs ≡ map f ys → xs ≡ ys
map_exact f exact [] [] e = refl
map_exact f exact [] (y ∷ ys) e = cc
map_exact f exact (x ∷ xs) [] e = cc
map_exact f exact (x ∷ xs) (y ∷ ys) e =
    let first : f x ≡ f y = cc in
    let rest : map f xs ≡ map f ys = cc in
    ap₂ ◌∷◌ (exact x y first) (map_exact f exact xs ys rest)

map_same : {X : Type 0} (f : X → X) → {P : Type 0} (g : P → X) → ((p : P) → f (g p) ≡ g p) → (ps : List P)
    → map f (map g ps) ≡ map g ps
map_same f g each [] = refl
map_same f g each (p ∷ ps) = ap₂ ◌∷◌ (each p) (map_same f g each ps)

-- values of which the cells are the rows' columns are the values of the table
pub rows_exact : {P : Type 0} (cells : P → Row) (n : ℕ) → ((p : P) → columns n (cells p) ≡ cells p)
    → ((a b : P) → cells a ≡ cells b → a ≡ b)
    → (read ps : List P) (rows : List Row) → map cells read ≡ map (columns n) rows
    → rows ≡ map cells ps → read ≡ ps
rows_exact cells n each exact read ps rows as_read held =
    map_exact cells exact read ps (as_read ∙ ap (map (columns n)) held ∙ map_same (columns n) cells each ps)

-- ---- sums that fit

-- if what is given in total fits, so does what was given so far, with one redemption more
pub given_kept : (grants : List GrantValue) (i : ℕ) (g : GrantValue) (before : Given)
    → i < length grants → g ≡ get_or grants i g → before ≡ given_so_far grants i g.session
    → ((number : ℕ) → IsKeptSum (given_to (map grant_read grants) number))
    → (before.seconds + g.seconds < 2 ^ 63) × (before.bytes + g.bytes < 2 ^ 63)
given_kept grants i g before within is so_far fits =
    let next : given_so_far grants (i + 1) g.session ≡ given_more (given_so_far grants i g.session) g =
    given_then grants i g g.session within is
    ∙ ap (λ b. cond b (given_more (given_so_far grants i g.session) g) (given_so_far grants i g.session))
    ((Decides-eqb g.session g.session).1 refl) in
    let seconds : before.seconds + g.seconds ≡ (given_so_far grants (i + 1) g.session).seconds =
    ap (λ (x : Given). x.seconds + g.seconds) so_far ∙ sym (ap (λ (x : Given). x.seconds) next) in
    let bytes : before.bytes + g.bytes ≡ (given_so_far grants (i + 1) g.session).bytes =
    ap (λ (x : Given). x.bytes + g.bytes) so_far ∙ sym (ap (λ (x : Given). x.bytes) next) in (
      omega (arith, seconds, sum_few (λ x. x.seconds) g.session grants (i + 1), (fits g.session).0),
      omega (arith, bytes, sum_few (λ x. x.bytes) g.session grants (i + 1), (fits g.session).1),
    )
