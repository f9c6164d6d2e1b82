-- A head with too many fields has many lines.
use Rattle.portal_http_message.proofs.Common.{◌≡◌, ◌⊎◌, ℕ, ◌+◌, ◌≤◌, Bool, true, false, cond, ◌||◌, ◌==◌}
use Rattle.portal_http_message.proofs.Common.{List, [], ◌∷◌, ◌++◌, length, refl, sym, ap, ◌∙◌, subst, inl}
use Rattle.portal_http_message.proofs.Common.{inr, arith, lit≤, append-nil, append_assoc, suc, All, codes}
use Rattle.portal_http_message.proofs.Common.{drop, take, false≢true, count_by, flat_map, eqb_tells}
use Rattle.portal_http_message.proofs.Common.{leb_tells, length-append, take-append-le, take-append-drop}
use Rattle.portal_http_message.proofs.Common.{take-append_seam, LineEnd, crlf, lf, print_end, print_blank}
use Rattle.portal_http_message.proofs.Common.{print_version, Field, print_field, print_section, IsToken}
use Rattle.portal_http_message.proofs.Common.{is_uri_byte, is_value_byte, IsField, RequestHead, IsRequestHead}
use Rattle.portal_http_message.proofs.Common.{ReadsRequest, RequestExceeds, print_request-append, field_limit}
use Rattle.portal_http_message.proofs.Common.{HasTooManyLines}
use Rattle.std.proofs.lemmas.List.Sums.{sum_by-append}
use Rattle.httparse.specs.Grammar.{is_token_byte, print_request}
use Rattle.portal_http_message.specs.Lines.{from_start}

-- the number of line feeds
abbrev feeds : List ℕ → ℕ
feeds xs = count_by (λ b. b == 10) xs

feeds-append : (xs ys : List ℕ) → feeds (xs ++ ys) ≡ feeds xs + feeds ys
feeds-append xs ys = sum_by-append (λ b. cond (b == 10) 1 0) xs ys

-- ---- from the start on

-- bytes that follow take no line feed away
more_feeds : (xs rest : List ℕ) → feeds (from_start xs) ≤ feeds (from_start (xs ++ rest))
unfolding from_start
more_feeds [] rest = omega arith
more_feeds (x ∷ xs) rest = by (x == 13 || x == 10) (more_feeds xs rest)
  where
    by : (b : Bool) → feeds (from_start xs) ≤ feeds (from_start (xs ++ rest))
        → feeds (cond b (from_start xs) (x ∷ xs))
        ≤ feeds (cond b (from_start (xs ++ rest)) (x ∷ (xs ++ rest)))
    by true h = h
    by false h = omega (arith, feeds-append (x ∷ xs) rest)

-- a line feed behind the bytes is at most one more
last_feed : (xs : List ℕ) → feeds (from_start (xs ++ 10 ∷ [])) ≤ feeds (from_start xs) + 1
unfolding from_start
last_feed [] = lit≤ tt
last_feed (x ∷ xs) = by (x == 13 || x == 10) (last_feed xs)
  where
    by : (b : Bool) → feeds (from_start (xs ++ 10 ∷ [])) ≤ feeds (from_start xs) + 1
        → feeds (cond b (from_start (xs ++ 10 ∷ [])) (x ∷ (xs ++ 10 ∷ [])))
        ≤ feeds (cond b (from_start xs) (x ∷ xs)) + 1
    by true h = h
    by false h = omega (arith, feeds-append (x ∷ xs) (10 ∷ []))

-- empty lines in front are passed over
after_blank : (ends : List LineEnd) (xs : List ℕ) → from_start (print_blank ends ++ xs) ≡ from_start xs
unfolding from_start
after_blank [] xs = refl
after_blank (crlf ∷ ends) xs = after_blank ends xs
after_blank (lf ∷ ends) xs = after_blank ends xs

-- a byte of a token ends no line
not_end : (b : ℕ) → is_token_byte b ≡ true → (b == 13 || b == 10) ≡ false
unfolding is_token_byte
not_end b token =
    elim (eqb_tells b 13) [
      | inl p ↦ absurd (false≢true (subst (λ (k : ℕ). is_token_byte k ≡ true) p.1 token))
      | inr p ↦ elim (eqb_tells b 10) [
        | inl q ↦ absurd (false≢true (subst (λ (k : ℕ). is_token_byte k ≡ true) q.1 token))
        | inr q ↦ rw (p.0, q.0)
      ]
    ]

-- a token starts the request line
at_token : (token rest : List ℕ) → IsToken token → from_start (token ++ rest) ≡ token ++ rest
unfolding from_start
at_token [] rest is = absurd (omega (arith, is.0))
at_token (b ∷ token) rest is = ap (λ (t : Bool). cond t (from_start (token ++ rest)) (b ∷ (token ++ rest)))
    (not_end b (is.1 0 b (omega arith)))

-- ---- the line feeds of a head

end_feed : (end : LineEnd) → feeds (print_end end) ≡ 1
end_feed crlf = refl
end_feed lf = refl

field_feed : (f : Field) → 1 ≤ feeds (print_field f)
field_feed f =
    omega (arith, feeds-append (f.name ++ 58 ∷ f.raw) (print_end f.end), end_feed f.end)

fields_feeds : (fields : List Field) → length fields ≤ feeds (flat_map print_field fields)
fields_feeds [] = omega arith
fields_feeds (f ∷ fields) = omega (
  arith,
  feeds-append (print_field f) (flat_map print_field fields),
  field_feed f,
  fields_feeds fields,
)

section_feeds : (fields : List Field) (last : LineEnd) → length fields + 1 ≤ feeds (print_section fields last)
section_feeds fields last = omega (
  arith,
  feeds-append (flat_map print_field fields) (print_end last),
  fields_feeds fields,
  end_feed last,
)

-- a head from its method on
abbrev line_of : RequestHead → List ℕ
line_of h =
    h.method ++ 32 ∷ (h.target ++ 32
    ∷ (print_version h.minor ++ (print_end h.line_end ++ (print_section h.fields h.last ++ []))))

starts_at_line : (h : RequestHead) → IsRequestHead h → from_start (print_request h) ≡ line_of h
starts_at_line h is =
    ap from_start (sym (append-nil (print_request h)) ∙ print_request-append h [])
    ∙ after_blank h.blank (line_of h)
    ∙ at_token h.method (32 ∷ (h.target ++ 32
    ∷ (print_version h.minor ++ (print_end h.line_end ++ (print_section h.fields h.last ++ []))))) is.method

-- the line feeds of its parts
line_feeds : (h : RequestHead) → feeds (line_of h)
    ≡ feeds h.method + feeds h.target + feeds (print_version h.minor) + 1
    + feeds (print_section h.fields h.last)
line_feeds h =
    let section = print_section h.fields h.last ++ [] in
    omega (
      arith,
      feeds-append h.method
          (32 ∷ (h.target ++ 32 ∷ (print_version h.minor ++ (print_end h.line_end ++ section)))),
      feeds-append (32 ∷ []) (h.target ++ 32 ∷ (print_version h.minor ++ (print_end h.line_end ++ section))),
      feeds-append h.target (32 ∷ (print_version h.minor ++ (print_end h.line_end ++ section))),
      feeds-append (32 ∷ []) (print_version h.minor ++ (print_end h.line_end ++ section)),
      feeds-append (print_version h.minor) (print_end h.line_end ++ section),
      feeds-append (print_end h.line_end) section,
      feeds-append (print_section h.fields h.last) [],
      end_feed h.line_end,
    )

-- each line of a head ends in one
head_feeds : (h : RequestHead) → IsRequestHead h → length h.fields + 2 ≤ feeds (from_start (print_request h))
head_feeds h is = omega (arith, ap feeds (starts_at_line h is), line_feeds h, section_feeds h.fields h.last)

-- where the parser finds more fields than a head may have, many lines have ended
pub exceeds : (buf : List ℕ) → RequestExceeds field_limit buf → HasTooManyLines buf
exceeds buf (front, rest, parts, h, reads, many) =
    let whole : front ++ 10 ∷ [] ≡ print_request h = reads.1 ∙ append-nil (print_request h) in
    let here : feeds (from_start buf) ≡ feeds (from_start (front ++ rest)) =
    ap (λ (l : List ℕ). feeds (from_start l)) parts in
    let there : feeds (from_start (front ++ 10 ∷ [])) ≡ feeds (from_start (print_request h)) =
    ap (λ (l : List ℕ). feeds (from_start l)) whole in
    omega (arith, here, there, head_feeds h reads.0, last_feed front, more_feeds front rest, many)

-- ---- no line feed but at the ends of lines

-- bytes of a class that has no line feed
quiet : (test : ℕ → Bool) → test 10 ≡ false → (xs : List ℕ) → All (λ b. test b ≡ true) xs → feeds xs ≡ 0
quiet test none [] all = refl
quiet test none (x ∷ xs) all =
    let rest : feeds xs ≡ 0 = quiet test none xs (λ k d h. all (suc k) d (omega arith)) in
    let here : (x == 10) ≡ false = elim (eqb_tells x 10) [
      | inl p ↦ absurd (false≢true (sym none ∙ ap test (sym p.1) ∙ all 0 x (omega arith)))
      | inr q ↦ q.0
    ] in
    omega (arith, feeds-append (x ∷ []) xs, ap {B = ℕ} (λ (b : Bool). cond b 1 0) here, rest)

quiet_version : (minor : ℕ) → feeds (print_version minor) ≡ 0
quiet_version minor =
    let far : (48 + minor == 10) ≡ false =
    elim (eqb_tells (48 + minor) 10) [ inl p ↦ absurd (omega (arith, p.1)) | inr q ↦ q.0 ] in
    omega
    (arith, feeds-append (codes "HTTP/1.") ((48 + minor) ∷ []), ap {B = ℕ} (λ (b : Bool). cond b 1 0) far)

field_one : (f : Field) → IsField f → feeds (print_field f) ≡ 1
unfolding is_token_byte
field_one f is =
    omega (
      arith,
      feeds-append (f.name ++ 58 ∷ f.raw) (print_end f.end),
      feeds-append f.name (58 ∷ f.raw),
      feeds-append (58 ∷ []) f.raw,
      quiet is_token_byte refl f.name is.name.1,
      quiet is_value_byte refl f.raw is.raw,
      end_feed f.end,
    )

fields_exactly : (fields : List Field) → All IsField fields
    → feeds (flat_map print_field fields) ≡ length fields
fields_exactly [] all = refl
fields_exactly (f ∷ fields) all =
    omega (
      arith,
      feeds-append (print_field f) (flat_map print_field fields),
      field_one f (all 0 f (omega arith)),
      fields_exactly fields (λ k d h. all (suc k) d (omega arith)),
    )

-- and there is no other
head_exactly : (h : RequestHead) → IsRequestHead h
    → feeds (from_start (print_request h)) ≡ length h.fields + 2
unfolding is_token_byte
head_exactly h is =
    omega (
      arith,
      ap feeds (starts_at_line h is),
      line_feeds h,
      quiet is_token_byte refl h.method is.method.1,
      quiet is_uri_byte refl h.target is.target.1,
      quiet_version h.minor,
      feeds-append (flat_map print_field h.fields) (print_end h.last),
      fields_exactly h.fields is.fields,
      end_feed h.last,
    )

-- a head ends in a line feed
ends_in_feed : (h : RequestHead) → (front : List ℕ) × (print_request h ≡ front ++ 10 ∷ [])
unfolding print_request
ends_in_feed h = by _ (flat_map print_field h.fields) h.last
  where
    by : (start lines : List ℕ) (end : LineEnd)
        → (front : List ℕ) × (start ++ (lines ++ print_end end) ≡ front ++ 10 ∷ [])
    by start lines crlf = (
      start ++ (lines ++ 13 ∷ []),
      sym (append_assoc start (lines ++ 13 ∷ []) (10 ∷ [])
          ∙ ap (λ (l : List ℕ). start ++ l) (append_assoc lines (13 ∷ []) (10 ∷ []))),
    )
    by start lines lf = (start ++ lines, sym (append_assoc start lines (10 ∷ [])))

-- a line feed after the bytes counts, unless nothing is before it
feed_counts : (xs : List ℕ)
    → (feeds (from_start xs) ≡ 0) ⊎ (feeds (from_start (xs ++ 10 ∷ [])) ≡ feeds (from_start xs) + 1)
unfolding from_start
feed_counts [] = inl refl
feed_counts (x ∷ xs) = by (x == 13 || x == 10) (feed_counts xs)
  where
    by : (b : Bool)
        → (feeds (from_start xs) ≡ 0) ⊎ (feeds (from_start (xs ++ 10 ∷ [])) ≡ feeds (from_start xs) + 1)
        → (feeds (cond b (from_start xs) (x ∷ xs)) ≡ 0)
        ⊎ (feeds (cond b (from_start (xs ++ 10 ∷ [])) (x ∷ (xs ++ 10 ∷ [])))
        ≡ feeds (cond b (from_start xs) (x ∷ xs)) + 1)
    by true h = h
    by false h = inr (omega (arith, feeds-append (x ∷ xs) (10 ∷ [])))

-- where many lines have ended and there is no head, no head with few fields can come
pub too_late : (bytes more : List ℕ) (head : RequestHead) (rest : List ℕ) → HasTooManyLines bytes
    → ReadsRequest (bytes ++ more) head rest → length head.fields ≤ field_limit
    → length (print_request head) ≤ length bytes
too_late bytes more head rest many reads few =
    let front = (ends_in_feed head).0 in
    let ends : print_request head ≡ front ++ 10 ∷ [] = (ends_in_feed head).1 in
    elim (leb_tells (length (print_request head)) (length bytes)) [
      | inl p ↦ p.1
      | inr q ↦
          let within : length bytes ≤ length front =
          omega (arith, q.1, ap length ends, length-append front (10 ∷ [])) in
          let parts : bytes ++ more ≡ front ++ (10 ∷ rest) =
          reads.1 ∙ ap (λ (l : List ℕ). l ++ rest) ends ∙ append_assoc front (10 ∷ []) rest in
          let start : bytes ≡ take (length bytes) front =
          sym (take-append_seam bytes more) ∙ ap (take (length bytes)) parts
          ∙ take-append-le (length bytes) front (10 ∷ rest) within in
          let grown : front ≡ bytes ++ drop (length bytes) front =
          sym (take-append-drop (length bytes) front)
          ∙ ap (λ (l : List ℕ). l ++ drop (length bytes) front) (sym start) in
          let count : feeds (from_start front) ≡ feeds (from_start (bytes ++ drop (length bytes) front)) =
          ap (λ (l : List ℕ). feeds (from_start l)) grown in
          let whole : feeds (from_start (front ++ 10 ∷ [])) ≡ length head.fields + 2 =
          ap (λ (l : List ℕ). feeds (from_start l)) (sym ends) ∙ head_exactly head reads.0 in
          elim (feed_counts front) [
            | inl none ↦
                absurd (omega (arith, none, count, more_feeds bytes (drop (length bytes) front), many))
            | inr one ↦
                absurd (omega (arith, one, whole, count, more_feeds bytes (drop (length bytes) front), many))
          ]
    ]
