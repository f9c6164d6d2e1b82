-- The values of a name, field by field.
use Rattle.portal_http_message.proofs.Common.{◌≡◌, ℕ, ◌+◌, ◌<◌, ◌≤◌, Bool, true, false, cond, List, [], ◌∷◌}
use Rattle.portal_http_message.proofs.Common.{◌++◌, length, get_or, drop, map, refl, sym, ap, ◌∙◌}
use Rattle.portal_http_message.proofs.Common.{append_assoc, append-nil, subst, filter, at_drop_more}
use Rattle.portal_http_message.proofs.Common.{at_drop_all, HeaderSpan, span_bytes, header_bytes, IsOccurrence}
use Rattle.std.specs.Borrow.{Bor}
use Rattle.portal_http_message.specs.declared.fields.Occurrence.{Occurrence}
use Rattle.portal_http_message.specs.declared.fields.Occurrence.TheVariants.{Absent, Once, Repeated}
use Rattle.portal_http_message.specs.Fields.{is_same_name, values_of}

-- a span of nothing, where a list has no field
abbrev pub no_field : HeaderSpan
no_field = record { name = record { start = 0; end = 0 }; value = record { start = 0; end = 0 } }

-- the values that the fields at these spans have under the name
abbrev pub values_at : List ℕ → List ℕ → List HeaderSpan → List (List ℕ)
values_at name bytes spans = values_of name (map (header_bytes bytes) spans)

-- the field in front, if it is picked, and those behind it
picked : (b : Bool) (x : List ℕ × List ℕ) (rest : List (List ℕ × List ℕ))
    → map (λ f. f.1) (cond b (x ∷ rest) rest) ≡ cond b (x.1 ∷ map (λ f. f.1) rest) (map (λ f. f.1) rest)
picked true x rest = refl
picked false x rest = refl

-- the field in front has the name, or not
step : (name bytes : List ℕ) (x : HeaderSpan) (rest : List HeaderSpan)
    → values_at name bytes (x ∷ rest)
    ≡ cond (is_same_name (span_bytes bytes x.name) name)
    (span_bytes bytes x.value ∷ values_at name bytes rest) (values_at name bytes rest)
unfolding values_of
step name bytes x rest =
    picked (is_same_name (span_bytes bytes x.name) name) (header_bytes bytes x)
    (filter (λ f. is_same_name f.0 name) (map (header_bytes bytes) rest))

-- the same at an index
step_at : (name bytes : List ℕ) (spans : List HeaderSpan) (i : ℕ) (b : Bool) → i < length spans
    → is_same_name (span_bytes bytes (get_or spans i no_field).name) name ≡ b
    → values_at name bytes (drop i spans)
    ≡ cond b (span_bytes bytes (get_or spans i no_field).value ∷ values_at name bytes (drop (i + 1) spans))
    (values_at name bytes (drop (i + 1) spans))
step_at name bytes spans i b h e =
    at_drop_more (values_at name bytes) spans i no_field h
    ∙ step name bytes (get_or spans i no_field) (drop (i + 1) spans)
    ∙ ap (λ (t : Bool). cond t (span_bytes bytes (get_or spans i no_field).value
    ∷ values_at name bytes (drop (i + 1) spans)) (values_at name bytes (drop (i + 1) spans))) e

-- a field of the name moves from the values that are left to those that were seen
pub named_at : (name bytes : List ℕ) (spans : List HeaderSpan) (i : ℕ) (seen all : List (List ℕ))
    → i < length spans
    → is_same_name (span_bytes bytes (get_or spans i no_field).name) name ≡ true
    → seen ++ values_at name bytes (drop i spans) ≡ all
    → (seen ++ span_bytes bytes (get_or spans i no_field).value ∷ [])
    ++ values_at name bytes (drop (i + 1) spans) ≡ all
named_at name bytes spans i seen all h e total =
    append_assoc seen (span_bytes bytes (get_or spans i no_field).value ∷ [])
    (values_at name bytes (drop (i + 1) spans))
    ∙ ap (λ (l : List (List ℕ)). seen ++ l) (sym (step_at name bytes spans i true h e)) ∙ total

-- a field of another name leaves both as they are
pub other_at : (name bytes : List ℕ) (spans : List HeaderSpan) (i : ℕ) (seen all : List (List ℕ))
    → i < length spans
    → is_same_name (span_bytes bytes (get_or spans i no_field).name) name ≡ false
    → seen ++ values_at name bytes (drop i spans) ≡ all
    → seen ++ values_at name bytes (drop (i + 1) spans) ≡ all
other_at name bytes spans i seen all h e total =
    ap (λ (l : List (List ℕ)). seen ++ l) (sym (step_at name bytes spans i false h e)) ∙ total

-- past the last field all values were seen
pub none_left : (name bytes : List ℕ) (spans : List HeaderSpan) (i : ℕ) (seen all : List (List ℕ))
    → length spans ≤ i
    → seen ++ values_at name bytes (drop i spans) ≡ all → seen ≡ all
unfolding values_of
none_left name bytes spans i seen all h total =
    sym (append-nil seen)
    ∙ sym (ap (λ (l : List (List ℕ)). seen ++ l) (at_drop_all (values_at name bytes) spans i h)) ∙ total

-- the first value
pub once : (seen : List (List ℕ)) (value : Bor (List ℕ)) (v : List ℕ) (found : Occurrence)
    → IsOccurrence seen found → found ≡ Absent
    → value.now ≡ v → IsOccurrence (seen ++ v ∷ []) (Once value)
once seen value v found was absent e =
    let none = subst (IsOccurrence seen) absent was in
    ap (λ (l : List (List ℕ)). l ++ v ∷ []) none ∙ ap (λ (l : List ℕ). l ∷ []) (sym e)

-- one value more
pub again : (seen : List (List ℕ)) (v : List ℕ) (found : Occurrence)
    → IsOccurrence seen found → (found ≡ Absent → ⊥)
    → IsOccurrence (seen ++ v ∷ []) Repeated
again seen v Absent was some = absurd (some refl)
again seen v (Once value) was some = (value.now, v, [], ap (λ (l : List (List ℕ)). l ++ v ∷ []) was)
again seen v Repeated was some =
    (was.0, was.1, was.2 ++ v ∷ [], ap (λ (l : List (List ℕ)). l ++ v ∷ []) was.3)
