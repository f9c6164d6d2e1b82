-- Where a head is in the bytes, and what the bytes then say.
use Rattle.portal_http_message.proofs.Common.{◌≡◌, ℕ, ◌-◌, ◌≤◌, List, [], ◌∷◌, ◌++◌, length, take, drop, map}
use Rattle.portal_http_message.proofs.Common.{Option, Some, Result, Ok, Err, codes, refl, sym, ap, ◌∙◌, subst}
use Rattle.portal_http_message.proofs.Common.{arith, All, IfOk, length-take, length-drop, length-append}
use Rattle.portal_http_message.proofs.Common.{length-map, drop-append-le, take-append-le, take-append-drop}
use Rattle.portal_http_message.proofs.Common.{HeaderSpan, RequestSpans, RequestHead, ReadsRequest}
use Rattle.portal_http_message.proofs.Common.{header_bytes, name_and_value, span_bytes, IsHeaderWithin}
use Rattle.portal_http_message.proofs.Common.{IsRequestAt, IsRequestWithin, IsWithin, ReadsRequest-append}
use Rattle.portal_http_message.proofs.Common.{body_limit, field_limit, head_limit, HeadError, FoundHead}
use Rattle.portal_http_message.proofs.Common.{IsFinding, IsHeadAt, HeadOf, Message, fields_of, length_of}
use Rattle.portal_http_message.proofs.Common.{bytes_after, body_after, message_with, message_in}
use Rattle.std.proofs.lemmas.List.Elements.{All-head, All-tail}
use Rattle.httparse.specs.declared.spans.Span.{Span}
use Rattle.portal_http_message.specs.declared.head.Finding.TheVariants.{Whole}
use Rattle.portal_http_message.specs.Fields.{FieldList, values_of, only_of, at_most_one_of}
use Rattle.portal_http_message.specs.Lengths.{declared_length}
use Rattle.portal_http_message.proofs.DecidedLemmas.{stays}

-- ---- a head stays where it is, whatever bytes follow

span_stays : (n : ℕ) (xs ys : List ℕ) (s : Span) → n ≤ length xs → IsWithin n s
    → span_bytes (xs ++ ys) s ≡ span_bytes xs s
span_stays n xs ys s there within =
    ap (take (s.end - s.start)) (drop-append-le s.start xs ys (omega (arith, within.0, within.1)))
    ∙ take-append-le (s.end - s.start) (drop s.start xs) ys
    (omega (arith, within.0, within.1, length-drop s.start xs))

headers_stay : (n : ℕ) (xs ys : List ℕ) (hs : List HeaderSpan) → n ≤ length xs → All (IsHeaderWithin n) hs
    → map (header_bytes (xs ++ ys)) hs ≡ map (header_bytes xs) hs
headers_stay n xs ys [] there fit = refl
headers_stay n xs ys (h ∷ hs) there fit =
    let one = All-head (IsHeaderWithin n) h hs fit in
    let name = span_stays n xs ys h.name there one.0 in
    let value = span_stays n xs ys h.value there one.1 in
    ap (λ (bytes : List ℕ). (bytes, span_bytes (xs ++ ys) h.value) ∷ map (header_bytes (xs ++ ys)) hs) name
    ∙ ap (λ (bytes : List ℕ). (span_bytes xs h.name, bytes) ∷ map (header_bytes (xs ++ ys)) hs) value
    ∙ ap (λ (rest : FieldList). header_bytes xs h ∷ rest)
    (headers_stay n xs ys hs there (All-tail (IsHeaderWithin n) h hs fit))

within_stays : (xs ys : List ℕ) (headers : List HeaderSpan) (r : RequestSpans) → IsRequestWithin xs headers r
    → IsRequestWithin (xs ++ ys) headers r
within_stays xs ys headers r within = record {
  method = within.method;
  path = within.path;
  version = within.version;
  section = record {
    len_fits = omega (arith, within.section.len_fits, length-append xs ys);
    count_fits = within.section.count_fits;
    headers_fit = within.section.headers_fit;
  };
}

at_stays : (xs ys : List ℕ) (headers : List HeaderSpan) (r : RequestSpans) (head : RequestHead)
    → IsRequestWithin xs headers r
    → IsRequestAt xs headers r head → IsRequestAt (xs ++ ys) headers r head
at_stays xs ys headers r head within at =
    let there = within.section.len_fits in
    record {
      reads = subst (ReadsRequest (xs ++ ys) head) (sym (drop-append-le r.len xs ys there))
          (ReadsRequest-append xs head (drop r.len xs) ys at.reads);
      len = at.len;
      method = span_stays r.len xs ys r.method there within.method ∙ at.method;
      path = span_stays r.len xs ys r.path there within.path ∙ at.path;
      version = at.version;
      fields = headers_stay r.len xs ys (take r.headers headers) there within.section.headers_fit ∙ at.fields;
    }

pub head_stays : (front more bytes : List ℕ) (at : FoundHead) → bytes ≡ front ++ more
    → IsFinding front (Whole at) → IsFinding bytes (Whole at)
head_stays front more bytes at e (head, is) =
    subst (λ (b : List ℕ). IsFinding b (Whole at)) (sym e) (
      head,
      record {
        begins = stays front more head is.begins;
        early = is.early;
        within = within_stays front more at.headers at.spans is.within;
        is_at = at_stays front more at.headers at.spans head is.within is.is_at;
        declared = is.declared;
        small = is.small;
      },
    )

-- the head that the parser finds in the front
pub is_found : (bytes front : List ℕ) (headers : List HeaderSpan) (r : RequestSpans)
    (declared : Result ℕ HeadError) (head : RequestHead) (fields : FieldList)
    → front ≡ take head_limit bytes → length headers ≡ field_limit → IsRequestWithin front headers r
    → IsRequestAt front headers r head
    → fields ≡ map (header_bytes front) (take r.headers headers) → declared ≡ declared_length r.version fields
    → IfOk declared (λ length. length ≤ body_limit)
    → IsFinding bytes (Whole (record { spans = r; headers = headers; declared = declared }))
is_found bytes front headers r declared head fields e size within at covered sized small =
    let few : length head.fields ≤ field_limit =
    omega (
      arith,
      ap length at.fields,
      length-map (take r.headers headers) (header_bytes front),
      length-map head.fields name_and_value,
      length-take r.headers headers,
    ) in
    let fields_are : fields ≡ fields_of head = covered ∙ at.fields in
    let whole : front ++ drop head_limit bytes ≡ bytes =
    ap (λ (f : List ℕ). f ++ drop head_limit bytes) e ∙ take-append-drop head_limit bytes in (
      head,
      record {
        begins = (
          drop r.len front,
          subst (λ (f : List ℕ). ReadsRequest f head (drop r.len front)) e at.reads,
          few,
        );
        early = omega (arith, within.section.len_fits, ap length e, length-take head_limit bytes);
        within = subst (λ (b : List ℕ). IsRequestWithin b headers r) whole
            (within_stays front (drop head_limit bytes) headers r within);
        is_at = subst (λ (b : List ℕ). IsRequestAt b headers r head) whole
            (at_stays front (drop head_limit bytes) headers r head within at);
        declared = sized ∙ ap (λ (m : ℕ). declared_length m fields) at.version
            ∙ ap (declared_length head.minor) fields_are;
        small = small;
      },
    )

-- ---- what the bytes say

-- a message of its parts
abbrev pub assembled : List ℕ → List ℕ → Option (List ℕ) → Option (List ℕ)
    → Result (Option (List ℕ)) HeadError → Result (List ℕ) HeadError → Result Message HeadError
assembled method target token device number (Err error) = Err error
assembled method target token device number (Ok body) =
    Ok (record {
      method = method;
      target = target;
      token = token;
      device = device;
      number = number;
      body = body;
    })

assembled_is : (head : RequestHead) (body : Result (List ℕ) HeadError)
    → assembled head.method head.target (only_of (values_of (codes "portal-token") (fields_of head)))
    (only_of (values_of (codes "portal-device") (fields_of head)))
    (at_most_one_of (values_of (codes "portal-request") (fields_of head))) body
    ≡ message_with head body
assembled_is head (Err error) = refl
assembled_is head (Ok body) = refl

-- what the places hold is what the bytes say
pub told : (bytes : List ℕ) (at : FoundHead) (head : RequestHead) (fields : FieldList)
    (body : Result (List ℕ) HeadError) (method target : List ℕ)
    (token device : Option (List ℕ)) (number : Result (Option (List ℕ)) HeadError)
    → IsHeadAt bytes at head → fields ≡ map (header_bytes bytes) (take at.spans.headers at.headers)
    → body ≡ body_after at.declared (drop at.spans.len bytes)
    → token ≡ only_of (values_of (codes "portal-token") fields)
    → device ≡ only_of (values_of (codes "portal-device") fields)
    → number ≡ at_most_one_of (values_of (codes "portal-request") fields)
    → method ≡ span_bytes bytes at.spans.method → target ≡ span_bytes bytes at.spans.path
    → (o : Option RequestHead) × HeadOf bytes o
    × (assembled method target token device number body ≡ message_in o bytes)
told bytes at head fields body method target token device number is covered cut tokens devices
    numbers methods targets =
    let same : fields ≡ fields_of head = covered ∙ is.is_at.fields in
    let body_is : body ≡ body_after (length_of head) (bytes_after head bytes) =
    cut ∙ ap (λ (n : Result ℕ HeadError). body_after n (drop at.spans.len bytes)) is.declared
    ∙ ap (λ (n : ℕ). body_after (length_of head) (drop n bytes)) is.is_at.len in
    let made = λ (m t : List ℕ) (f : FieldList) (b : Result (List ℕ) HeadError).
    assembled m t (only_of (values_of (codes "portal-token") f))
    (only_of (values_of (codes "portal-device") f))
    (at_most_one_of (values_of (codes "portal-request") f)) b in (
      Some head,
      is.begins,
      rw (tokens, devices, numbers, methods ∙ is.is_at.method, targets ∙ is.is_at.path, same, body_is)
          (assembled_is head (body_after (length_of head) (bytes_after head bytes))),
    )
