-- What the parser's spans say of a decided reply.
use Rattle.portal_http_message.proofs.Common.{◌≡◌, ℕ, ◌+◌, ◌-◌, ◌<◌, ◌≤◌, ◌⊎◌, List, [], ◌++◌, length, take}
use Rattle.portal_http_message.proofs.Common.{drop, Bool, true, false, leb, Result, Ok, Err, refl, sym, ap}
use Rattle.portal_http_message.proofs.Common.{◌∙◌, subst, inl, inr, arith, append-nil, Some, None, ◌↔◌, IfOk}
use Rattle.portal_http_message.proofs.Common.{IsTrue, MatchBool, false≢true, leb_tells, take_all}
use Rattle.portal_http_message.proofs.Common.{take-append-le, take-append-drop, length-drop, take-append-add}
use Rattle.portal_http_message.proofs.Common.{take-append_seam, RequestHead, ReadsRequest, NeverHasRequest}
use Rattle.portal_http_message.proofs.Common.{MayBecomeRequest, EndsInTarget, request_unique}
use Rattle.portal_http_message.proofs.Common.{ReadsRequest-append, head_limit, body_limit, HeadError, HeadOf}
use Rattle.portal_http_message.proofs.Common.{BeginsWith, length_of, bytes_after, HasTooManyLines, FoundHead}
use Rattle.portal_http_message.proofs.Common.{IsHeadAt, IsSettled, IsDecided, IsDecidedByHead}
use Rattle.portal_http_message.proofs.Common.{IsDecidedWithout, ExceedsHeadLimits, IsIncomplete}
use Rattle.httparse.specs.Grammar.{print_request}
use Rattle.portal_http_message.proofs.LineFeedLemmas.{too_late}
use Rattle.portal_http_message.specs.Laws.{HasOneHead}

-- ---- with no whole head

pub not_by_head : (bytes : List ℕ) → HeadOf bytes None → IsDecidedByHead bytes → ⊥
not_by_head bytes none d = none d.0 d.1

-- no head can come
pub hopeless : (bytes : List ℕ) → HeadOf bytes None
    → HasTooManyLines (take head_limit bytes) ⊎ NeverHasRequest (take head_limit bytes) → IsDecided bytes
hopeless bytes none why =
    elim (leb_tells head_limit (length bytes)) [
      | inl p ↦ inr (none, inl (inl p.1))
      | inr q ↦
          let own : take head_limit bytes ≡ bytes = take_all head_limit bytes (omega arith) in
          elim why [
            | inl many ↦ inr (none, inl (inr (subst HasTooManyLines own many)))
            | inr never ↦ inr (none, inr (subst NeverHasRequest own never))
          ]
    ]

-- a head may come
still_open : (bytes : List ℕ) → HeadOf bytes None → MayBecomeRequest (take head_limit bytes)
    → (ExceedsHeadLimits bytes → ⊥) → IsIncomplete bytes
still_open bytes none may early =
    let few : length bytes < head_limit =
    elim (leb_tells head_limit (length bytes)) [ inl p ↦ absurd (early (inl p.1)) | inr q ↦ q.1 ] in
    let own : take head_limit bytes ≡ bytes = take_all head_limit bytes (omega arith) in
    let open_yet : (IsDecided bytes → ⊥) ⊎ EndsInTarget bytes = elim (subst MayBecomeRequest own may) [
      | inl some ↦ inl (λ d. elim d [
        | inl by ↦ not_by_head bytes none by
        | inr without ↦ elim without.1 [ inl late ↦ early late | inr never ↦ never some.0 some.1 [] some.2 ]
      ])
      | inr target ↦ inr target
    ] in
    record { not_by_head = not_by_head bytes none; undecided = open_yet; short = omega arith }

-- whether it comes too late decides
pub decided_when_past : (bytes : List ℕ) (late : Bool) → HeadOf bytes None
    → MayBecomeRequest (take head_limit bytes)
    → (IsTrue late ↔ ExceedsHeadLimits bytes) → MatchBool late (IsDecided bytes) (IsIncomplete bytes)
decided_when_past bytes true none may tells = inr (none, inl (tells.0 refl))
decided_when_past bytes false none may tells = still_open bytes none may (λ late. false≢true (tells.1 late))

-- ---- with a whole head

-- the front of more bytes begins with the front of the first
front_grows : (n : ℕ) (bytes more : List ℕ)
    → (tail : List ℕ) × (take n (bytes ++ more) ≡ take n bytes ++ tail)
front_grows n bytes more =
    elim (leb_tells n (length bytes)) [
      | inl p ↦ ([], take-append-le n bytes more p.1 ∙ sym (append-nil (take n bytes)))
      | inr q ↦
          let past_end : n ≡ length bytes + (n - length bytes) = omega arith in (
            take (n - length bytes) more,
            ap (λ (k : ℕ). take k (bytes ++ more)) past_end ∙ take-append-add bytes more (n - length bytes)
                ∙ ap (λ (l : List ℕ). l ++ take (n - length bytes) more)
                (sym (take_all n bytes (omega arith))),
          )
    ]

-- a head stays where more bytes follow
pub stays : (bytes more : List ℕ) (head : RequestHead) → BeginsWith (take head_limit bytes) head
    → BeginsWith (take head_limit (bytes ++ more)) head
stays bytes more head begins =
    let grown = front_grows head_limit bytes more in (
      begins.0 ++ grown.0,
      subst (λ (f : List ℕ). ReadsRequest f head (begins.0 ++ grown.0)) (sym grown.1)
          (ReadsRequest-append (take head_limit bytes) head begins.0 grown.0 begins.1),
      begins.2,
    )

-- there is one head
one_head : (bytes : List ℕ) (head other : RequestHead) → BeginsWith bytes head
    → BeginsWith bytes other → head ≡ other
one_head bytes head other x y = (request_unique bytes head other x.0 y.0 x.1 y.1).0

pub heads_once : HasOneHead
heads_once bytes None None x y = refl
heads_once bytes None (Some other) x y = absurd (x other y)
heads_once bytes (Some head) None x y = absurd (y head x)
heads_once bytes (Some head) (Some other) x y = ap Some (one_head (take head_limit bytes) head other x y)

-- the length that a head declares, where it is a number
declared_settles : (head : RequestHead) (bytes : List ℕ) (start declared : ℕ)
    → start ≡ length (print_request head)
    → length_of head ≡ Ok declared
    → IsSettled (length_of head) (length (bytes_after head bytes)) ≡ (declared ≤ length (drop start bytes))
declared_settles head bytes start declared at sized =
    ap (λ (l : Result ℕ HeadError). IsSettled l (length (bytes_after head bytes))) sized
    ∙ ap (λ (n : ℕ). declared ≤ length (drop n bytes)) (sym at)

-- by a head whose fields are refused
pub refused : (bytes : List ℕ) (at : FoundHead) (head : RequestHead) (error : HeadError)
    → IsHeadAt bytes at head → at.declared ≡ Err error → IsDecided bytes
refused bytes at head error is fails =
    let wrong : length_of head ≡ Err error = sym is.declared ∙ fails in
    inl (
      head,
      is.begins,
      subst (λ (l : Result ℕ HeadError). IsSettled l (length (bytes_after head bytes))) (sym wrong) tt,
    )

-- by a head whose whole body is there
whole_body : (bytes : List ℕ) (head : RequestHead) (start declared : ℕ)
    → BeginsWith (take head_limit bytes) head
    → start ≡ length (print_request head) → length_of head ≡ Ok declared
    → declared ≤ length (drop start bytes) → IsDecided bytes
whole_body bytes head start declared begins at sized enough =
    inl (
      head,
      begins,
      subst (λ (P : Type 0). P) (sym (declared_settles head bytes start declared at sized)) enough,
    )

pub by_one : (bytes : List ℕ) (head : RequestHead)
    → BeginsWith (take head_limit bytes) head → IsDecidedByHead bytes
    → IsSettled (length_of head) (length (bytes_after head bytes))
by_one bytes head begins d =
    subst (λ (h : RequestHead). IsSettled (length_of h) (length (bytes_after h bytes)))
    (one_head (take head_limit bytes) d.0 head d.1 begins) d.2

-- the rest of the body is missing
open_at : (bytes : List ℕ) (head : RequestHead) (start declared : ℕ) → BeginsWith (take head_limit bytes) head
    → start ≡ length (print_request head) → start ≤ head_limit
    → length_of head ≡ Ok declared → declared ≤ body_limit
    → length (drop start bytes) < declared → IsIncomplete bytes
open_at bytes head start declared begins at within sized small few =
    let unmet : IsDecidedByHead bytes → ⊥ = λ d.
    let met : declared ≤ length (drop start bytes) =
    subst (λ (P : Type 0). P) (declared_settles head bytes start declared at sized)
    (by_one bytes head begins d) in
    absurd (omega arith) in
    record {
      not_by_head = unmet;
      undecided = inl (λ d. elim d [ inl by ↦ unmet by | inr without ↦ without.0 head begins ]);
      short = omega (arith, length-drop start bytes);
    }

-- whether the declared body is there decides
pub decided_when_there : (bytes : List ℕ) (at : FoundHead) (head : RequestHead) (declared : ℕ)
    → IsHeadAt bytes at head → at.declared ≡ Ok declared
    → MatchBool (leb (at.spans.len + declared) (length bytes)) (IsDecided bytes) (IsIncomplete bytes)
decided_when_there bytes at head declared is sized =
    let length_is : length_of head ≡ Ok declared = sym is.declared ∙ sized in
    let small : declared ≤ body_limit =
    subst (λ (r : Result ℕ HeadError). IfOk r (λ length. length ≤ body_limit)) sized is.small in
    let after = length-drop at.spans.len bytes in
    elim (leb_tells (at.spans.len + declared) (length bytes)) [
      | inl p ↦
          subst (λ (b : Bool). MatchBool b (IsDecided bytes) (IsIncomplete bytes)) (sym p.0)
          (whole_body bytes head at.spans.len declared is.begins is.is_at.len length_is
          (omega (arith, p.1, after)))
      | inr q ↦
          subst (λ (b : Bool). MatchBool b (IsDecided bytes) (IsIncomplete bytes)) (sym q.0)
          (open_at bytes head at.spans.len declared is.begins is.is_at.len is.early length_is small
          (omega (arith, q.1, after, is.within.section.len_fits)))
    ]

-- ---- bytes that follow

-- the front of many bytes stays
same_front : (bytes more : List ℕ) → head_limit ≤ length bytes
    → take head_limit (bytes ++ more) ≡ take head_limit bytes
same_front bytes more many = take-append-le head_limit bytes more many

-- bytes that begin with others begin with those that are no longer
prefix_of : (p rest xs more : List ℕ) → xs ++ more ≡ p ++ rest → length p ≤ length xs
    → xs ≡ p ++ drop (length p) xs
prefix_of p rest xs more e fits =
    let start : take (length p) xs ≡ p =
    sym (take-append-le (length p) xs more fits) ∙ ap (take (length p)) e ∙ take-append_seam p rest in
    sym (take-append-drop (length p) xs) ∙ ap (λ (l : List ℕ). l ++ drop (length p) xs) start

-- where none came, none comes
pub none_comes : (bytes more : List ℕ) → IsDecidedWithout bytes → HeadOf (bytes ++ more) None
none_comes bytes more without head begins =
    elim (leb_tells head_limit (length bytes)) [
      | inl p ↦ without.0 head (subst (λ (f : List ℕ). BeginsWith f head) (same_front bytes more p.1) begins)
      | inr q ↦
          let own : take head_limit bytes ≡ bytes = take_all head_limit bytes (omega arith) in
          let grown = front_grows head_limit bytes more in
          let front : take head_limit (bytes ++ more) ≡ bytes ++ grown.0 =
          grown.1 ∙ ap (λ (l : List ℕ). l ++ grown.0) own in
          let reads : ReadsRequest (bytes ++ grown.0) head begins.0 =
          subst (λ (f : List ℕ). ReadsRequest f head begins.0) front begins.1 in
          elim without.1 [
            | inl late ↦ elim late [
              | inl long ↦ absurd (omega arith)
              | inr lines ↦
                  let fits : length (print_request head) ≤ length bytes =
                  too_late bytes grown.0 head begins.0 lines reads begins.2 in
                  without.0 head (subst (λ (f : List ℕ). BeginsWith f head) (sym own) (
                    drop (length (print_request head)) bytes,
                    (reads.0, prefix_of (print_request head) begins.0 bytes grown.0 reads.1 fits),
                    begins.2,
                  ))
            ]
            | inr never ↦ never grown.0 head begins.0 reads
          ]
    ]
