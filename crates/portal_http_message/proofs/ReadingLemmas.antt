-- What pieces read one after the other make.
use Rattle.portal_http_message.proofs.Common.{◌≡◌, ℕ, ◌+◌, Ok, Err, List, [], ◌∷◌, ◌++◌, length, Option}
use Rattle.portal_http_message.proofs.Common.{refl, sym, ap, ◌∙◌, subst, inl, inr, arith, lit≤, append-nil}
use Rattle.portal_http_message.proofs.Common.{codes, rules, length-append, Consumes, lf, RequestHead}
use Rattle.portal_http_message.proofs.Common.{IsRequestHead, NeverHasRequest, print_blank, print_version}
use Rattle.portal_http_message.proofs.Common.{print_end, print_section, print_request-append, IsDecidedByHead}
use Rattle.portal_http_message.proofs.Common.{IsIncomplete, IsIncompleteBefore, ReadsRequestBytes, BreaksOff}
use Rattle.portal_http_message.proofs.Common.{Receives}
use Rattle.std.proofs.lemmas.Str.{IsUtf8-from_ascii}
use Rattle.std.proofs.KnownBytes.{Consumes-trans, Consumes-kept}
use Rattle.httparse.specs.Grammar.{print_request, is_token_byte}
use Rattle.portal_http_message.specs.Lines.{from_start}
use Rattle.portal_http_message.specs.declared.received.ReadError.{ReadError}
use Rattle.portal_http_message.specs.declared.received.ReadError.TheVariants.{Read, NoMemory}
use Rattle.portal_http_message.specs.Received.{Incoming}

-- ---- before the first read

-- the shortest request
shortest : RequestHead
shortest = record {
  blank = [];
  method = codes "GET";
  target = codes "/";
  minor = 0;
  line_end = lf;
  fields = [];
  last = lf;
}

shortest_is_one : IsRequestHead shortest
unfolding shortest is_token_byte
shortest_is_one = record {
  method = (lit≤ tt, search rules);
  target = (lit≤ tt, search rules);
  target_text = IsUtf8-from_ascii (codes "/") (search rules);
  minor = lit≤ tt;
  fields = search rules;
}

-- a head has bytes
some_bytes : (head : RequestHead) (rest : List ℕ) → IsRequestHead head → [] ≡ print_request head ++ rest → ⊥
some_bytes head rest is e =
    let pieces = ap length (e ∙ print_request-append head rest) in
    omega (
      arith,
      is.method.0,
      pieces,
      length-append (print_blank head.blank)
          (head.method ++ 32 ∷ (head.target ++ 32 ∷ (print_version head.minor
          ++ (print_end head.line_end ++ (print_section head.fields head.last ++ rest))))),
      length-append head.method (32 ∷ (head.target ++ 32 ∷ (print_version head.minor
          ++ (print_end head.line_end ++ (print_section head.fields head.last ++ rest))))),
    )

-- nothing is decided before the first read
pub open_at_first : IsIncomplete []
unfolding from_start
open_at_first =
    let by : IsDecidedByHead [] → ⊥ = λ d. some_bytes d.0 d.1.0 d.1.1.0 d.1.1.1 in
    let can : NeverHasRequest [] → ⊥ = λ never. never (print_request shortest) shortest [] (
      shortest_is_one,
      sym (append-nil (print_request shortest)),
    ) in
    record {
      not_by_head = by;
      undecided = inl (λ d. elim d [
        | inl h ↦ by h
        | inr without ↦ elim without.1 [
          | inl late ↦ elim late [
            | inl long ↦ absurd (omega (arith, long))
            | inr lines ↦ absurd (omega (arith, lines))
          ]
          | inr never ↦ can never
        ]
      ]);
      short = lit≤ tt;
    }

-- ---- one read more

-- what came in, and not too late
pub record HasRead (old new : Option (List ℕ)) (received : Incoming) : Type 0 where
  pub read : Consumes old new received.bytes
  pub not_late : IsIncompleteBefore received.last received.bytes

pub one_more : (old mid new : Option (List ℕ)) (before after : Incoming) (count : ℕ)
    → Consumes old mid before.bytes → IsIncomplete before.bytes
    → Receives mid new before after (Ok count) → HasRead old new after
one_more old mid new before after count read open_yet (piece, took, is, sized, few, end) =
    subst (HasRead old new) (sym is) (record {
      read = Consumes-trans old mid new before.bytes piece read took;
      not_late = (before.bytes, piece, refl, sized, few, open_yet);
    })

-- the end of the input
pub at_end : (old mid new : Option (List ℕ)) (before after : Incoming) (count : ℕ) → count ≡ 0
    → Consumes old mid before.bytes → IsIncomplete before.bytes → Receives mid new before after (Ok count)
    → ReadsRequestBytes old new after
at_end old mid new before after count none read open_yet (piece, took, is, sized, few, end) =
    let more = one_more old mid new before after count read open_yet (piece, took, is, sized, few, end) in
    record {
      read = more.read;
      enough = inr (ap (λ (i : Incoming). i.last) is ∙ none, end none);
      not_late = more.not_late;
    }

-- no piece more
pub breaks_off : (old mid new : Option (List ℕ)) (before after : Incoming) (error : ReadError)
    → Consumes old mid before.bytes → IsIncomplete before.bytes → Receives mid new before after (Err error)
    → BreaksOff old new error
breaks_off old mid new before after Read read open_yet kept =
    (before.bytes, Consumes-kept old mid new before.bytes read kept, open_yet)
breaks_off old mid new before after NoMemory read open_yet (piece, took, some, few) =
    (before.bytes, piece, Consumes-trans old mid new before.bytes piece read took, some, few, open_yet)

-- so many bytes more came
pub came : (mid new : Option (List ℕ)) (before after : Incoming) (count : ℕ)
    → Receives mid new before after (Ok count)
    → length after.bytes ≡ length before.bytes + count
came mid new before after count (piece, took, is, sized, few, end) =
    ap (λ (i : Incoming). length i.bytes) is ∙ length-append before.bytes piece
    ∙ ap (λ (n : ℕ). length before.bytes + n) sized
