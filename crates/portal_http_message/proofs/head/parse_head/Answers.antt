use Rattle.portal_http_message.proofs.Common.{◌≡◌, ◌≢◌, List, ℕ, map, ap, ◌∙◌, inl, inr, Ok, Err, refl, ◌⊎◌}
use Rattle.portal_http_message.proofs.Common.{subst, RequestSpans, NeverHasRequest, RequestHead, header_bytes}
use Rattle.portal_http_message.proofs.Common.{IsRequestOf, IsRequestWithin, RequestExceeds, field_limit}
use Rattle.portal_http_message.proofs.Common.{HasTooManyLines, BeginsWith}
use Rattle.httparse.specs.declared.Error.{Error}
use Rattle.httparse.specs.declared.Error.TheVariants.{TooManyHeaders}
use Rattle.httparse.specs.declared.Status.{Status}
use Rattle.httparse.specs.Outcome.{IfComplete}
use Rattle.portal_http_message.proofs.LineFeedLemmas.{exceeds}
use Rattle.portal_http_message.proofs.RequestLemmas.{is_found}
use Rattle.portal_http_message.proofs.head.parse_head.Goals as goal

-- no bytes can follow that make a head, or too many fields came
by_error : (front : List ℕ) (e : Error) → (e ≡ TooManyHeaders → RequestExceeds field_limit front)
    → (e ≢ TooManyHeaders → NeverHasRequest front)
    → HasTooManyLines front ⊎ NeverHasRequest front
by_error front TooManyHeaders many never = inl (exceeds front (many refl))
by_error front e many never = inr (never (λ same. cc))

pub returns-in-Ok-Complete : goal.returns-in-Ok-Complete
returns-in-Ok-Complete c =
    let front = c.front-front.result.now in
    let headers = c.parse_request.new.headers in
    let found = c.in-Ok-Complete in
    let within = subst (λ (s : Status RequestSpans).
    IfComplete {E = Error} (Ok s) (IsRequestWithin front headers)) found.field-0-is found.ensures.within in
    let complete = subst (λ (s : Status RequestSpans).
    IfComplete {E = Error} (Ok s) (IsRequestOf front headers)) found.field-0-is found.ensures.complete in
    is_found c.args.bytes.now front headers found.spans c.declared_length-declared.result complete.0
    c.new.result c.front-front.ensures
    c.parse_request.auto.headers within complete.1
    (c.new.ensures ∙ ap (map (header_bytes front)) c.split_at.ensures.front)
    c.declared_length-declared.ensures.value c.declared_length-declared.ensures.limit

pub returns-in-Err : goal.returns-in-Err
returns-in-Err c =
    let none = c.in-Err.ensures in
    subst (λ (f : List ℕ). ((head : RequestHead) → ¬ (BeginsWith f head))
    × (HasTooManyLines f ⊎ NeverHasRequest f)) c.front-front.ensures (
      λ head begins. none.found head begins.0 begins.1 begins.2,
      by_error c.front-front.result.now c.in-Err.field-0 (λ e. none.too_many (ap Err e)) none.invalid,
    )
