-- The body of a response, by what was written, and the status in its bytes.
use Rattle.portal_http.proofs.Common.{◌≡◌, ℕ, List, ◌++◌, None, Option, ap, ◌∙◌, refl, subst, Result, Ok, Err}
use Rattle.portal_http.proofs.Common.{Refusal, Stopped, status_of, IsResponse}
use Rattle.std.specs.Fmt.{digits}
use Rattle.portal_http_message.specs.declared.responses.ContentType.{ContentType}
use Rattle.portal_http_message.specs.Bytes.{head_bytes}
use Rattle.portal_http.specs.declared.reply.Response.{Response}
use Rattle.portal_http.specs.Responses.{Responds}
use Rattle.portal_http.specs.Status.{status_in}

-- a response of the status 200 with that body
abbrev pub IsOkResponse : ContentType → ℕ → List ℕ → List ℕ → Type 0
IsOkResponse content_type moment body bytes = IsResponse 200 moment content_type None body bytes

-- the body is that text
pub with_body : (content_type : ContentType) (moment : ℕ) (body text : List ℕ)
    (made : Result Response Refusal) → body ≡ text
    → Responds (IsOkResponse content_type moment body) made
    → Responds (IsOkResponse content_type moment text) made
with_body content_type moment body text made same is =
    subst (λ (b : List ℕ). Responds (IsOkResponse content_type moment b) made) same is

-- the body is that text, of which something is so
pub with_text : (Is : List ℕ → Type 0) (content_type : ContentType) (moment : ℕ) (body text : List ℕ)
    (made : Result Response Refusal) → Is text → body ≡ text
    → Responds (IsOkResponse content_type moment body) made
    → Responds (λ bytes. (t : List ℕ) × Is t × IsOkResponse content_type moment t bytes) made
with_text Is content_type moment body text (Ok response) so same is =
    record {
      ok = (
        text,
        so,
        subst (λ (b : List ℕ). IsOkResponse content_type moment b response.bytes.items) same is.ok,
      );
      err = tt;
    }
with_text Is content_type moment body text (Err r) so same is = record { ok = tt; err = is.err }

-- ---- the status in a response

accepted_line : (phrase date media_type : List ℕ) (size : ℕ) (last body : List ℕ)
    → status_in (head_bytes 200 phrase date media_type size last ++ body) ≡ 200
unfolding head_bytes digits
accepted_line phrase date media_type size last body = refl

refused_line : (r : Refusal) (phrase date media_type : List ℕ) (size : ℕ) (last body : List ℕ)
    → status_in (head_bytes (status_of r) phrase date media_type size last ++ body) ≡ status_of r
unfolding head_bytes digits
refused_line Stopped phrase date media_type size last body = refl
refused_line _ phrase date media_type size last body = refl

pub accepted_shown : (moment : ℕ) (content_type : ContentType) (allow : Option (List ℕ))
    (body response : List ℕ)
    → IsResponse 200 moment content_type allow body response → status_in response ≡ 200
accepted_shown moment content_type allow body response (date, dated, same) =
    ap status_in same ∙ accepted_line _ _ _ _ _ _

pub refused_shown : (r : Refusal) (moment : ℕ) (content_type : ContentType) (allow : Option (List ℕ))
    (body response : List ℕ)
    → IsResponse (status_of r) moment content_type allow body response → status_in response ≡ status_of r
refused_shown r moment content_type allow body response (date, dated, same) =
    ap status_in same ∙ refused_line r _ _ _ _ _ _
