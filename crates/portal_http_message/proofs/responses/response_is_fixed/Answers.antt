use Rattle.std.proofs.Common.{◌≡◌, List, ℕ, ap, sym, ◌∙◌}
use Rattle.httpdate.proofs.Theorems.{unix_secs_injective}
use Rattle.httpdate.specs.Date.{date_text}
use Rattle.httpdate.specs.Text.{imf_fixdate}
use Rattle.portal_http_message.specs.Bytes.{response_bytes}
use Rattle.portal_http_message.proofs.responses.response_is_fixed.Goals as goal

-- two dates of one moment have one text
pub returns : goal.returns
returns c = λ status moment content_type allow body one other h g.
    let date : date_text h.0 ≡ date_text g.0 = ap imf_fixdate (unix_secs_injective h.0 g.0 (h.1 ∙ sym g.1)) in
    h.2 ∙ ap (λ (shown : List ℕ). response_bytes status shown content_type allow body) date ∙ sym g.2
