use Rattle.std.proofs.Common.{◌≡◌, ap, ◌∙◌, string_bytes}
use Rattle.portal_http_message.proofs.responses.response.Goals as goal

-- the head's bytes come from the parts' clauses, and the body is put behind them
pub returns : goal.returns
returns c =
    let same : c.into_bytes-bytes.result.items ≡ string_bytes c.in_ok-head.head =
    ap (λ (v : _). v.items) c.into_bytes-bytes.ensures.value in
    let grown = c.in_ok-extend_from_slice.ensures.items in
    let last = c.as_str.ensures.value ∙ c.in_ok-last.ensures in
    let head = c.in_ok-head.ensures in (
      c.in-Ok.date,
      c.in-Ok.ensures.value,
      rw (
        grown,
        same,
        head,
        c.phrase-phrase.ensures,
        c.media_type-media_type.ensures,
        last,
        c.as_u16-status.ensures.value,
      ),
    )
