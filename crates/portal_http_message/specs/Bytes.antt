-- The bytes of a response (RFC 9112, section 4).
use Rattle.std.specs.Prelude.{◌≡◌, ℕ, List, [], ◌++◌, length, decimal, codes, Option, Some, None}
use Rattle.std.specs.Prelude.{if◌then◌else◌, ◌==◌}
use Rattle.httpdate.specs.declared.date.HttpDate.{HttpDate}
use Rattle.httpdate.specs.Date.{unix_secs, date_text}
use Rattle.portal_http_message.specs.declared.responses.ContentType.{ContentType}
use Rattle.portal_http_message.specs.declared.responses.ContentType.TheVariants.{CaptiveJson, Json, Csv}
use Rattle.portal_http_message.specs.declared.responses.ContentType.TheVariants.{PlainText}

-- the reason phrase for a status; empty for a status that the server never sends
abbrev pub phrase_of : ℕ → List ℕ
phrase_of status =
    if status == 200 then codes "OK" else (
    if status == 400 then codes "Bad Request" else (
    if status == 403 then codes "Forbidden" else (
    if status == 404 then codes "Not Found" else (
    if status == 405 then codes "Method Not Allowed" else (
    if status == 409 then codes "Conflict" else (
    if status == 410 then codes "Gone" else (
    if status == 413 then codes "Payload Too Large" else (
    if status == 501 then codes "Not Implemented" else (
    if status == 503 then codes "Service Unavailable" else [])))))))))

-- the media type of a body
abbrev pub media_type_of : ContentType → List ℕ
media_type_of CaptiveJson = codes "application/captive+json"
media_type_of Json = codes "application/json"
media_type_of Csv = codes "text/csv; charset=utf-8"
media_type_of PlainText = codes "text/plain; charset=utf-8"

-- the lines of the head after `Cache-Control`, with the empty line at its end
abbrev pub last_lines : Option (List ℕ) → List ℕ
last_lines None = codes "Connection: close\r\n\r\n"
last_lines (Some methods) = codes "Allow: " ++ (methods ++ codes "\r\nConnection: close\r\n\r\n")

-- the head of a response, from its status line to its empty line
unfoldable pub head_bytes : ℕ → List ℕ → List ℕ → List ℕ → ℕ → List ℕ → List ℕ
head_bytes status phrase date media_type size last =
    codes "HTTP/1.1 " ++ (decimal status ++ (codes " " ++ (phrase
    ++ (codes "\r\nDate: " ++ (date
    ++ (codes "\r\nContent-Type: " ++ (media_type
    ++ (codes "\r\nContent-Length: " ++ (decimal size
    ++ (codes "\r\nCache-Control: no-store\r\n" ++ last))))))))))

-- the bytes of a response with that date
abbrev pub response_bytes : ℕ → List ℕ → ContentType → Option (List ℕ) → List ℕ → List ℕ
response_bytes status date content_type allow body =
    head_bytes status (phrase_of status) date (media_type_of content_type) (length body) (last_lines allow)
    ++ body

-- the bytes are that response, with the date of the moment
abbrev pub IsResponse : ℕ → ℕ → ContentType → Option (List ℕ) → List ℕ → List ℕ → Type 0
IsResponse status moment content_type allow body bytes =
    (date : HttpDate) × (unix_secs date ≡ moment)
    × (bytes ≡ response_bytes status (date_text date) content_type allow body)

-- status, moment, content type, allowed methods and body determine the bytes of a response
abbrev pub ResponseIsFixed : Type 0
ResponseIsFixed =
    (status moment : ℕ) (content_type : ContentType) (allow : Option (List ℕ)) (body one other : List ℕ)
    → IsResponse status moment content_type allow body one
    → IsResponse status moment content_type allow body other
    → one ≡ other
