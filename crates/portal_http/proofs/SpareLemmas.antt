-- A response to a refusal is shown in one way.
use Rattle.portal_http.proofs.Common.{◌≡◌, ℕ, List, None, sym, ◌∙◌, Refusal, status_of, Json, IsRefusal}
use Rattle.std.proofs.Props.{props}
use mathlib.Core.HLevel.{is_prop→PathP}
use Rattle.httpdate.specs.declared.date.HttpDate.{HttpDate}
use Rattle.httpdate.specs.Calendar.{IsCivilDate, IsTimeOfDay, weekday, days_from_civil}
use Rattle.httpdate.specs.Date.{unix_secs, date_text}
use Rattle.httpdate.proofs.Theorems.{unix_secs_injective}
use Rattle.portal_json.specs.Bodies.{error_body}
use Rattle.portal_http_message.specs.Bytes.{response_bytes}
use Rattle.portal_http.specs.Replies.{IsError}

-- a date, by its seconds since 1970
one_date : (a b : HttpDate) → unix_secs a ≡ unix_secs b → a ≡ b
one_date a b same =
    let p = unix_secs_injective a b same in
    λ i. record {
      parts = p i;
      civil = is_prop→PathP (λ j. IsCivilDate (p j).year (p j).mon (p j).day) (λ j. Prim.hlevel props)
          a.civil b.civil i;
      time = is_prop→PathP (λ j. IsTimeOfDay (p j).hour (p j).min (p j).sec) (λ j. Prim.hlevel props)
          a.time b.time i;
      right_day =
          is_prop→PathP (λ j. (p j).wday ≡ weekday (days_from_civil (p j).year (p j).mon (p j).day))
          (λ j. Prim.hlevel props) a.right_day b.right_day i;
    }

-- the date is that of the moment, and the bytes follow
pub IsRefusal-prop : (r : Refusal) (moment : ℕ) (bytes : List ℕ) → IsProp (IsRefusal r moment bytes)
unfolding IsError
IsRefusal-prop r moment bytes one other =
    let date = one_date one.0 other.0 (one.1 ∙ sym other.1) in
    λ i. (
      date i,
      is_prop→PathP (λ j. unix_secs (date j) ≡ moment) (λ j. Prim.hlevel props) one.1 other.1 i,
      is_prop→PathP
          (λ j. bytes ≡ response_bytes (status_of r) (date_text (date j)) Json None (error_body r))
          (λ j. Prim.hlevel props) one.2 other.2 i,
    )
