use Rattle.portal_http_request.proofs.Common.{◌≡◌, List, ℕ, None, Ok, Err, sym, ◌∙◌, Result, MatchResult}
use Rattle.portal_http_request.proofs.Common.{IsUtf8}
use Rattle.std.specs.Result.{result_ok}
use Rattle.std.proofs.lemmas.Fmt.{IsAscii-from_digits}
use Rattle.std.proofs.lemmas.Str.{IsUtf8-from_ascii}
use Rattle.portal_http_request.proofs.queries.number_of_text.Goals as goal

-- bytes that were not read as a text are not UTF-8
not_utf8 : {T E : Type 0} (bytes : List ℕ) (Read : T → Type 0) (Fails : E → Type 0) (read : Result T E)
    → MatchResult read Read (λ e. ¬ (IsUtf8 bytes) × Fails e) → result_ok read ≡ None → IsUtf8 bytes → ⊥
not_utf8 bytes Read Fails (Ok text) cases none utf8 = absurd (cc (none))
not_utf8 bytes Read Fails (Err e) cases none utf8 = cases.0 utf8

pub returns-in_err-ok-clause-none : goal.returns-in_err-ok-clause-none
returns-in_err-ok-clause-none c = λ none n is.
    let text = c.args.text.now in
    not_utf8 text _ _ c.from_utf8.result c.from_utf8.ensures.cases
    (sym c.ok.ensures.value ∙ c.in_err-ok.was)
    (IsUtf8-from_ascii text (IsAscii-from_digits text is.0.1))
