-- The rows of a print file are its lines.
use Rattle.portal_files.proofs.Common.{◌≡◌, ℕ, List, [], ◌∷◌, ◌++◌, refl, sym, subst, ◌∙◌, arith, codes}
use Rattle.portal_files.proofs.Common.{Result, Ok, Err, IfOk, All, flat_map, All-head, All-tail, IsCode}
use Rattle.portal_files.proofs.Common.{text_of, amount_text, IsMinuteText, csv_line, limit_text, header}
use Rattle.portal_files.proofs.Common.{code_fields, IsPrintFile, Shared, shared_of, header_row, code_row}
use Rattle.std.specs.Result.{result_or}
use Rattle.jiff_tz.specs.declared.timezone.TimeZone.{TimeZone}
use Rattle.portal_model.specs.declared.plan.Plan.{Plan}
use Rattle.portal_files.specs.declared.sheet.BatchSheet.{BatchSheet}
use Rattle.portal_files.proofs.PlainFields.{IsPlain, plain-word, plain-row, plain-code, plain-id, plain-limit}
use Rattle.portal_files.proofs.PlainFields.{plain-amount, plain-minute}

-- what the lines of a batch share
abbrev pub shared : Plan → List ℕ → Shared
shared plan expires =
    shared_of plan.id (limit_text plan.seconds) (limit_text plan.bytes) (amount_text plan.price) expires

header-line : header_row ≡ csv_line header
header-line = plain-row (codes "code") (codes "plan") (codes "seconds") (codes "bytes") (codes "price")
    (codes "expires") (plain-word _ refl) (plain-word _ refl) (plain-word _ refl) (plain-word _ refl)
    (plain-word _ refl) (plain-word _ refl)

code-line : (plan : Plan) (expires code : List ℕ) → IsPlain expires → IsCode code
    → code_row (shared plan expires) code ≡ csv_line (code_fields plan expires code)
code-line plan expires code shown is =
    plain-row (text_of code) plan.id (limit_text plan.seconds) (limit_text plan.bytes)
    (amount_text plan.price) expires
    (plain-code code is) (plain-id plan.id plan.id_text)
    (plain-limit plan.seconds (omega (arith, plan.seconds_limit)))
    (plain-limit plan.bytes (omega (arith, plan.bytes_limit)))
    (plain-amount plan.price (omega (arith, plan.price_limit))) shown

code-lines : (plan : Plan) (expires : List ℕ) (codes : List (List ℕ)) → IsPlain expires → All IsCode codes
    → flat_map (code_row (shared plan expires)) codes
    ≡ flat_map (λ code. csv_line (code_fields plan expires code)) codes
code-lines plan expires [] shown all = refl
code-lines plan expires (code ∷ codes) shown all =
    let first = code-line plan expires code shown (All-head IsCode code codes all) in
    let rest = code-lines plan expires codes shown (All-tail IsCode code codes all) in
    λ i. first i ++ rest i

pub print-file : (zone : TimeZone) (sheet : BatchSheet) (text expires : List ℕ)
    → IsMinuteText zone sheet.batch.expires expires → All IsCode sheet.codes
    → text ≡ header_row ++ flat_map (code_row (shared sheet.plan expires)) sheet.codes
    → IsPrintFile zone sheet text
print-file zone sheet text expires shown all e =
    let plain : IsPlain expires = subst IsPlain (sym shown.text_is) (plain-minute shown.at) in
    let lines = code-lines sheet.plan expires sheet.codes plain all in
    record { expires = expires; shown = shown; text_is = e ∙ (λ i. header-line i ++ lines i) }

pub shared-same : (plan : Plan) {a b c d e expires : List ℕ} → a ≡ plan.id → b ≡ limit_text plan.seconds
    → c ≡ limit_text plan.bytes → d ≡ amount_text plan.price → e ≡ expires
    → shared_of a b c d e ≡ shared plan expires
shared-same plan p q r s t = λ i. shared_of (p i) (q i) (r i) (s i) (t i)

pub ok-or : {A E D : Type 0} (r : Result A E) (d : D) (o : Result A D) (P Q : A → Type 0)
    → o ≡ result_or r (Err d) → ((x : A) → P x → Q x) → IfOk r P → IfOk o Q
ok-or (Ok x) d (Ok y) P Q e f h = let same : y ≡ x = cc in subst Q (sym same) (f x h)
ok-or (Ok x) d (Err y) P Q e f h = cc
ok-or (Err x) d (Ok y) P Q e f h = cc
ok-or (Err x) d (Err y) P Q e f h = tt
