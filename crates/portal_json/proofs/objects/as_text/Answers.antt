use Rattle.portal_json.proofs.Common.{List, ℕ, Result, Ok, Err, refl, IsOk, IsUtf8, MatchResult}
use Rattle.std.proofs.lemmas.Str.{IsUtf8-from_ascii}
use Rattle.portal_json.proofs.objects.as_text.Goals as goal

ok : {A E : Type 0} (P : A → Type 0) (Q : E → Type 0) (text : List ℕ) (r : Result A E) → IsUtf8 text
    → MatchResult r P (λ e. ¬ (IsUtf8 text) × Q e) → IsOk r
ok P Q text (Ok a) h m = refl
ok P Q text (Err e) h m = absurd (m.0 h)

pub unwrap-requires : goal.unwrap-requires
unwrap-requires c = ok _ _ c.args.bytes.now c.from_utf8.result (IsUtf8-from_ascii c.args.bytes.now c.requires)
    c.from_utf8.ensures.cases
