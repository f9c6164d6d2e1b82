use Rattle.std.proofs.Common.{◌≡◌, ◌∙◌, sym, ap, Bool, false}
use Rattle.std.specs.Prelude.{bytes_eq, ◌||◌}
use Rattle.std.specs.List.{list_any}
use Rattle.portal_model.specs.Verdict.{has_duplicate}
use Rattle.portal_core.proofs.Among.{twice-step, rest_of}
use Rattle.portal_core.proofs.decide.issue.+has_duplicate_code.Goals as goal

pub returns-else-holds_code : goal.returns-else-holds_code
returns-else-holds_code t c =
    let codes = c.args.codes.now in
    let step = twice-step codes c.first-item.result c.in-len1-up.len_at_least c.first-item.is in
    let none : list_any (bytes_eq c.first-item.result) (rest_of codes) ≡ false =
    sym c.holds_code.ensures ∙ c.if-holds_code.false in
    c.has_duplicate_code.ensures ∙ sym (step ∙ ap (λ (b : Bool). b || has_duplicate (rest_of codes)) none)
