use Rattle.portal_http_request.proofs.Common.{inr, refl, sym, ◌∙◌, None, subst, ℕ, List, IsUtf8}
use Rattle.portal_http_request.proofs.RouteLemmas.{same_method}
use Rattle.portal_http_request.proofs.checks.check_path.Goals as goal

pub returns-in_default-clause-checks : goal.returns-in_default-clause-checks
returns-in_default-clause-checks c =
    inr (
      None,
      inr (
        (λ is. c.in_default.ensures.cases.0
            (subst (λ (p : List ℕ). IsUtf8 p) (sym c.split_target.ensures.path) is)),
        refl,
      ),
      refl,
    )

pub new-asked-requires-clause-method : goal.new-asked-requires-clause-method
new-asked-requires-clause-method c = c.method_text.ensures
    ∙ same_method c.in-Some.found c.in-Some-with_method.route c.args.request.method.now
    (sym c.with_method.ensures ∙ c.in-Some-with_method.is)
