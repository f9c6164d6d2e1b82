use Rattle.std.proofs.Common.{ℕ, Option, subst}
use Rattle.std.specs.Prelude.{MatchOption}
use Rattle.clap.specs.Words.{Text, found_of}
use Rattle.clap.proofs.WalkLemmas.{one_text-rows}
use Rattle.portal_commands.proofs.OrderLemmas.{Writes, number_given}
use Rattle.portal_commands.proofs.matches.option_number.Goals as goal

pub returns : goal.returns
returns c =
    subst (λ (text : Option Text). MatchOption c.get_one.result ((n : ℕ) → ¬ (Writes text n)) (Writes text))
    (one_text-rows (found_of c.args.found.now) c.args.name.now)
    (number_given _ c.get_one.result c.get_one.ensures.none (λ n is t at.
    (rw is at (c.get_one.ensures.value t at)).0) (λ is t at. (rw is at (c.get_one.ensures.value t at)).1.0))
