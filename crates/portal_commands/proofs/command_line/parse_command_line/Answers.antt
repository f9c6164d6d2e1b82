use Rattle.std.proofs.Common.{◌≡◌, [], List, Option, true, map, refl, subst}
use Rattle.clap.specs.Words.{App, HasKind, HasMatchesOf, Row, Text, fault_of, is_simple_and_free}
use Rattle.portal_commands.specs.Orders.{IsNoOrder, IsOrder}
use Rattle.portal_commands.proofs.OrderLemmas.{tells, told_none}
use Rattle.portal_commands.proofs.command_line.parse_command_line.Goals as goal

pub returns-in-Some-clause-order : goal.returns-in-Some-clause-order
returns-in-Some-clause-order g c =
    let words = map g.S.AsStr.text c.args.words.now in
    let read = c.in-Ok-try_get_matches_from in
    let clean = subst (λ (a : App). is_simple_and_free a ≡ true → fault_of a words ≡ []) c.in-Ok.ensures
    read.ensures.kinds refl in
    let found =
    subst (λ (a : App). HasMatchesOf a words read.matches) c.in-Ok.ensures read.ensures.matches refl in
    (clean, subst (λ (f : Option (Text × List Row)). IsOrder f c.in-Some.order) found.1 c.in-Some.ensures)

pub returns-in-Err-clause-no_order : goal.returns-in-Err-clause-no_order
returns-in-Err-clause-no_order g c =
    let words = map g.S.AsStr.text c.args.words.now in
    let among = subst (λ (a : App). is_simple_and_free a ≡ true → HasKind (fault_of a words) c.in-Err.error)
    c.in-Ok.ensures c.in-Err.ensures.kinds refl in
    tells words _ c.no_order_of.result c.no_order_of.ensures among

pub returns-clause-no_order : goal.returns-clause-no_order
returns-clause-no_order g c =
    let words = map g.S.AsStr.text c.args.words.now in
    let read = c.in-Ok-try_get_matches_from in
    let found =
    subst (λ (a : App). HasMatchesOf a words read.matches) c.in-Ok.ensures read.ensures.matches refl in
    told_none words c.missing_subcommand.result c.missing_subcommand.ensures
    (subst IsNoOrder found.1 c.in-None.ensures)
