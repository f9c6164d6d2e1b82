use Rattle.portal_model.proofs.Common.{◌≡◌, ◌≤◌, sym, subst, arith, length}
use Rattle.std.specs.Prelude.{true}
use Rattle.std.specs.List.{list_all}
use Rattle.portal_model.specs.CodeStart.{IsPrinted, is_sign}
use Rattle.portal_model.proofs.Starts.{groups_printed}
use Rattle.portal_model.proofs.code_start.CodeStart.read.Goals as goal

pub invariant_of-result : goal.invariant_of-result
invariant_of-result c =
    let signs = c.as_slice-signs.result.now in
    let four : 4 ≤ length signs = omega arith in
    let all : list_all is_sign signs ≡ true = cc in
    subst IsPrinted (sym c.in_ok-printed.ensures) (groups_printed signs four all)
