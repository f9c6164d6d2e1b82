use Rattle.portal_files.proofs.Common.{◌≡◌, Some, None, ◌∙◌, sym, ap, not, subst, get_member, table_view}
use Rattle.portal_files.proofs.Common.{table_get}
use Rattle.portal_files.proofs.TextsAt.{option_map-none, member-there}
use Rattle.portal_files.proofs.settings_fault.fault_at.Goals as goal

pub returns-then-is_none : goal.returns-then-is_none
returns-then-is_none c =
    let found = table_get c.get.result c.name.result.now c.args.table.now.entries c.get.ensures.value in
    let gone = sym found ∙ option_map-none _ _ (c.is_none.ensures ∙ ap not c.if-is_none.true) in
    (c.requires, subst (λ name. get_member name (table_view c.args.table.now) ≡ None) c.name.ensures gone)

pub returns-else-is_none : goal.returns-else-is_none
returns-else-is_none c =
    let found = table_get c.get.result c.name.result.now c.args.table.now.entries c.get.ensures.value in
    let there = member-there _ _ _ found (c.is_none.ensures ∙ ap not c.if-is_none.false) in
    let named =
    subst (λ name. Some there.0 ≡ get_member name (table_view c.args.table.now)) c.name.ensures there.1 in
    (c.requires, λ gone. let both : Some there.0 ≡ None = named ∙ gone in cc)
