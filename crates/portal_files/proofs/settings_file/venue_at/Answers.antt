use Rattle.portal_files.proofs.Common.{◌∙◌, codes, sym, ap, not, refl, table_view, table_get}
use Rattle.portal_files.proofs.TextsAt.{option_map-none, member-there, no-venue}
use Rattle.portal_files.proofs.settings_file.venue_at.Goals as goal

pub returns-then-is_none-clause-some : goal.returns-then-is_none-clause-some
returns-then-is_none-clause-some c =
    let found = table_get c.get.result (codes "venue_url") c.args.table.now.entries c.get.ensures.value in
    sym found ∙ option_map-none _ _ (c.is_none.ensures ∙ ap not c.if-is_none.true)

pub returns-in_err-url-clause-none : goal.returns-in_err-url-clause-none
returns-in_err-url-clause-none c = λ _ o is.
    let found = table_get c.get.result (codes "venue_url") c.args.table.now.entries c.get.ensures.value in
    let there = member-there _ _ _ found (c.is_none.ensures ∙ ap not c.if-is_none.false) in
    no-venue (table_view c.args.table.now) o there.0 there.1 (c.in_err-url.ensures.none refl) is
