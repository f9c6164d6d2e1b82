use Rattle.portal_files.proofs.Common.{codes, ◌∙◌, ap, not, option_map, table_view, is_url, IsTextAt}
use Rattle.portal_files.proofs.Common.{IsVenueAt, IsZoneAt}
use Rattle.jiff.specs.ZoneView.{plain_zone}
use Rattle.portal_files.specs.SettingsFile.{is_token}
use Rattle.portal_files.proofs.WrongKeys.{no-value, no-wrong-key, value-there}
use Rattle.portal_files.proofs.settings_fault.wrong_key.Goals as goal

pub returns-then-is_none : goal.returns-then-is_none
returns-then-is_none c = c.zone_at.ensures.none (no-value _ (c.is_none.ensures ∙ ap not c.if-is_none.true))

pub returns-else-is_none-5 : goal.returns-else-is_none-5
returns-else-is_none-5 c =
    let ms = table_view c.args.table.now in
    no-wrong-key ms
    (value-there (IsZoneAt ms) plain_zone c.zone_at.result
    (c.is_none.ensures ∙ ap not c.if-is_none.false) c.zone_at.ensures.some)
    (value-there (IsTextAt is_url (codes "portal_url") ms) (λ u. u.now) c.url_at.result
    (c.is_none-else-is_none.ensures ∙ ap not c.if-is_none-2.false) c.url_at.ensures.some)
    (value-there (IsVenueAt ms) (λ o. option_map (λ u. u.now) o) c.venue_at.result
    (c.is_none-else-is_none-2.ensures ∙ ap not c.if-is_none-3.false) c.venue_at.ensures.some)
    (value-there (IsTextAt is_token (codes "desk_token") ms) (λ u. u.now) c.token_at.result
    (c.is_none-else-is_none-3.ensures ∙ ap not c.if-is_none-4.false) c.token_at.ensures.some)
    (value-there (IsTextAt is_token (codes "gateway_token") ms) (λ u. u.now) c.token_at-else-is_none-4.result
    (c.is_none-else-is_none-4.ensures ∙ ap not c.if-is_none-5.false) c.token_at-else-is_none-4.ensures.some)
