use Rattle.portal_files.proofs.Common.{arith, ◌∙◌, sym, refl, table_view}
use Rattle.portal_files.proofs.Tables.{member_count-view}
use Rattle.portal_files.specs.declared.settings_fault.SettingsKey.TheVariants.{VenueUrl}
use Rattle.portal_files.specs.declared.settings_fault.SettingsKey.TheVariants.{DeskToken, GatewayToken}
use Rattle.portal_files.proofs.WrongKeys.{no-table-fault}
use Rattle.portal_files.proofs.settings_fault.fault_of_whole.Goals as goal

pub returns-in_err-venue_url : goal.returns-in_err-venue_url
returns-in_err-venue_url c = absurd (c.requires VenueUrl (c.in_err-venue_url.ensures.none refl))

pub returns-then-len-key_count : goal.returns-then-len-key_count
returns-then-len-key_count c =
    let counted = member_count-view c.args.table.now.entries in
    let len = c.len.ensures.len in
    let keys = c.key_count.ensures in
    let test = c.if-len-key_count.true in
    (c.requires, _, c.in_ok-venue_url.ensures.some, λ same. omega (arith, same))

pub returns-in_err-desk_token : goal.returns-in_err-desk_token
returns-in_err-desk_token c = absurd (c.requires DeskToken (c.in_err-desk_token.ensures.none refl))

pub returns-in_err-gateway_token : goal.returns-in_err-gateway_token
returns-in_err-gateway_token c = absurd (c.requires GatewayToken (c.in_err-gateway_token.ensures.none refl))

pub returns : goal.returns
returns c =
    let counted = member_count-view c.args.table.now.entries in
    let len = c.len.ensures.len in
    let keys = c.key_count.ensures in
    let test = c.if-len-key_count.false in
    no-table-fault (table_view c.args.table.now) _ _ _ c.requires c.in_ok-venue_url.ensures.some (omega arith)
    c.in_ok-desk_token.ensures.some c.in_ok-gateway_token.ensures.some (sym c.eq.ensures ∙ c.if-eq.false)
