use Rattle.portal_files.proofs.Common.{◌∙◌, arith, ap, sym, refl, table_view, key_count}
use Rattle.portal_files.proofs.Tables.{member_count-view}
use Rattle.portal_files.proofs.TextsAt.{same-venue}
use Rattle.portal_files.proofs.settings_file.texts_of_table.Goals as goal

pub returns-in_err-zone-clause-none : goal.returns-in_err-zone-clause-none
returns-in_err-zone-clause-none c = λ _ s is. c.in_err-zone.ensures.none refl s.zone is.zone

pub returns-then-len-key_count-clause-none : goal.returns-then-len-key_count-clause-none
returns-then-len-key_count-clause-none c = λ _ s is.
    let count = member_count-view c.args.table.now.entries in
    let len = c.len.ensures.len in
    let venue =
    same-venue (table_view c.args.table.now) _ s.venue_url c.in_ok-venue_url.ensures.some is.venue_url in
    let keys = c.key_count.ensures ∙ ap key_count venue in
    let counted = is.count in
    let test = c.if-len-key_count.true in
    omega arith

pub returns-clause-some : goal.returns-clause-some
returns-clause-some c =
    let count = member_count-view c.args.table.now.entries in
    let len = c.len.ensures.len in
    let keys = c.key_count.ensures in
    let test = c.if-len-key_count.false in
    record {
      count = omega arith;
      zone = c.in_ok-zone.ensures.some;
      portal_url = c.in_ok-portal_url.ensures.some;
      venue_url = c.in_ok-venue_url.ensures.some;
      desk_token = c.in_ok-desk_token.ensures.some;
      gateway_token = c.in_ok-gateway_token.ensures.some;
      differ = sym c.eq.ensures ∙ c.if-eq.false;
    }
