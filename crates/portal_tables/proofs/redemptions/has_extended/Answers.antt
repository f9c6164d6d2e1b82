use Rattle.portal_tables.proofs.Common.{◌<◌, sym, reads_none, HasTables}
use Rattle.portal_tables.specs.RedemptionLists.{GivesAll}
use Rattle.portal_tables.proofs.GivenLemmas.{opens_alone}
use Rattle.portal_tables.proofs.RedemptionLemmas.{later_extends, more_cmp}
use Rattle.portal_tables.proofs.SessionRows.{opened_told}
use Rattle.portal_tables.proofs.ShownLemmas.{shown_weaker}
use Rattle.portal_tables.proofs.redemptions.has_extended.Goals as goal

pub returns-then-gt : goal.returns-then-gt
returns-then-gt g c =
    let grant = c.args.grant.now in
    let session = c.args.session.now in
    let late : session.opened < grant.moment = more_cmp grant.moment session.opened c.if-gt.ensures in
    record {
      found = λ clean live h shown has is number. sym (later_extends h shown.0 grant session.opened has
          (opened_told h session grant.session is number) late);
      looks = reads_none HasTables _;
    }

pub returns-then-has_given_all : goal.returns-then-has_given_all
returns-then-has_given_all g c =
    let grant = c.args.grant.now in
    let session = c.args.session.now in
    let all : GivesAll grant session = c.has_given_all.ensures.0 c.if-has_given_all.true in
    record {
      found = λ clean live h shown has is number. sym (opens_alone h grant session has is number all);
      looks = reads_none HasTables _;
    }

pub returns-else-has_given_all : goal.returns-else-has_given_all
returns-else-has_given_all g c =
    let grant = c.args.grant.now in
    let session = c.args.session.now in
    shown_weaker g.S.Store (λ h legal x found has is number.
    found (opened_told h session grant.session is number)) c.is_in_older.ensures
