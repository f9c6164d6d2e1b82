use Rattle.portal_tables.proofs.Common.{◌≡◌, ◌≢◌, ◌<◌, ◌∙◌, ℕ, sym, ap, arith, state, HasCleanDisk}
use Rattle.portal_tables.proofs.Common.{reads_then, HasTables, grants_of}
use Rattle.portal_model.specs.Redemptions.{is_in_session}
use Rattle.portal_tables.specs.RedemptionLists.{grants_below}
use Rattle.portal_tables.proofs.RedemptionLemmas.{below_low, found_before, less_cmp, none_before}
use Rattle.portal_tables.proofs.RedemptionLemmas.{none_older}
use Rattle.portal_tables.proofs.ShownLemmas.{next_fails, shown_after, open_after}
use Rattle.portal_tables.proofs.redemptions.is_in_older.Goals as goal

pub returns-in_err-older : goal.returns-in_err-older
returns-in_err-older g c = next_fails g.S.Store _ c.from_residual.result c.from_residual.ensures.1
    c.loop-next.invariant.looks c.in_err-older.ensures.looks

pub returns-then-older-session : goal.returns-then-older-session
returns-then-older-session g c =
    let a = state g.S.Store c.args.conn.now in
    let b = state g.S.Store c.loop-next.conn in
    let before = c.loop-next.invariant in
    let one = c.in_ok-older.ensures in
    let more : 1 < c.loop-next.next = c.loop-next-test.true in
    let same : c.in_ok-older.older.session ≡ c.args.session = c.if-older-session.true in
    record {
      found = λ clean live h shown opened.
          let clean1 : HasCleanDisk b = omega (arith, one.looks.crash.clean) in
          let shown1 = shown_after h a b before.looks clean1 live shown in
          let live1 = open_after h a b before.looks clean1 live shown in
          let is = one.found clean live1 h shown1 in
          sym (before.found clean1 live h shown opened
          ∙ found_before h shown.0 c.in_ok-older.older c.args.session c.loop-next.next more is.0 is.1 same);
      looks = reads_then HasTables _ _ _ before.looks one.looks;
    }

pub returns-then-lt : goal.returns-then-lt
returns-then-lt g c =
    let a = state g.S.Store c.args.conn.now in
    let b = state g.S.Store c.loop-next.conn in
    let before = c.loop-next.invariant in
    let one = c.in_ok-older.ensures in
    let older = c.in_ok-older.older in
    let session = c.args.session in
    let next = c.loop-next.next in
    let more : 1 < next = c.loop-next-test.true in
    let other : older.session ≢ session = c.if-older-session.false in
    let early : older.moment < c.args.opened =
    less_cmp older.moment c.args.opened c.if-lt.ensures in
    record {
      found = λ clean live h shown opened.
          let clean1 : HasCleanDisk b = omega (arith, one.looks.crash.clean) in
          let shown1 = shown_after h a b before.looks clean1 live shown in
          let live1 = open_after h a b before.looks clean1 live shown in
          let is = one.found clean live1 h shown1 in
          sym (before.found clean1 live h shown opened
          ∙ none_before h shown.0 older session next more is.0 is.1 other
          ∙ ap (λ (n : ℕ). is_in_session session (grants_below (grants_of h) n)) (sym is.1)
          ∙ none_older h shown.0 older session c.args.opened is.0 opened early);
      looks = reads_then HasTables _ _ _ before.looks one.looks;
    }

pub loop-next-preserved : goal.loop-next-preserved
loop-next-preserved g c =
    let a = state g.S.Store c.args.conn.now in
    let b = state g.S.Store c.loop-next.conn in
    let before = c.loop-next.invariant in
    let one = c.in_ok-older.ensures in
    let more : 1 < c.loop-next.next = c.loop-next-test.true in
    let other : c.in_ok-older.older.session ≢ c.args.session = c.if-older-session.false in
    record {
      low = omega (arith, before.low);
      found = λ clean live h shown opened.
          let clean1 : HasCleanDisk b = omega (arith, one.looks.crash.clean) in
          let shown1 = shown_after h a b before.looks clean1 live shown in
          let live1 = open_after h a b before.looks clean1 live shown in
          let is = one.found clean live1 h shown1 in
          before.found clean1 live h shown opened
          ∙ none_before h shown.0 c.in_ok-older.older c.args.session c.loop-next.next more is.0 is.1 other;
      looks = reads_then HasTables _ _ _ before.looks one.looks;
    }

pub returns : goal.returns
returns g c = record {
  found = λ clean live h shown opened.
      sym (c.loop-next.invariant.found clean live h shown opened
      ∙ ap (is_in_session c.args.session) (below_low (grants_of h) c.loop-next.next (omega arith)));
  looks = c.loop-next.invariant.looks;
}
