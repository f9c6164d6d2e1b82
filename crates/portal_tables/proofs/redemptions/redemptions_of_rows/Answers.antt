use Rattle.portal_tables.proofs.Common.{◌≡◌, ◌++◌, ◌∙◌, ◌<◌, List, Option, Some, ap, ap₂, sym, arith, map}
use Rattle.portal_tables.proofs.Common.{length, filter_map, take_all, state, HasCleanDisk, reads_then}
use Rattle.portal_tables.proofs.Common.{HasTables}
use Rattle.sqlite_rules.proofs.ListLemmas.{has_at}
use Rattle.std.specs.Option.{option_to_list}
use Rattle.portal_model.specs.declared.redemptions.Redemption.{Redemption}
use Rattle.portal_tables.specs.RedemptionLists.{redemption_numbered}
use Rattle.portal_tables.proofs.RedemptionRows.{redemptions_more, row_number}
use Rattle.portal_tables.proofs.ShownLemmas.{made_fails, next_fails, shown_after, open_after}
use Rattle.portal_tables.proofs.redemptions.redemptions_of_rows.Goals as goal

pub returns-in_err-redemption : goal.returns-in_err-redemption
returns-in_err-redemption g c =
    next_fails g.S.Store _ c.from_residual.result c.from_residual.ensures.1 c.loop-row.invariant.looks
    c.in_err-redemption.ensures.looks

pub returns-in_err-push : goal.returns-in_err-push
returns-in_err-push g c =
    made_fails g.S.Store _ c.from_residual-in_err-push.result c.from_residual-in_err-push.ensures.1
    (reads_then HasTables _ _ _ c.loop-row.invariant.looks c.in_ok-redemption.ensures.looks)

pub loop-row-preserved : goal.loop-row-preserved
loop-row-preserved g c =
    let a = state g.S.Store c.args.conn.now in
    let b = state g.S.Store c.loop-row.conn in
    let rows = c.args.rows.now in
    let row = c.row-item.result in
    let i = c.loop-row.row-index in
    let before = c.loop-row.invariant in
    let within : i < length rows = c.loop-row-test.true in
    let one = c.in_ok-redemption.ensures in
    record {
      found = λ clean live h shown are.
          let clean1 : HasCleanDisk b = omega (arith, one.looks.crash.clean) in
          let shown1 = shown_after h a b before.looks clean1 live shown in
          let live1 = open_after h a b before.looks clean1 live shown in
          let done = before.found clean1 live h shown are in
          let is = one.found clean live1 h shown1 in
          let redemption : Some c.in_ok-redemption.redemption ≡ redemption_numbered h c.args.t row.number =
          is (are row (has_at rows i row within c.row-item.is)) in
          c.in_ok-push.ensures.items
          ∙ ap₂ (λ (xs : List Redemption) (o : Option Redemption). xs ++ option_to_list o) done redemption
          ∙ sym (redemptions_more h c.args.t rows i row within c.row-item.is);
      looks = reads_then HasTables _ _ _ before.looks one.looks;
    }

pub returns : goal.returns
returns g c = record {
  found = λ clean live h shown are.
      c.loop-row.invariant.found clean live h shown are
      ∙ ap (λ rs. filter_map (redemption_numbered h c.args.t) (map row_number rs))
      (take_all c.loop-row.row-index c.args.rows.now c.loop-row-test.false);
  looks = c.loop-row.invariant.looks;
}
