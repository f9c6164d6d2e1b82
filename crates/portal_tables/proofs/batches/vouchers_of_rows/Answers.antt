use Rattle.portal_tables.proofs.Common.{◌≡◌, ◌++◌, ◌∙◌, ◌<◌, Option, Some, ap, ap₂, sym, subst, arith}
use Rattle.portal_tables.proofs.Common.{All, map, length, filter_map, take_all, state, HasCleanDisk, IsCode}
use Rattle.portal_tables.proofs.Common.{voucher_of, reads_then, HasTables}
use Rattle.sqlite_rules.proofs.ListLemmas.{has_at}
use Rattle.portal_model.specs.declared.record.Voucher.{Voucher}
use Rattle.std.specs.Option.{option_to_list}
use Rattle.std.proofs.lemmas.List.Elements.{All-more}
use Rattle.portal_tables_rows.specs.declared.rows.VoucherValue.{VoucherValue}
use Rattle.portal_tables.proofs.BatchLemmas.{code_of_row, vouchers_more}
use Rattle.portal_tables.proofs.ShownLemmas.{made_fails, next_fails, shown_after, open_after}
use Rattle.portal_tables.proofs.batches.vouchers_of_rows.Goals as goal

pub returns-in_err-terms-clause-reads : goal.returns-in_err-terms-clause-reads
returns-in_err-terms-clause-reads g c =
    next_fails g.S.Store _ c.from_residual.result c.from_residual.ensures.1 c.loop-row.invariant.looks
    c.in_err-terms.ensures.reads.looks

pub returns-in_err-push-clause-reads : goal.returns-in_err-push-clause-reads
returns-in_err-push-clause-reads g c =
    made_fails g.S.Store _ c.from_residual-in_err-push.result c.from_residual-in_err-push.ensures.1
    (reads_then HasTables _ _ _ c.loop-row.invariant.looks c.in_ok-terms.ensures.reads.looks)

pub loop-row-preserved : goal.loop-row-preserved
loop-row-preserved g c =
    let a = state g.S.Store c.args.conn.now in
    let b = state g.S.Store c.loop-row.conn in
    let rows = c.args.rows.now in
    let row = c.row-item.result in
    let i = c.loop-row.row-index in
    let before = c.loop-row.invariant in
    let within : i < length rows = c.loop-row-test.true in
    let one = c.in_ok-terms.ensures.reads in
    record {
      codes = All-more (λ (r : VoucherValue). IsCode (code_of_row r)) rows i row within before.codes
          (subst (λ (r : VoucherValue). IsCode (code_of_row r)) c.row-item.is c.voucher_of_row.ensures.code);
      found = λ clean live h shown are.
          let clean1 : HasCleanDisk b = omega (arith, one.looks.crash.clean) in
          let shown1 = shown_after h a b before.looks clean1 live shown in
          let live1 = open_after h a b before.looks clean1 live shown in
          let done = before.found clean1 live h shown are in
          let is = one.found clean live1 h shown1 in
          let terms = is done.1 in
          let voucher : Some c.voucher_of_row.result ≡ voucher_of h row.code =
          c.voucher_of_row.ensures.voucher h shown.0 (are row (has_at rows i row within c.row-item.is)) terms
          in (
            c.in_ok-push.ensures.items
                ∙ ap₂ (λ xs (o : Option Voucher). xs ++ option_to_list o) done.0 voucher
                ∙ sym (vouchers_more h rows i row within c.row-item.is),
            terms,
          );
      looks = reads_then HasTables _ _ _ before.looks one.looks;
    }

pub returns-clause-codes : goal.returns-clause-codes
returns-clause-codes g c = subst (All (λ (r : VoucherValue). IsCode (code_of_row r)))
    (take_all c.loop-row.row-index c.args.rows.now c.loop-row-test.false) c.loop-row.invariant.codes

pub returns-clause-reads : goal.returns-clause-reads
returns-clause-reads g c = record {
  found = λ clean live h shown are.
      (c.loop-row.invariant.found clean live h shown are).0
      ∙ ap (λ rs. filter_map (voucher_of h) (map code_of_row rs))
      (take_all c.loop-row.row-index c.args.rows.now c.loop-row-test.false);
  looks = c.loop-row.invariant.looks;
}
