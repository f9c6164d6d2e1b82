use Rattle.portal_tables_rows.proofs.Common.{ap, sym, subst, ◌∙◌, arith, map, state}
use Rattle.portal_tables_rows.proofs.Common.{Anything, HasCleanDisk}
use Rattle.portal_tables_rows.proofs.Common.{reads_then, fails_then, take_all, same_now}
use Rattle.portal_tables_rows.proofs.Common.{err_from_is_err_and}
use Rattle.portal_tables_rows.proofs.Common.{reads_fails, get_or, Has, Database, HoldsTables}
use Rattle.sqlite_rules.proofs.ListLemmas.{has_at}
use Rattle.portal_tables_rows.proofs.CopySteps.{same_got}
use Rattle.portal_tables_sql.specs.declared.copied_tables.CopiedTable.TheVariants as copied
use Rattle.portal_tables_rows.proofs.Compose.{made_more}
use Rattle.portal_tables_rows.specs.Copying.{cells_of, table_read}
use Rattle.portal_tables_rows.proofs.copies.read_tables.Goals as goal

pub loop-table-init : goal.loop-table-init
loop-table-init g c = record {
  looks = c.in_ok-heads.ensures.looks;
  read = λ clean live layout v indexes t h on. ap (map table_read) c.new-read.ensures.items;
}

pub loop-table-preserved : goal.loop-table-preserved
loop-table-preserved g c =
    let a = state g.S.Store c.args.conn.now in
    let b = state g.S.Store c.loop-table.conn in
    let d = state g.S.Store c.read_whole-in-loop-table.new.conn in
    let before = c.loop-table.invariant.looks in
    record {
      looks = reads_then Anything a b d before c.in_ok-rows.ensures.looks;
      read = λ clean live layout v indexes t h on.
          let late : HasCleanDisk b = omega (arith, clean, c.in_ok-rows.ensures.looks.crash.clean) in
          let same = same_now Anything a b before late live tt in
          let x = get_or c.args.tables.now c.loop-table.table-index copied.Head in
          let is = same_got c.args.tables.now c.loop-table.table-index copied.Head x c.loop-table-test.true in
          let has : Has c.args.tables.now x =
          has_at c.args.tables.now c.loop-table.table-index x c.loop-table-test.true is in
          let rows = c.in_ok-rows.ensures.rows clean layout v indexes t
          (subst (λ (db : Database). HoldsTables layout v indexes db t) (sym same) h) (on x has) in
          made_more table_read (λ x. (x, cells_of x t)) c.loop-table.read.items c.push.new.self.items _
          c.args.tables.now c.loop-table.table-index x
          (c.loop-table.invariant.read late live layout v indexes t h on)
          c.in_ok-push.ensures.items c.loop-table-test.true is (ap (λ rows. (x, rows)) rows);
    }

pub returns-clause-read : goal.returns-clause-read
returns-clause-read g c = λ clean live layout v indexes t h on.
    c.loop-table.invariant.read clean live layout v indexes t h on
    ∙ ap (map (λ x. (x, cells_of x t))) (take_all c.loop-table.table-index c.args.tables.now
    c.loop-table-test.false)

pub returns-in_err-rows-clause-looks : goal.returns-in_err-rows-clause-looks
returns-in_err-rows-clause-looks g c =
    let told = err_from_is_err_and c.from_residual-in_err-rows.result c.from_residual-in_err-rows.ensures.1 in
    rw told.1 (fails_then Anything _ _ _ c.loop-table.invariant.looks c.in_err-rows.ensures.looks)

pub returns-in_err-push-clause-looks : goal.returns-in_err-push-clause-looks
returns-in_err-push-clause-looks g c =
    let told = err_from_is_err_and c.from_residual-in_err-push.result c.from_residual-in_err-push.ensures.1 in
    rw told.1 (reads_fails Anything _ _ (reads_then Anything _ _ _ c.loop-table.invariant.looks
    c.in_ok-rows.ensures.looks))
