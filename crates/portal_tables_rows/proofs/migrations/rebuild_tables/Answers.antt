use Rattle.portal_tables_rows.proofs.Common.{arith, subst, rules, state, HasCleanDisk}
use Rattle.portal_tables_rows.specs.Creation.{DropsTables}
use Rattle.portal_tables_rows.proofs.RestoreLemmas.{restored}
use Rattle.portal_tables_rows.proofs.migrations.rebuild_tables.Goals as goal

pub returns : goal.returns
returns g c = record {
  same_reference = search rules;
  steps = λ clean inside free.
      let a = state g.S.Store c.args.tx.now.conn.now in
      let b = state g.S.Store c.drop_tables.new.tx.conn.now in
      let d = state g.S.Store c.create_empty_tables.new.tx.conn.now in
      let e = state g.S.Store c.insert_tables.new.tx.conn.now in
      let c2 : HasCleanDisk d = omega (arith, c.insert_tables.ensures.survives.clean) in
      let c1 : HasCleanDisk b = omega (arith, c.create_empty_tables.ensures.survives.clean) in
      let drops = subst (λ tables. DropsTables tables a b) c.tables_of.ensures
      (c.in_ok-drop_tables.ensures.steps c1 inside) in
      let creates = c.in_ok-create_empty_tables.ensures.steps c2 drops.mode in
      restored c.args.from c.args.read.now a b d e free drops creates
      (c.in_ok-insert_tables.ensures.steps clean creates.mode);
  kept = search rules;
  survives = search rules;
}
