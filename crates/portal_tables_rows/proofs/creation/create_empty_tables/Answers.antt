use Rattle.portal_tables_rows.proofs.Common.{arith, ◌∙◌, rules, state, HasCleanDisk, no_rows}
use Rattle.portal_tables_sql.specs.Tables.{current_tables}
use Rattle.portal_tables_rows.proofs.OthersLemmas.{others_then}
use Rattle.portal_tables_rows.proofs.MakeLemmas.{others_still}
use Rattle.portal_tables_rows.proofs.NewTables.{made_holds}
use Rattle.portal_tables_rows.proofs.creation.create_empty_tables.Goals as goal

pub returns : goal.returns
returns g c = record {
  same_reference = search rules;
  steps = λ clean inside.
      let a = state g.S.Store c.args.tx.now.conn.now in
      let b = state g.S.Store c.create_tables.new.tx.conn.now in
      let d = state g.S.Store c.create_indexes.new.tx.conn.now in
      let c1 : HasCleanDisk b = omega (arith, c.create_indexes.ensures.survives.clean) in
      let one = c.in_ok-create_tables.ensures.steps c1 inside in
      let two = c.in_ok-create_indexes.ensures.steps clean one.mode in
      record {
        holds = λ free. two.holds no_rows (made_holds a.now b.now free (one.made free.numbered).0);
        others = λ free.
            let made = (one.made free.numbered).0 in
            others_then a.now b.now d.now (others_still current_tables a.now b.now made)
            (two.others no_rows (made_holds a.now b.now free made));
        committed = two.committed ∙ one.committed;
        mode = two.mode;
      };
  kept = search rules;
  survives = search rules;
}
