use Rattle.portal_tables_rows.proofs.Common.{arith, ◌∙◌, rules, state, HasCleanDisk, no_rows}
use Rattle.portal_tables_rows.proofs.OthersLemmas.{others_then}
use Rattle.portal_tables_rows.proofs.creation.create_schema_inside.Goals as goal

pub returns : goal.returns
returns g c = record {
  same_reference = search rules;
  steps = λ clean inside free.
      let a = state g.S.Store c.args.tx.now.conn.now in
      let b = state g.S.Store c.create_empty_tables.new.tx.conn.now in
      let d = state g.S.Store c.insert_head.new.tx.conn.now in
      let c1 : HasCleanDisk b = omega (arith, c.insert_head.ensures.survives.clean) in
      let one = c.in_ok-create_empty_tables.ensures.steps c1 inside in
      let two = c.in_ok-insert_head.ensures.steps clean one.mode in
      record {
        holds = two.holds no_rows (one.holds free);
        others = others_then a.now b.now d.now (one.others free)
            (two.others no_rows (one.holds free));
        committed = two.committed ∙ one.committed;
        mode = two.mode;
      };
  kept = search rules;
  survives = search rules;
}
