use Rattle.portal_tables_rows.proofs.Common.{arith, rules, state, HasCleanDisk, Contents, this_schema_version}
use Rattle.portal_tables_rows.proofs.Common.{with_schema_version, with_copied, with_whole}
use Rattle.portal_tables_rows.proofs.MigrateLemmas.{rebuilt_then}
use Rattle.portal_tables_rows.proofs.migrations.migrate_inside.Goals as goal

pub returns : goal.returns
returns g c = record {
  same_reference = search rules;
  steps = λ clean inside room.
      let c2 : HasCleanDisk (state g.S.Store c.insert_whole_rows.new.tx.conn.now) =
      omega (arith, c.set_schema_version.ensures.survives.clean) in
      let c1 : HasCleanDisk (state g.S.Store c.rebuild_tables.new.tx.conn.now) =
      omega (arith, c.insert_whole_rows.ensures.survives.clean) in
      let from = c.args.from in
      let read = c.args.read.now in
      let add : Contents → Contents = with_whole c.args.vouchers.now c.args.sessions.now in
      let one = c.in_ok-rebuild_tables.ensures.steps c1 inside room in
      let two = c.in_ok-insert_whole_rows.ensures.steps c2 one.mode in
      let three = c.in_ok-set_schema_version.ensures.steps clean two.mode in
      let both = rebuilt_then from read (with_copied from) add _ _ _ one two in
      rebuilt_then from read (λ (t : Contents). add (with_copied from t))
      (with_schema_version this_schema_version) _ _ _ both three;
  kept = search rules;
  survives = search rules;
}
