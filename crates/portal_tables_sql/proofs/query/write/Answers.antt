use Rattle.portal_tables_sql.proofs.Frame.{kept_inside}
use Rattle.portal_tables_sql.proofs.InsideLemmas.{on_failed}
use Rattle.portal_tables_sql.proofs.query.write.Goals as goal

pub returns : goal.returns
returns g c = record {
  same_reference = c.execute.ensures.same_reference;
  steps = λ clean inside. record {
    count = c.in_ok-execute.field-0;
    executes = c.in_ok-execute.ensures.runs clean inside;
  };
  kept = λ clean. kept_inside g.S.Store c.args.tx.now.conn.now c.execute.new.self.conn.now _ _ _ _
      c.execute.ensures.ended (c.execute.ensures.runs clean);
  survives = c.execute.ensures.survives;
}

pub returns-in_err-execute : goal.returns-in_err-execute
returns-in_err-execute g c = record {
  same_reference = c.execute.ensures.same_reference;
  steps = λ clean inside. on_failed c.from_residual.result _ _ c.from_residual.ensures.1;
  kept = λ clean. kept_inside g.S.Store c.args.tx.now.conn.now c.execute.new.self.conn.now _ _ _ _
      c.execute.ensures.ended (c.execute.ensures.runs clean);
  survives = c.execute.ensures.survives;
}
