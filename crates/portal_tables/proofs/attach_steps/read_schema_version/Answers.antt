use Rattle.portal_tables.proofs.Common.{subst, sym, state, QueryAnswers}
use Rattle.portal_tables.proofs.AttachLemmas.{tells_by}
use Rattle.portal_tables.proofs.attach_steps.read_schema_version.Goals as goal

pub returns-in-Ok-clause-gives_version : goal.returns-in-Ok-clause-gives_version
returns-in-Ok-clause-gives_version g c clean =
    let it = c.in-Ok.ensures.answers clean in
    let old = (state g.S.Store c.args.conn.now).now in (
      tells_by old c.as_slice.result.now c.schema_version_in.result
          (subst (QueryAnswers old) (sym c.as_slice.ensures.value) it.0) c.schema_version_in.ensures.one
          c.schema_version_in.ensures.none,
      it.1,
    )
