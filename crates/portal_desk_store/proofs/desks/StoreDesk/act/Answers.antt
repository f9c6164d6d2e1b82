use Rattle.std.proofs.Common.{None}
use Rattle.portal_desk_store.proofs.ActLemmas.{carries}
use Rattle.portal_desk_store.proofs.desks.StoreDesk.act.Goals as goal

pub returns : goal.returns
returns g c =
    let keep = c.finish_with_answer.ensures in
    carries g.S.Store c.args.command c.args.moment None c.finish_with_answer.result c.in_ok-prepared.ensures
    keep.same_settings keep.fault_free keep.stops keep.keep
