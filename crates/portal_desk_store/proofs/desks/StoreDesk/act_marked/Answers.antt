use Rattle.std.proofs.Common.{Some}
use Rattle.portal_desk_store.proofs.ActLemmas.{carries, fresh_first}
use Rattle.portal_desk_store.proofs.desks.StoreDesk.act_marked.Goals as goal

pub returns-in-Fresh : goal.returns-in-Fresh
returns-in-Fresh g c =
    let mark = c.args.mark.now in
    let first = fresh_first g.S.Store c.args.command c.args.moment mark c.in-Fresh.is c.in_ok-fresh.ensures in
    let keep = c.finish_with_answer.ensures in
    carries g.S.Store c.args.command c.args.moment (Some mark) c.finish_with_answer.result first
    keep.same_settings keep.fault_free keep.stops keep.keep
