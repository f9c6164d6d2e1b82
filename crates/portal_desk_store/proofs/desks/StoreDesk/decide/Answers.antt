use Rattle.std.proofs.Common.{arith}
use Rattle.portal_desk_store.proofs.HeadLemmas.{go_on_by_head, judged_stays}
use Rattle.portal_desk_store.proofs.JudgeLemmas.{decided_so}
use Rattle.portal_desk_store.proofs.desks.StoreDesk.decide.Goals as goal

pub returns : goal.returns
returns g c = go_on_by_head c.in_ok-head.ensures c.judge_by_head.ensures
    (λ L legal is x judged. (
      judged_stays c.judge_by_head.result c.args.command.now c.effective.result L x (judged is),
      decided_so c.args.command.now c.args.moment c.effective.result c.in_ok-head.head c.effective.ensures
          c.command_is_typed.ensures c.requires (omega arith) L legal is c.judge_by_head.result x (judged is),
    ))
