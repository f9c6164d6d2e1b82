use Rattle.portal_commands.proofs.Common.{[], inl, subst, SettingsValue, running, is_stopped_state, between}
use Rattle.portal_commands.proofs.Common.{ServesInOrder, EndsAnswering}
use Rattle.portal_commands.proofs.answering.answer_in_memory.Goals as goal

pub returns-in-Ok : goal.returns-in-Ok
returns-in-Ok g c =
    let call = c.answer_at-answered in
    let it = call.ensures.serves (g.met.P.Place.is_fresh_fault_free call.new.desk) (running [])
    c.in-Ok.ensures.fresh in
    let wire = between (g.R.Read.remaining c.args.input.now) (g.R.Read.remaining call.new.input)
    (g.W.Write.contents c.args.output.now) (g.W.Write.contents call.new.output) in
    inl (
      it.0,
      call.result,
      subst (λ (s : SettingsValue). EndsAnswering wire c.args.moment c.args.seed (λ arrivals responses.
          ServesInOrder s (running []) arrivals responses it.0) (is_stopped_state it.0) call.result)
          c.in-Ok.ensures.same_settings it.2,
      c.exit_code_of_answer.ensures,
    )
