use Rattle.portal_commands.proofs.Common.{inl, subst, SettingsValue, running, is_stopped_state, between}
use Rattle.portal_commands.proofs.Common.{ServesInOrder, EndsAnswering}
use Rattle.portal_commands.proofs.answering.answer_from_file.Goals as goal

pub returns-in-Ok : goal.returns-in-Ok
returns-in-Ok g c =
    let call = c.answer_at-answered in
    let ends = c.exit_code_of_answer-status in
    let wire = between (g.R.Read.remaining c.args.input.now) (g.R.Read.remaining call.new.input)
    (g.W.Write.contents c.args.output.now) (g.W.Write.contents call.new.output) in
    inl (
      c.in-Ok.desk,
      call.new.desk,
      g.E.Write.contents ends.new.errors,
      c.in-Ok.ensures.opened,
      c.close_opened_desk.ensures,
      (call.ensures.wire.0, call.result, call.ensures.wire.1, ends.ensures),
      λ honest.
          let was = call.ensures.settings.fault_free honest in (
            was,
            c.in-Ok.ensures.found was,
            λ L holds_ledger.
                let at = c.in-Ok.ensures.represents L holds_ledger was in
                let it = call.ensures.serves honest (running L) at in (
                  at,
                  (
                    it.0,
                    it.1,
                    λ files may. let left = g.met.P.Stored.Desk.leaves call.new.desk it.0 it.1 files may in
                        (left.0, left.1, left.2, g.met.P.Stored.Desk.sound files left.0 left.2),
                    (
                      call.result,
                      subst (λ (s : SettingsValue). EndsAnswering wire c.args.moment c.args.seed
                          (λ arrivals responses. ServesInOrder s (running L) arrivals responses it.0)
                          (is_stopped_state it.0) call.result)
                          c.in-Ok.ensures.same_settings it.2,
                      ends.ensures,
                    ),
                  ),
                ),
          ),
    )
