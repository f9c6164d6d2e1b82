use Rattle.portal_commands.proofs.Common.{inl, inr, Keeps-refl, running}
use Rattle.portal_commands.proofs.asking.ask_database.Goals as goal

pub returns-in-Err-clause-over : goal.returns-in-Err-clause-over
returns-in-Err-clause-over g c = inl (
  c.in-Err.trouble,
  c.in-Err.ensures.why,
  (c.report.ensures.status, Keeps-refl _, c.report.ensures.prints),
)

pub returns-in-Ok-clause-over : goal.returns-in-Ok-clause-over
returns-in-Ok-clause-over g c =
    let call = c.ask_desk-status in
    inr (
      _,
      c.in-Ok.ensures.same_settings,
      (
        c.in-Ok.desk,
        call.new.desk,
        g.E.Write.contents call.new.errors,
        c.in-Ok.ensures.opened,
        c.close_opened_desk.ensures,
        call.ensures.ends,
        λ honest.
            let was = call.ensures.settings.fault_free honest in (
              was,
              c.in-Ok.ensures.found was,
              λ L holds_ledger.
                  let at = c.in-Ok.ensures.represents L holds_ledger was in
                  let it = call.ensures.asks honest (running L) at in (
                    at,
                    (
                      it.0,
                      it.1,
                      λ files may. let left = g.met.P.Stored.Desk.leaves call.new.desk it.0 it.1 files may in
                          (left.0, left.1, left.2, g.met.P.Stored.Desk.sound files left.0 left.2),
                      it.2,
                    ),
                  ),
            ),
      ),
    )

pub returns-in-Err-clause-exact : goal.returns-in-Err-clause-exact
returns-in-Err-clause-exact g c = inl (
  c.in-Err.trouble,
  c.in-Err.ensures.why,
  (c.report.ensures.status, Keeps-refl _, c.report.ensures.prints),
)

pub returns-in-Ok-clause-exact : goal.returns-in-Ok-clause-exact
returns-in-Ok-clause-exact g c =
    let call = c.ask_desk-status in
    inr (
      c.in-Ok.desk,
      call.new.desk,
      g.E.Write.contents call.new.errors,
      c.in-Ok.ensures.opened,
      c.close_opened_desk.ensures,
      (
        call.ensures.exact.0,
        call.ensures.exact.2,
        λ honest.
            let was = call.ensures.settings.fault_free honest in (
              was,
              c.in-Ok.ensures.found was,
              λ L holds_ledger. c.in-Ok.ensures.represents L holds_ledger was,
              call.ensures.exact.1 honest,
            ),
      ),
    )
