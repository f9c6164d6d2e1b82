use Rattle.portal_commands.proofs.Common.{inl, inr, Keeps-refl, running}
use Rattle.portal_commands.proofs.serving.serve.Goals as goal

pub returns-in-Err : goal.returns-in-Err
returns-in-Err g c = inl (
  c.in-Err.trouble,
  c.in-Err.ensures.why,
  (c.report.ensures.status, Keeps-refl _, c.report.ensures.prints),
)

pub returns-in-Ok : goal.returns-in-Ok
returns-in-Ok g c =
    let call = c.serve_at-status in
    inr (
      _,
      c.in-Ok.ensures.same_settings,
      (
        c.in-Ok.desk,
        call.new.desk,
        g.E.Write.contents call.new.errors,
        c.in-Ok.ensures.opened,
        c.close_opened_desk.ensures,
        call.ensures.prints,
        λ honest.
            let was = call.ensures.settings.fault_free honest in (
              was,
              c.in-Ok.ensures.found was,
              λ L holds_ledger.
                  let at = c.in-Ok.ensures.represents L holds_ledger was in
                  let it = call.ensures.serves honest (running L) at in (
                    at,
                    (
                      it.0,
                      it.1,
                      λ files may. let left = g.met.P.Stored.Desk.leaves call.new.desk it.0 it.1 files may in
                          (left.0, left.1, left.2, g.met.P.Stored.Desk.sound files left.0 left.2),
                      it.2,
                    ),
                  ),
            ),
      ),
      (
        c.in-Ok.desk,
        call.new.desk,
        g.E.Write.contents call.new.errors,
        c.in-Ok.ensures.opened,
        c.close_opened_desk.ensures,
        call.ensures.prints,
        λ honest.
            let was = call.ensures.settings.fault_free honest in (
              was,
              c.in-Ok.ensures.found was,
              λ L holds_ledger.
                  let at = c.in-Ok.ensures.represents L holds_ledger was in
                  let it = call.ensures.turns honest (running L) at in (
                    at,
                    (
                      it.0,
                      it.1,
                      λ files may. let left = g.met.P.Stored.Desk.leaves call.new.desk it.0 it.1 files may in
                          (left.0, left.1, left.2, g.met.P.Stored.Desk.sound files left.0 left.2),
                      it.2,
                    ),
                  ),
            ),
      ),
    )
