use Rattle.portal_http.proofs.Common.{running, bytes_of_responses}
use Rattle.portal_http.proofs.HeadlineLemmas.{survives}
use Rattle.portal_http.proofs.runs.run.Goals as goal

pub returns : goal.returns
returns g c =
    let desk = g.D.Desk in
    let ran = c.serve_each.ensures.desk in
    record {
      same_settings = ran.same_settings;
      err = c.serve_each.ensures.err;
      fault_free = ran.fault_free;
      stays = ran.stays;
      serves = λ honest old represents. let it = ran.step honest old represents in
          (it.0, it.2.0, it.1, it.2.1, it.2.2, it.2.3);
      survives = λ honest L represents.
          let it = ran.step honest (running L) represents in (
            it.2.0,
            it.2.1,
            survives (desk.settings c.args.desk.now) desk.Files (desk.is_crash_state c.serve_each.new.desk)
                desk.holds_ledger L c.args.arrivals.now (bytes_of_responses it.2.0) it.0 it.2.2
                (λ files may. g.met.D.Desk.leaves c.serve_each.new.desk it.0 it.1 files may)
                (λ files found shown. g.met.D.Desk.sound files found shown),
          );
    }
