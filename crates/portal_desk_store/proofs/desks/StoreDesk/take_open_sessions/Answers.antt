use Rattle.portal_desk_store.proofs.KeptLemmas.{has_read, keeps_none}
use Rattle.portal_desk_store.proofs.desks.StoreDesk.take_open_sessions.Goals as goal

-- the list is read from the tables, and none is kept
pub returns-in-None : goal.returns-in-None
returns-in-None g c =
    let call = c.find_sessions_open_at_last.ensures in
    record {
      same_settings = call.same_settings;
      fault_free = call.fault_free;
      stops = call.stops;
      step = λ honest before at.
          let none = keeps_none c.take.new.self c.take.ensures.after before in
          let got = call.step honest before (at.0, none, at.2) in (
            got.0,
            got.1,
            has_read g.S.Store c.args.self.now.tables
                c.find_sessions_open_at_last.result before got.0 at.0 got.2,
          );
    }
