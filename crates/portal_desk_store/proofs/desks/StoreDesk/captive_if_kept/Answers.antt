use Rattle.portal_desk_store.proofs.Common.{refl, sym, ◌∙◌}
use Rattle.portal_desk_store.proofs.KeptLemmas.{captive_kept}
use Rattle.portal_desk_store.proofs.desks.StoreDesk.captive_if_kept.Goals as goal

-- a running desk that keeps a list
pub returns-in-Some : goal.returns-in-Some
returns-in-Some g c =
    let desk = c.args.self.now in
    record {
      same_settings = refl;
      fault_free = λ honest. honest;
      stops = refl;
      step = λ honest before at. (
        before,
        at,
        captive_kept g.S.Store desk.tables desk.open c.in-Some.list c.captive_at.result c.args.device.now
            c.args.moment c.in-Some.is c.captive_at.ensures before at.0 at.1
            (sym (c.is_stopped.ensures.over before at) ∙ c.if-is_stopped.false),
      );
    }
