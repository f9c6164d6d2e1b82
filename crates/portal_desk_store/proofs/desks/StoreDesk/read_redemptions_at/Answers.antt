use Rattle.portal_desk_store.proofs.Common.{inr, refl}
use Rattle.portal_desk_store.proofs.RedemptionLemmas.{listed_found, unknown_told}
use Rattle.portal_desk_store.proofs.StepLemmas.{answered, from_ledger, go_on}
use Rattle.portal_desk_store.proofs.desks.StoreDesk.read_redemptions_at.Goals as goal

pub returns-then-not-is_held : goal.returns-then-not-is_held
returns-then-not-is_held g c = record {
  rest = (refl, refl, refl);
  fault_free = c.in_ok-is_held.ensures.fault_free;
  stops = inr (λ e. cc, c.in_ok-is_held.ensures.stops);
  step = λ honest before at.
      let it = c.in_ok-is_held.ensures.found honest before at in (
        it.0,
        it.1,
        unknown_told c.args.code.now c.args.at c.in_ok-is_held.is_held c.if-not-is_held.true before it.0 it.3,
      );
}

pub returns : goal.returns
returns g c = go_on (answered c.in_ok-is_held.ensures) (from_ledger c.list_redemptions.ensures)
    (λ L legal is x step. listed_found (λ found. (found.0.items, found.1)) L c.args.code.now c.args.at
    c.in_ok-is_held.is_held c.list_redemptions.result x c.if-not-is_held.false is step)
