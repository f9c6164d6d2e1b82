use Rattle.portal_desk_store.proofs.Common.{◌≡◌, ap, ◌∙◌, max}
use Rattle.portal_model.specs.declared.record.Head.{Head}
use Rattle.portal_desk_store.proofs.HeadLemmas.{go_on_by_head}
use Rattle.portal_desk_store.proofs.RedemptionLemmas.{at_effective, listed_at, listed_stays}
use Rattle.portal_desk_store.proofs.StepLemmas.{from_ledger}
use Rattle.portal_desk_store.proofs.desks.StoreDesk.read_redemptions.Goals as goal

pub returns : goal.returns
returns g c =
    let code = c.args.code.now in
    let moment = c.args.moment in
    let result = c.read_redemptions_at.result in
    go_on_by_head c.in_ok-head.ensures (from_ledger c.read_redemptions_at.ensures)
    (λ L legal is x step. (
      listed_stays (listed_at code c.effective.result) (λ found listed _. (found.0.items, found.1) ≡ listed)
          result L x step,
      at_effective (λ found listed _. (found.0.items, found.1) ≡ listed) code moment c.effective.result
          result L x (c.effective.ensures ∙ ap (λ (h : Head). max moment h.last) is) step,
    ))
