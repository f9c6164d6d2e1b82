use Rattle.portal_desk_store.proofs.Common.{◌≡◌, take, paid_days}
use Rattle.portal_desk_store.proofs.lists.payments_with_days.Given as goal

abbrev pub invariant-loop-at : goal.invariant-loop-at
invariant-loop-at l = l.pairs.items ≡ paid_days l.settings.zone (take l.at-index l.payments)
