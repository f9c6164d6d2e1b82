use Rattle.portal_model.proofs.Common.{◌≡◌}
use Rattle.std.specs.Prelude.{take}
use Rattle.portal_model.specs.Batches.{batch_state}
use Rattle.portal_model.proofs.batches.batch_state.Given as goal

abbrev pub invariant-loop-voucher : goal.invariant-loop-voucher
invariant-loop-voucher l = l.state ≡ batch_state l.batch (take l.voucher-index l.vouchers)
