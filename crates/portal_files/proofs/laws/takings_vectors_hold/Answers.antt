use Rattle.portal_files.proofs.TakingsVectors.{takings_local_day, takings_refund_day}
use Rattle.portal_files.proofs.laws.takings_vectors_hold.Goals as goal

pub returns-clause-takings_local_day : goal.returns-clause-takings_local_day
returns-clause-takings_local_day c = takings_local_day

pub returns-clause-takings_refund_day : goal.returns-clause-takings_refund_day
returns-clause-takings_refund_day c = takings_refund_day
