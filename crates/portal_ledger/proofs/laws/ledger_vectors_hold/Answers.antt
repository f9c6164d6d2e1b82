use Rattle.std.proofs.Common.{refl}
use Rattle.portal_ledger.proofs.laws.ledger_vectors_hold.Goals as goal

pub returns-clause-redemption_with_key : goal.returns-clause-redemption_with_key
returns-clause-redemption_with_key c = ((_, refl, refl, refl), refl, refl, (refl, refl), (refl, refl))

pub returns-clause-refused_key_is_free : goal.returns-clause-refused_key_is_free
returns-clause-refused_key_is_free c = ((refl, refl), (_, refl, refl, refl))

pub returns-clause-batch_with_key : goal.returns-clause-batch_with_key
returns-clause-batch_with_key c = ((_, refl, refl, refl), (refl, refl))
