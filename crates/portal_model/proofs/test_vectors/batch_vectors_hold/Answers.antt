use Rattle.std.proofs.Common.{refl}
use Rattle.portal_model.proofs.test_vectors.batch_vectors_hold.Goals as goal

pub returns : goal.returns
returns c = record {
  states = (refl, refl, refl, refl, refl, refl, refl);
  beginnings = (refl, refl, refl, refl, refl, refl);
  order = (refl, refl, refl, refl, refl, refl, refl, refl, refl);
  redemptions = (refl, refl, refl, refl, refl, refl, refl);
}
