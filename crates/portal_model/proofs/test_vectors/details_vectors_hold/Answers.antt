use Rattle.std.proofs.Common.{refl}
use Rattle.portal_model.proofs.test_vectors.details_vectors_hold.Goals as goal

pub returns : goal.returns
returns c = record {
  hour = (refl, refl, refl, refl, refl, refl, refl);
  bytes = refl;
  both = (refl, refl, refl, refl);
  last = (refl, refl, refl);
}
