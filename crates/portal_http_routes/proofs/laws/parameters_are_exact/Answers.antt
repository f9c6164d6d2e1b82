use Rattle.portal_http_routes.proofs.Common.{◌≡◌, ℕ, List, [], ◌∷◌, codes, IsSegment, batch_path}
use Rattle.portal_http_routes.proofs.Common.{print_path, redemptions_path, session_path, voucher_path}
use Rattle.portal_http_routes.specs.Targets.{after, parameter_of}
use Rattle.portal_http_routes.proofs.TargetLemmas.{before_segment, before_last}
use Rattle.portal_http_routes.proofs.laws.parameters_are_exact.Goals as goal

exact : (word : List ℕ) → IsSegment word
    → (parameter_of (print_path word) ≡ word) × (parameter_of (voucher_path word) ≡ word)
    × (parameter_of (session_path word) ≡ word) × (parameter_of (batch_path word) ≡ word)
    × (parameter_of (redemptions_path word) ≡ word)
unfolding after
exact [] seg = absurd seg
exact (b ∷ rest) seg = (
  before_segment (b ∷ rest) (codes "print") seg,
  before_last (b ∷ rest) seg,
  before_last (b ∷ rest) seg,
  before_last (b ∷ rest) seg,
  before_segment (b ∷ rest) (codes "redemptions") seg,
)

pub returns : goal.returns
returns c = λ word seg. exact word seg
