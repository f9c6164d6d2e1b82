use Rattle.portal_model.proofs.Common.{◌≡◌, ◌<◌, ◌^◌, ◌+ℤ◌, ℕ, pos, length, get_or, take, All, day_count}
use Rattle.portal_model.proofs.Common.{day_sum, zero_sum}
use Rattle.portal_model.proofs.takings.sums_by_day.Given as goal

abbrev pub invariant-loop-day : goal.invariant-loop-day
invariant-loop-day l = record {
  days : length l.sums.items ≡ day_count l.range;
  each : (k : ℕ) → k < day_count l.range
      → get_or l.sums.items k zero_sum ≡ day_sum (take l.day-index l.pairs) (l.range.first +ℤ pos k);
  small : All (λ p. p.1 < 2 ^ 64) (take l.day-index l.pairs);
}
