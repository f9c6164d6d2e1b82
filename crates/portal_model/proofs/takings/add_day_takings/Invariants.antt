use Rattle.portal_model.proofs.Common.{◌≡◌, map, pos, ◌+ℤ◌, range_with_len, takings_on, TotalsFit}
use Rattle.portal_model.proofs.takings.add_day_takings.Given as goal

abbrev pub invariant-loop-after : goal.invariant-loop-after
invariant-loop-after l = record {
  so_far : l.all.items
      ≡ map (takings_on l.sales l.refunds) (map (λ k. l.range.first +ℤ pos k) (range_with_len 0 l.after));
  totals : TotalsFit l.all.items;
}
