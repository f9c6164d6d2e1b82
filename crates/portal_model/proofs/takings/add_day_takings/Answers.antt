use Rattle.portal_model.proofs.Common.{◌≡◌, ◌∙◌, ◌+◌, ◌<◌, [], ◌∷◌, ◌++◌, ap, sym, length, map, pos, ◌+ℤ◌}
use Rattle.portal_model.proofs.Common.{subst, arith, rules, range_with_len, takings_on, TotalsFit, day_count}
use Rattle.portal_model.proofs.Common.{day_sum}
use Rattle.portal_model.proofs.DayLists.{map-days_more}
use Rattle.portal_model.proofs.DaySumLemmas.{many_days, day_at, taken_same}
use Rattle.portal_model.proofs.Totals.{totals-fit}
use Rattle.portal_model.proofs.takings.add_day_takings.Goals as goal

pub index-requires : goal.index-requires
index-requires c =
    let e = ap length c.in_ok-sold.ensures.sums ∙ many_days (day_sum c.args.sales.now) c.args.range in
    omega arith

pub index-requires-in-loop-after : goal.index-requires-in-loop-after
index-requires-in-loop-after c =
    let e = ap length c.in_ok-refunded.ensures.sums ∙ many_days (day_sum c.args.refunds.now) c.args.range in
    omega arith

pub loop-after-preserved : goal.loop-after-preserved
loop-after-preserved c =
    let sales = c.args.sales.now in
    let refunds = c.args.refunds.now in
    let range = c.args.range in
    let first = range.first in
    let k = c.loop-after.after in
    let within : k < day_count range = search rules in
    let sold : c.index.result.now ≡ day_sum sales (first +ℤ pos k) =
    c.index.ensures ∙ day_at sales range k _ _ c.in_ok-sold.ensures.sums within in
    let back : c.index-in-loop-after.result.now ≡ day_sum refunds (first +ℤ pos k) =
    c.index-in-loop-after.ensures ∙ day_at refunds range k _ _ c.in_ok-refunded.ensures.sums within in
    let taken : c.push.new.self.items
    ≡ c.loop-after.all.items ++ takings_on sales refunds (first +ℤ pos k) ∷ [] =
    c.in_ok-push.ensures.items
    ∙ ap (λ t. c.loop-after.all.items ++ t ∷ []) (taken_same c.day.ensures sold back) in
    let items : c.push.new.self.items
    ≡ map (takings_on sales refunds) (map (λ k. first +ℤ pos k) (range_with_len 0 (k + 1))) =
    taken
    ∙ ap (λ xs. xs ++ takings_on sales refunds (first +ℤ pos k) ∷ []) c.loop-after.invariant.so_far
    ∙ sym (map-days_more (takings_on sales refunds) (λ k. first +ℤ pos k) k) in
    record {
      so_far = items;
      totals = subst TotalsFit (sym items)
          (totals-fit sales refunds first (k + 1) c.in_ok-sold.ensures.pairs c.in_ok-refunded.ensures.pairs);
    }
