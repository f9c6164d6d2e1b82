use Rattle.portal_model.proofs.Common.{◌≡◌, ◌<◌, ◌^◌, ◌+ℤ◌, pos, length, get_or, take, ap, sym, ◌∙◌}
use Rattle.portal_model.proofs.Common.{subst, rules, slice_index_or, All, take_all, All-more, Pair, day_sum}
use Rattle.portal_model.proofs.Common.{zero_sum, with_pair, CanAddPair}
use Rattle.portal_model.proofs.DaySumLemmas.{day_sum_more, day_sum_room, sums_are, whole}
use Rattle.portal_model.proofs.takings.sums_by_day.Goals as goal

pub add_pair-requires-clause-can_add : goal.add_pair-requires-clause-can_add
add_pair-requires-clause-can_add c =
    let is = c.loop-day.invariant in
    let few : length c.args.pairs.now < 2 ^ 64 = search rules in
    λ k h.
    let room = day_sum_room (c.args.range.first +ℤ pos k) c.args.pairs.now c.loop-day.day-index
    c.loop-day-test.true few is.small in
    subst CanAddPair (sym (ap (λ xs. slice_index_or xs k zero_sum) c.deref_mut.ensures.value ∙ is.each k h))
    room

pub loop-day-preserved : goal.loop-day-preserved
loop-day-preserved c =
    let is = c.loop-day.invariant in
    let pairs = c.args.pairs.now in
    let i = c.loop-day.day-index in
    let pair = c.loop-day-item.result in
    let added = c.add_pair.ensures in
    let items = c.loop-day.sums.items in
    let within = c.loop-day-test.true in
    let here : (pair.0, pair.1) ≡ get_or pairs i pair = c.loop-day-item.is in
    let many : length c.add_pair.new.sums ≡ c.loop-day.sums.len = search rules in
    let new = whole c.loop-day.sums.len items c.add_pair.new.sums many in
    record {
      days = ap length new ∙ added.days;
      each = λ k h.
          let day = c.args.range.first +ℤ pos k in
          ap (λ xs. slice_index_or xs k zero_sum) new
          ∙ added.added k h
          ∙ ap (with_pair day pair)
          (ap (λ xs. slice_index_or xs k zero_sum) c.deref_mut.ensures.value ∙ is.each k h)
          ∙ ap (λ p. with_pair day p (day_sum (take i pairs) day)) here
          ∙ sym (day_sum_more day pairs i pair within);
      small = All-more (λ (p : Pair). p.1 < 2 ^ 64) pairs i pair within is.small
          (subst (λ (p : Pair). p.1 < 2 ^ 64) here added.small);
    }

pub returns-clause-sums : goal.returns-clause-sums
returns-clause-sums c =
    let is = c.loop-day.invariant in
    sums_are c.args.pairs.now (take c.loop-day.day-index c.args.pairs.now) c.args.range c.loop-day.sums.items
    (take_all c.loop-day.day-index c.args.pairs.now c.loop-day-test.false) is.days is.each

pub returns-clause-pairs : goal.returns-clause-pairs
returns-clause-pairs c = record {
  few = search rules;
  small = subst (All (λ (p : Pair). p.1 < 2 ^ 64))
      (take_all c.loop-day.day-index c.args.pairs.now c.loop-day-test.false) c.loop-day.invariant.small;
}
