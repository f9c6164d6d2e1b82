use Rattle.portal_desk_store.proofs.Common.{◌≡◌, ◌≤◌, inl, inr, ◌≤ℤ◌, arith, rules, subst, sym, max, ints}
use Rattle.portal_desk_store.proofs.Common.{local_day_of}
use Rattle.portal_desk_store.proofs.TakingLemmas.{at_most}
use Rattle.portal_desk_store.proofs.takings.moments_of_range.Goals as goal

pub returns : goal.returns
returns c = λ zone t k limit below is.
    let greater : c.max.result ≡ max c.latest_moment.result c.latest_moment-2.result = search rules in
    let first = c.first-first.ensures in
    let last = c.last-last.ensures in
    let low : c.first-first.result ≤ℤ local_day_of zone t = omega (arith, ints) in
    let high : t ≤ max c.latest_moment.result c.latest_moment-2.result =
    elim (at_most c.args.range.first c.args.range.last k below) [
      | inl one ↦
          let day : local_day_of zone t ≤ℤ c.first-first.result = omega (arith, ints) in
          let is_before = c.latest_moment.ensures zone t limit day in omega arith
      | inr two ↦
          let day : local_day_of zone t ≤ℤ c.last-last.result = omega (arith, ints) in
          let is_before = c.latest_moment-2.ensures zone t limit day in omega arith
    ] in
    (c.earliest_moment.ensures zone t low, subst (λ n. t ≤ n) (sym greater) high)
