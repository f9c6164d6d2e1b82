use Rattle.portal_tables.proofs.Common.{◌≡◌, ◌∙◌, ◌+◌, ◌++◌, ◌∷◌, [], ℕ, List, Some, ap, ap₂, sym, subst}
use Rattle.portal_tables.proofs.Common.{take, cond, true, false, is_some, Bor, BuildHasherDefault, FoldHasher}
use Rattle.portal_tables.proofs.Common.{rules, bytes_eq, HashMap, get_by, take_more, ArePrices}
use Rattle.std.proofs.lemmas.Map.Text.{hash_map_updates_str}
use Rattle.portal_tables.proofs.PriceLemmas.{price_stays, price_added}
use Rattle.portal_tables.proofs.prices.prices_by_batch.Goals as goal
use Rattle.portal_tables.proofs.prices.prices_by_batch.Goals.{then-not-contains_key+in_ok-insert}
use Rattle.portal_tables.proofs.prices.prices_by_batch.Goals.{else-not-contains_key}

pub loop-batch-preserved : goal.loop-batch-preserved
loop-batch-preserved c =
    let plans = c.args.plans.now in
    let batches = c.args.batches.now in
    let i = c.loop-batch.batch-index in
    let b = c.batch-item.result in
    let before = take i batches in
    let is = c.loop-batch.invariant in
    let id = c.text-id.ensures.value in
    let old = λ (key : List ℕ). get_by (λ k. bytes_eq key k.now) c.loop-batch.prices in
    let more : take (i + 1) batches ≡ before ++ b ∷ [] =
    take_more batches i b c.loop-batch-test.true ∙ ap (λ x. before ++ x ∷ []) (sym c.batch-item.is) in
    let has = ap (λ key. is_some (old key)) (sym id) ∙ sym c.contains_key.ensures in
    let Holds = λ (m : HashMap (Bor (List ℕ)) ℕ (BuildHasherDefault FoldHasher)).
    ArePrices plans (take (i + 1) batches) (λ (key : List ℕ). get_by (λ k. bytes_eq key k.now) m) in
    elim c.if-not-contains_key.branch [
      | then-not-contains_key+in_ok-insert w ↦
          let plan = c.in_ok-price.ensures in
          let new = λ (key : List ℕ). get_by (λ k. bytes_eq key k.now) w.insert.new.self in
          let now : (key : List ℕ) → new key ≡ cond (bytes_eq b.id key) (Some plan.0.price) (old key) = λ key.
          hash_map_updates_str c.text-id.result.now c.loop-batch.prices w.insert.new.self _
          w.in_ok-insert.ensures.updates key
          ∙ ap₂ (λ k v. cond (bytes_eq k key) (Some v) (old key)) id plan.2 in
          let free : is_some (old b.id) ≡ false = has ∙ search rules in
          subst Holds (sym w.prices-is)
          (rw more (price_added plans before b plan.0 plan.1 old new is free now))
      | else-not-contains_key w ↦
          let there : is_some (old b.id) ≡ true = has ∙ search rules in
          subst Holds (sym w.prices-is) (rw more (price_stays plans before b old is there))
    ]
