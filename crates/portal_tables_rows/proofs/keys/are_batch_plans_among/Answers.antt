use Rattle.portal_tables_rows.proofs.Common.{◌≡◌, ℕ, Ok, rules, tests, map, bytes_eq, bytes_eq-Decides}
use Rattle.portal_tables_rows.proofs.Common.{YieldsList-from_slice}
use Rattle.std.proofs.lemmas.Iterator.{YieldsList-from_map, items_from_collect}
use Rattle.portal_tables_rows.proofs.KeyLemmas.{among_is}
use Rattle.portal_model.specs.declared.record.Batch.{Batch}
use Rattle.portal_tables_rows.proofs.keys.are_batch_plans_among.Goals as goal

pub returns-clause-among : goal.returns-clause-among
returns-clause-among c =
    let keys : c.in_ok-keys.keys.items ≡ map (λ (x : Batch). x.plan) c.args.batches.now =
    items_from_collect {E = ℕ} (Ok c.in_ok-keys.keys) c.in_ok-keys.ensures.ran (YieldsList-from_map _
    (λ (x : Batch). x.plan) (YieldsList-from_slice c.args.batches.now (cc)) c.map.ensures.closure
    (λ x r q k. search (rules, tests))) in
    among_is bytes_eq bytes_eq-Decides (map (λ (x : Batch). x.plan) c.args.batches.now) c.args.plans.now
    c.are_among.result (rw (← keys, ← c.deref.ensures.value) c.are_among.ensures.among)
