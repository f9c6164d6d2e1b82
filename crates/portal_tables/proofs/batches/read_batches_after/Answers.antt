use Rattle.portal_tables.proofs.Common.{Option, sym, subst, option_map, List, ℕ}
use Rattle.portal_model.specs.declared.record.Batch.{Batch}
use Rattle.std.proofs.Common.{Bor}
use Rattle.portal_model.specs.Batches.{by_issue}
use Rattle.portal_tables_rows.specs.Lists.{ListsFirst, is_behind}
use Rattle.portal_tables.proofs.Common.{batches_of}
use Rattle.portal_tables.specs.BatchLists.{AreFirstAfter}
use Rattle.portal_tables.proofs.ShownLemmas.{of_rows, shown_weaker}
use Rattle.portal_tables.proofs.BatchLemmas.{behind_batch, behind_all}
use Rattle.portal_tables.proofs.batches.read_batches_after.Goals as goal

pub returns-in-Some : goal.returns-in-Some
returns-in-Some g c =
    let before = c.in-Some.batch.now in
    shown_weaker g.S.Store (λ h legal batches is.
    subst (λ (o : Option (Bor Batch)). AreFirstAfter h (option_map (λ b. b.now) o) batches.items)
    (sym c.in-Some.is) (behind_batch h before batches.items
    (subst (λ (id : List ℕ). ListsFirst 21 (is_behind before.issued id) by_issue (batches_of h) batches.items)
    c.text.ensures.value (subst (λ (at : ℕ). ListsFirst 21 (is_behind at c.text.result.now) by_issue
    (batches_of h) batches.items) c.get.ensures.value is.1))))
    (of_rows g.S.Store c.list_batches_behind.ensures)

pub returns-in-None : goal.returns-in-None
returns-in-None g c =
    shown_weaker g.S.Store (λ h legal batches is.
    subst (λ (o : Option (Bor Batch)). AreFirstAfter h (option_map (λ b. b.now) o) batches.items)
    (sym c.in-None.is) (behind_all h legal batches.items is.1))
    (of_rows g.S.Store c.list_batches_behind-in-None.ensures)
