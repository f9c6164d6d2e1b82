use Rattle.portal_json.proofs.Common.{List, ℕ, ◌++◌, ◌∙◌, ap, string_bytes}
use Rattle.portal_json.proofs.ListedLemmas.{ok_along}
use Rattle.portal_json.proofs.BatchesLemmas.{batch_text_is}
use Rattle.portal_json.proofs.batches.BatchStateEntryListed.put.Goals as goal

pub returns : goal.returns
returns c = ok_along c.put_batch.result (λ e. e
    ∙ ap (λ (t : List ℕ). string_bytes c.args.text.now ++ t) (batch_text_is c.args.self.now))
    c.put_batch.ensures
