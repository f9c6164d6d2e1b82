use Rattle.std.specs.Prelude.{IfOk}
use Rattle.portal_tables.proofs.Common.{List, ℕ, history_of, subst}
use Rattle.portal_model.specs.Batches.{AreVouchersLike}
use Rattle.portal_tables.proofs.ShownLemmas.{history_shown}
use Rattle.portal_tables.proofs.questions.VouchersLikeQuestion.ask.Goals as goal

pub returns-clause-found : goal.returns-clause-found
returns-clause-found g c clean live L shown =
    subst (λ (text : List ℕ). IfOk c.read_vouchers_like.result
    (λ found. AreVouchersLike (history_of L) text found.0.items found.1)) c.printed.ensures.value
    (c.read_vouchers_like.ensures.found clean live _ (history_shown L _ shown))
