use Rattle.portal_desk_store.proofs.Common.{◌≡◌, Option, IfSome, subst, head_of}
use Rattle.portal_model.specs.declared.record.Head.{Head}
use Rattle.portal_desk_store.proofs.HeadLemmas.{head_follows, head_updated}
use Rattle.portal_desk_store.proofs.heads.update_head.Goals as goal

pub returns : goal.returns
returns c = λ H legal command t follows is same.
    head_updated H command t c.args.changes.now c.in_ok-kept.field-0 c.head_after_changes.result
    (subst (λ (o : Option Head). IfSome o (λ head. head ≡ head_of H)) c.in_ok-kept.was same)
    (head_follows H legal command t follows c.args.changes.now is) c.head_after_changes.ensures
