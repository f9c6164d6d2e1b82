use Rattle.portal_http_message.proofs.Common.{subst, sym, IsFinding}
use Rattle.portal_http_message.proofs.RequestLemmas.{head_stays}
use Rattle.portal_http_message.proofs.head.update_finding.Goals as goal

pub returns-in-Whole : goal.returns-in-Whole
returns-in-Whole c =
    let found = subst (IsFinding c.requires.0) c.in-Whole.is c.requires.3 in
    subst (IsFinding c.args.bytes.now) (sym c.in-Whole.is)
    (head_stays c.requires.0 c.requires.1 c.args.bytes.now c.in-Whole.field-0 c.requires.2 found)
