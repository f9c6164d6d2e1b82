use Rattle.portal_http_message.proofs.Common.{subst, IsFinding}
use Rattle.portal_http_message.proofs.DecidedLemmas.{decided_when_past, decided_when_there, hopeless}
use Rattle.portal_http_message.proofs.decided.is_decided_by_finding.Goals as goal

pub returns-in-Ok : goal.returns-in-Ok
returns-in-Ok c =
    let at = subst (IsFinding c.args.bytes.now) c.in-Whole.is c.requires in
    decided_when_there c.args.bytes.now c.in-Whole.head at.0 c.in-Ok.length at.1 c.in-Ok.is

pub returns-in-Unfinished : goal.returns-in-Unfinished
returns-in-Unfinished c =
    let none = subst (IsFinding c.args.bytes.now) c.in-Unfinished.is c.requires in
    decided_when_past c.args.bytes.now c.exceeds_head_limits.result none.0 none.1
    c.exceeds_head_limits.ensures

pub returns-in-Invalid : goal.returns-in-Invalid
returns-in-Invalid c =
    let none = subst (IsFinding c.args.bytes.now) c.in-Invalid.is c.requires in
    hopeless c.args.bytes.now none.0 none.1
