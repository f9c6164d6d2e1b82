use Rattle.portal_files.proofs.Common.{◌≡◌, ◌∙◌, ◌++◌, List, ap, take, subst, string_bytes, DayTakings}
use Rattle.std.proofs.lemmas.List.{take_all}
use Rattle.portal_files.proofs.ReportLines.{IsSoFar, more-so_far, whole-report}
use Rattle.portal_files.proofs.report.takings_text.Goals as goal

pub loop-takings-preserved : goal.loop-takings-preserved
loop-takings-preserved c =
    let text = string_bytes c.loop-takings.text in
    let line = string_bytes c.in_ok-line.line in
    let pushed : string_bytes c.push_str.new.self ≡ text ++ line =
    c.in_ok-push_str.ensures.bytes ∙ ap (λ t. text ++ t) c.as_str.ensures.value in
    more-so_far c.args.days.now c.loop-takings.takings-index c.takings-item.result text line
    (string_bytes c.push_str.new.self)
    c.loop-takings-test.true c.takings-item.is c.loop-takings.invariant c.in_ok-line.ensures pushed

pub returns-clause-ok : goal.returns-clause-ok
returns-clause-ok c =
    let days = c.args.days.now in
    let text = string_bytes c.loop-takings.text in
    let totals = string_bytes c.in_ok-totals.totals in
    let net = string_bytes c.in_ok-net.net in
    let before = string_bytes c.push_str-2.new.self in
    let first : before ≡ text ++ totals =
    c.in_ok-push_str-2.ensures.bytes ∙ ap (λ t. text ++ t) c.as_str-2.ensures.value in
    let second : string_bytes c.push_str-3.new.self ≡ before ++ net =
    c.in_ok-push_str-3.ensures.bytes ∙ ap (λ t. before ++ t) c.as_str-3.ensures.value in
    let all : take c.loop-takings.takings-index days ≡ days =
    take_all c.loop-takings.takings-index days c.loop-takings-test.false in
    whole-report days text totals net before (string_bytes c.push_str-3.new.self)
    (subst (λ (ds : List DayTakings). IsSoFar ds text) all c.loop-takings.invariant) c.in_ok-totals.ensures
    c.in_ok-net.ensures first second
