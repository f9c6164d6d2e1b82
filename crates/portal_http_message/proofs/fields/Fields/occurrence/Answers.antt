use Rattle.portal_http_message.proofs.Common.{ap, sym, ◌∙◌, subst, IsOccurrence}
use Rattle.portal_http_message.specs.Fields.{values_of}
use Rattle.portal_http_message.proofs.FieldLemmas.{named_at, other_at, none_left, once, again}
use Rattle.portal_http_message.proofs.fields.Fields.occurrence.Goals as goal
use Rattle.portal_http_message.proofs.fields.Fields.occurrence.Goals.{then-is_same_name+in-Absent}
use Rattle.portal_http_message.proofs.fields.Fields.occurrence.Goals.{then-is_same_name+in_default}
use Rattle.portal_http_message.proofs.fields.Fields.occurrence.Goals.{else-is_same_name}

pub loop-field-preserved : goal.loop-field-preserved
loop-field-preserved c =
    let seen = c.loop-field.invariant.0 in
    let was = c.loop-field.invariant.1 in
    let total = c.loop-field.invariant.2 in
    elim c.if-is_same_name.branch [
      | then-is_same_name+in-Absent w ↦ (
        _,
        subst (IsOccurrence _) (sym w.found-is)
            (once seen w.of-in-Absent.result _ c.loop-field.found was w.in-Absent.is w.of-in-Absent.ensures),
        named_at c.args.name.now c.self.inside.bytes.now c.self.inside.spans.now c.loop-field.field-index seen
            _ c.loop-field-test.true (cc) total,
      )
      | then-is_same_name+in_default w ↦ (
        _,
        subst (IsOccurrence _) (sym w.found-is) (again seen _ c.loop-field.found was w.in_default.not-Absent),
        named_at c.args.name.now c.self.inside.bytes.now c.self.inside.spans.now c.loop-field.field-index seen
            _ c.loop-field-test.true (cc) total,
      )
      | else-is_same_name w ↦ (
        seen,
        subst (IsOccurrence seen) (sym w.found-is) was,
        other_at c.args.name.now c.self.inside.bytes.now c.self.inside.spans.now c.loop-field.field-index seen
            _ c.loop-field-test.true (cc) total,
      )
    ]

pub returns : goal.returns
returns c =
    let whole = none_left c.args.name.now c.self.inside.bytes.now c.self.inside.spans.now
    c.loop-field.field-index _ _ c.loop-field-test.false c.loop-field.invariant.2 in
    subst (λ values. IsOccurrence values c.loop-field.found)
    (whole ∙ ap (values_of c.args.name.now) c.self.view_is) c.loop-field.invariant.1
