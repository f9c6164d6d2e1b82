use Rattle.std.proofs.Common.{◌∙◌, sym}
use Rattle.portal_http_message.specs.Lengths.{declared_length}
use Rattle.portal_http_message.proofs.lengths.declared_length.Goals as goal

pub returns-then-not-is_host_count_valid-clause-value : goal.returns-then-not-is_host_count_valid-clause-value
unfolding declared_length
returns-then-not-is_host_count_valid-clause-value c =
    rw (sym c.is_host_count_valid.ensures ∙ c.if-not-is_host_count_valid.true)

pub returns-then-has_transfer_coding-clause-value : goal.returns-then-has_transfer_coding-clause-value
unfolding declared_length
returns-then-has_transfer_coding-clause-value c =
    rw (
      sym c.is_host_count_valid.ensures ∙ c.if-not-is_host_count_valid.false,
      sym c.has_transfer_coding.ensures ∙ c.if-has_transfer_coding.true,
    )

pub returns-clause-value : goal.returns-clause-value
unfolding declared_length
returns-clause-value c =
    rw (
      sym c.is_host_count_valid.ensures ∙ c.if-not-is_host_count_valid.false,
      sym c.has_transfer_coding.ensures ∙ c.if-has_transfer_coding.false,
    ) c.content_length.ensures.value
