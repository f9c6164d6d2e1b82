use Rattle.std.proofs.Common.{◌∙◌}
use Rattle.portal_tables.proofs.Joining.{held_is}
use Rattle.portal_tables.proofs.records.read_is_held.Goals as goal

pub returns : goal.returns
returns g c = record {
  found = λ clean live h shown.
      c.is_some.ensures ∙ held_is h shown.0 c.args.code.now c.read_voucher_row.ensures.code
      c.in_ok-found.found (c.in_ok-found.ensures.reads.found clean _ shown.1.1).0;
  looks = c.in_ok-found.ensures.reads.looks;
}
