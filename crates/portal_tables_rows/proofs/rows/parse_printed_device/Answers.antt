use Rattle.portal_tables_rows.proofs.Common.{◌≡◌, sym, ◌∙◌, true≢false, bytes_eq-Decides}
use Rattle.portal_tables_rows.proofs.Printed.{device_reads, device_printed}
use Rattle.portal_tables_rows.proofs.rows.parse_printed_device.Goals as goal

pub returns-in_default-clause-own : goal.returns-in_default-clause-own
returns-in_default-clause-own c own =
    let found = device_reads c.args.text.now own in
    absurd (c.in_default.ensures.err.1 found.0 found.1)

pub returns-else-eq-clause-own : goal.returns-else-eq-clause-own
returns-else-eq-clause-own c own =
    let printed = device_printed c.args.text.now c.in-Ok.device own c.in-Ok.ensures.ok in
    let text = c.text-printed.ensures.value in
    let slice = c.as_slice.ensures in
    let bytes = c.as_bytes.ensures in
    let equal : c.as_slice.result.now ≡ c.as_bytes.result.now = cc in
    absurd (true≢false (sym ((bytes_eq-Decides _ _).1 equal) ∙ sym c.eq.ensures ∙ c.if-eq.false))
