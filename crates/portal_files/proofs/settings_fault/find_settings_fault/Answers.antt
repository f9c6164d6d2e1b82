use Rattle.portal_files.proofs.Common.{arith, sym, false≢true}
use Rattle.portal_files.proofs.WrongKeys.{fault-of-file}
use Rattle.portal_files.proofs.settings_fault.find_settings_fault.Goals as goal

pub returns-in-Ok : goal.returns-in-Ok
returns-in-Ok c =
    let parsed = c.in-Ok.ensures.ok in
    fault-of-file c.args.bytes.now _ parsed.0 parsed.1 _ c.table_fault.ensures

pub returns-in-Some : goal.returns-in-Some
returns-in-Some c =
    let from = c.in-Some.ensures.range in
    let within = c.in-Err.ensures.span in (
      c.in-Err.ensures.refused (λ memory. false≢true (sym (c.in-Some.ensures.none.1 memory))),
      _,
      omega arith,
      c.line_at.ensures,
    )
