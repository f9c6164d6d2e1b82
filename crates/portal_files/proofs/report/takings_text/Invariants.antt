use Rattle.std.proofs.Common.{take, string_bytes}
use Rattle.portal_files.proofs.ReportLines.{IsSoFar}
use Rattle.portal_files.proofs.report.takings_text.Given as goal

abbrev pub invariant-loop-takings : goal.invariant-loop-takings
invariant-loop-takings l = IsSoFar (take l.takings-index l.days) (string_bytes l.text)
