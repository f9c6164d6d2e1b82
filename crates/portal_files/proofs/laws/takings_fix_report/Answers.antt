use Rattle.portal_files.proofs.SameTexts.{same-report}
use Rattle.portal_files.proofs.laws.takings_fix_report.Goals as goal

pub returns : goal.returns
returns c = same-report
