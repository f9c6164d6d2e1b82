use Rattle.portal_files.proofs.SameTexts.{same-print_file}
use Rattle.portal_files.proofs.laws.sheet_fixes_print_file.Goals as goal

pub returns : goal.returns
returns c = same-print_file
