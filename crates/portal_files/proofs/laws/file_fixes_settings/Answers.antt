use Rattle.portal_files.proofs.TextsAt.{same_settings}
use Rattle.portal_files.proofs.laws.file_fixes_settings.Goals as goal

pub returns : goal.returns
returns c = same_settings
