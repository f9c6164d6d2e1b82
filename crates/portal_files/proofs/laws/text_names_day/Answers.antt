use Rattle.portal_files.proofs.DateTexts.{names-days}
use Rattle.portal_files.proofs.laws.text_names_day.Goals as goal

pub returns : goal.returns
returns c = names-days
