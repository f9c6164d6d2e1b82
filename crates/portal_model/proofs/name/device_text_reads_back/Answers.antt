use Rattle.portal_model.proofs.Devices.{reads-back}
use Rattle.portal_model.proofs.name.device_text_reads_back.Goals as goal

pub returns : goal.returns
returns c = reads-back
