use Rattle.std.proofs.Common.{arith, subst}
use Rattle.portal_model.specs.Device.{IsDevice}
use Rattle.portal_model.proofs.Devices.{six-octets}
use Rattle.portal_model.proofs.name.Device.text.Goals as goal

pub returns-clause-device : goal.returns-clause-device
returns-clause-device c = subst IsDevice c.self.view_is (six-octets _ c.self.told (omega arith) (omega arith)
    (omega arith) (omega arith) (omega arith) (omega arith))
