-- The error of the desk for an error of the tables.
use Rattle.portal_model.specs.declared.refusal.Refusal.{Refusal}
use Rattle.portal_model.specs.declared.refusal.Refusal.TheVariants as refusal
use Rattle.portal_tables.specs.declared.errors.StoreFault.{StoreFault}
use Rattle.portal_tables.specs.declared.errors.StoreFault.TheVariants.{Memory, Stopped}

abbrev pub refusal_of : StoreFault → Refusal
refusal_of Memory = refusal.NoMemory
refusal_of Stopped = refusal.Stopped
