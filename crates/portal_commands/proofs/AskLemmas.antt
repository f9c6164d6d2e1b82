-- What follows from what a desk read.
use Rattle.portal_model.specs.History.{History}
use Rattle.portal_ledger.specs.Ledger.{history_of}
use Rattle.portal_commands.proofs.Common.{State, running, stopped, ReadsThat}

pub reads_also : (old new : State) (Is Also : History → Type 0) → ((H : History) → Is H → Also H)
    → ReadsThat old Is new → ReadsThat old Also new
reads_also (running L) new Is Also also reads = (also (history_of L) reads.0, reads.1)
reads_also (stopped L doubt) new Is Also also reads = reads
