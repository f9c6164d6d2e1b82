use Rattle.portal_commands.proofs.asking.ask_desk.Goals as goal

pub returns-in-Batch-clause-asks : goal.returns-in-Batch-clause-asks
returns-in-Batch-clause-asks g c = rw c.in-Batch.is c.print_at.ensures.print

pub returns-in-Takings-clause-asks : goal.returns-in-Takings-clause-asks
returns-in-Takings-clause-asks g c = rw c.in-Takings.is c.takings_at.ensures.takings

pub returns-in-Counters-clause-asks : goal.returns-in-Counters-clause-asks
returns-in-Counters-clause-asks g c = rw c.in-Counters.is c.check_at.ensures.check

pub returns-in-Batch-clause-exact : goal.returns-in-Batch-clause-exact
returns-in-Batch-clause-exact g c =
    let ends = c.print_at.ensures.ends in rw c.in-Batch.is (ends.0, λ honest. tt, ends.2)

pub returns-in-Takings-clause-exact : goal.returns-in-Takings-clause-exact
returns-in-Takings-clause-exact g c =
    let ends = c.takings_at.ensures.ends in rw c.in-Takings.is (ends.0, λ honest. tt, ends.2)

pub returns-in-Counters-clause-exact : goal.returns-in-Counters-clause-exact
returns-in-Counters-clause-exact g c = rw c.in-Counters.is c.check_at.ensures.exact
