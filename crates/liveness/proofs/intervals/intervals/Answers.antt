use Rattle.liveness.proofs.Covering.{has_targets, has_registers, finished_covers}
use Rattle.liveness.proofs.Tight.{finished_tight}
use Rattle.liveness.proofs.intervals.intervals.Goals as goal

pub finished-requires-clause-targets : goal.finished-requires-clause-targets
finished-requires-clause-targets c = rw c.as_slice-blocks.ensures (has_targets c.args.function.now c.requires.well_formed)

pub finished-requires-clause-registers : goal.finished-requires-clause-registers
finished-requires-clause-registers c = rw c.as_slice-blocks.ensures (has_registers c.args.function.now c.requires.well_formed)

pub returns-clause-covers : goal.returns-clause-covers
returns-clause-covers c = finished_covers c.args.function.now c.requires.well_formed c.in_ok-search.search (rw c.as_slice-blocks.ensures at c.in_ok-search.ensures.finished)
    c.into_intervals.result c.into_intervals.ensures

pub returns-clause-tight : goal.returns-clause-tight
returns-clause-tight c = finished_tight c.args.function.now c.requires.well_formed c.in_ok-search.search (rw c.as_slice-blocks.ensures at c.in_ok-search.ensures.finished)
    c.into_intervals.result c.into_intervals.ensures
