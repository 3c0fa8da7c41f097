use Rattle.std.proofs.Common.{ℕ, List, []}
use Rattle.ir_eval.specs.Code.{program_with}
use Rattle.ir_eval.specs.Runs.{Going}
use Rattle.ir_eval.proofs.running.run.Given as goal

abbrev pub invariant-loop-callers : goal.invariant-loop-callers
invariant-loop-callers l =
    (added : List ℕ) × Going (program_with l.all l.room)
    (record { now = l.fn.first; callers = []; memory = l.fn.memory; counts = l.fn.counts; left = l.fn.left })
    (record { now = l.now; callers = l.callers; memory = l.memory; counts = l.counts; left = l.left }) added

abbrev pub decreases-loop-callers : goal.decreases-loop-callers
decreases-loop-callers l = l.left
