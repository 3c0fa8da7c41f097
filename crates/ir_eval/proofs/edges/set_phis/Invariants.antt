use Rattle.std.proofs.Common.{◌≡◌, drop}
use Rattle.ir_meaning.specs.Step.{with_phis}
use Rattle.ir_eval.specs.Code.{program_with}
use Rattle.ir_eval.proofs.edges.set_phis.Given as goal

abbrev pub invariant-loop-place : goal.invariant-loop-place
invariant-loop-place l =
    with_phis (program_with l.all l.room) l.function l.from l.fn.values l.to l.place (drop l.place l.heads) l.values
    ≡ with_phis (program_with l.all l.room) l.function l.from l.fn.values l.to 0 l.heads l.fn.values
