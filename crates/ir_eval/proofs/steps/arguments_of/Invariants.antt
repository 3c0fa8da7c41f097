use Rattle.std.proofs.Common.{◌≡◌, ◌++◌, drop}
use Rattle.ir_meaning.specs.Step.{arguments_of}
use Rattle.ir_eval.specs.Code.{program_with}
use Rattle.ir_eval.proofs.steps.arguments_of.Given as goal

abbrev pub invariant-loop-argument : goal.invariant-loop-argument
invariant-loop-argument l =
    l.given ++ arguments_of (program_with l.all l.room) l.values (drop l.argument-index l.arguments)
    ≡ arguments_of (program_with l.all l.room) l.values l.arguments
