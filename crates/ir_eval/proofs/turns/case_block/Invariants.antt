use Rattle.std.proofs.Common.{◌≡◌, drop}
use Rattle.ir_meaning.specs.Step.{case_block}
use Rattle.ir_eval.proofs.turns.case_block.Given as goal

abbrev pub invariant-loop-number : goal.invariant-loop-number
invariant-loop-number l = case_block l.n (drop l.number-index l.cases) l.otherwise ≡ case_block l.n l.cases l.otherwise
