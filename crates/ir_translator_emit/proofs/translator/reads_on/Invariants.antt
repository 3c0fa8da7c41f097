use Rattle.std.proofs.Common.{◌≡◌, ◌++◌, drop}
use Rattle.ir_translator_emit.specs.Written.{reads_on}
use Rattle.ir_translator_emit.proofs.translator.reads_on.Given as goal

abbrev pub invariant-loop-head : goal.invariant-loop-head
invariant-loop-head l = l.operands ++ reads_on l.from (drop l.head-index l.heads) ≡ reads_on l.from l.heads
