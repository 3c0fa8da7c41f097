use Rattle.std.proofs.Common.{◌≡◌, ◌+◌, ◌++◌, length, drop, map, replicate}
use Rattle.ir_flow.specs.Code.{typed_pairs}
use Rattle.ir_verify.specs.Ranges.{all_named}
use Rattle.ir_verify.proofs.ranges.pairs_named.Given as goal

abbrev pub invariant-loop-operand : goal.invariant-loop-operand
invariant-loop-operand l = all_named l.all l.count (typed_pairs l.ty (drop l.operand-index l.pairs)) ≡ all_named l.all l.count (typed_pairs l.ty l.pairs)
