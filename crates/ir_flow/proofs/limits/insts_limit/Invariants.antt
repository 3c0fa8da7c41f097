use Rattle.std.proofs.Common.{◌≡◌, drop}
use Rattle.ir_core.specs.Units.{instructions}
use Rattle.ir_flow.specs.Limits.{insts_limit}
use Rattle.ir_flow.proofs.limits.insts_limit.Given as goal

abbrev pub invariant-loop-block : goal.invariant-loop-block
invariant-loop-block l = insts_limit (instructions (drop l.block-index l.block-items)) ≡ insts_limit (instructions l.fn.function.blocks)
