use Rattle.std.proofs.Common.{◌≡◌, drop}
use Rattle.ir_flow.specs.Limits.{insts_limit}
use Rattle.ir_flow.proofs.limits.block_limit.Given as goal

abbrev pub invariant-loop-inst : goal.invariant-loop-inst
invariant-loop-inst l = insts_limit (drop l.inst-index l.insts) ≡ insts_limit l.insts
