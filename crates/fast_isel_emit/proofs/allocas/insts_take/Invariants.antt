use Rattle.std.proofs.Common.{◌≡◌, drop}
use Rattle.quick_code.specs.Data.{insts_take}
use Rattle.fast_isel_emit.proofs.allocas.insts_take.Given as goal

abbrev pub invariant-loop-inst : goal.invariant-loop-inst
invariant-loop-inst l = insts_take (drop l.inst-index l.insts) ≡ insts_take l.insts
