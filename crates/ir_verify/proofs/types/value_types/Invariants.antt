use Rattle.std.proofs.Common.{◌≡◌, ◌+◌, ◌++◌, drop, take}
use Rattle.ir_core.specs.Units.{instructions}
use Rattle.ir_meaning.specs.Typed.{result_types, types}
use Rattle.ir_verify.proofs.types.value_types.Given as goal

abbrev pub invariant-loop-ty : goal.invariant-loop-ty
invariant-loop-ty l = l.types.items ≡ take l.ty-index l.fn.function.params

abbrev pub invariant-loop-block : goal.invariant-loop-block
invariant-loop-block l = l.types.items ++ result_types (instructions (drop l.block-index l.block-items)) ≡ types l.fn.function

abbrev pub invariant-loop-inst : goal.invariant-loop-inst
invariant-loop-inst l =
    l.types.items ++ result_types (drop l.inst-index l.inst-items ++ instructions (drop (l.block-index + 1) l.block-items)) ≡ types l.fn.function
