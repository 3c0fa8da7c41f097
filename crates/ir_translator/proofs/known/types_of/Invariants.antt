use Rattle.std.proofs.Common.{◌≡◌, ◌++◌, map, drop}
use Rattle.ir_core.specs.Units.{instructions}
use Rattle.ir_meaning.specs.Typed.{types, result_types}
use Rattle.generic_code.specs.Literals.{type_of}
use Rattle.ir_translator.proofs.known.types_of.Given as goal

abbrev pub invariant-loop-ty : goal.invariant-loop-ty
invariant-loop-ty l = l.all ++ map type_of (drop l.ty-index l.ty-items) ≡ map type_of l.fn.function.params

abbrev pub invariant-loop-block : goal.invariant-loop-block
invariant-loop-block l = l.all ++ map type_of (result_types (instructions (drop l.block-index l.block-items))) ≡ map type_of (types l.fn.function)
