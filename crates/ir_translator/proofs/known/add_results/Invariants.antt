use Rattle.std.proofs.Common.{◌≡◌, ◌++◌, map, drop}
use Rattle.ir_meaning.specs.Typed.{result_types}
use Rattle.generic_code.specs.Literals.{type_of}
use Rattle.ir_translator.proofs.known.add_results.Given as goal

abbrev pub invariant-loop-inst : goal.invariant-loop-inst
invariant-loop-inst l = l.types ++ map type_of (result_types (drop l.inst-index l.insts)) ≡ l.fn.types ++ map type_of (result_types l.insts)
