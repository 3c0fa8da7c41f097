use Rattle.std.proofs.Common.{◌≡◌, map, take}
use Rattle.ir_core.specs.declared.program.Function.{Function}
use Rattle.ir_meaning.specs.Meaning.{result_width}
use Rattle.hart.proofs.widths.widths_of.Given as goal

abbrev pub invariant-loop-function : goal.invariant-loop-function
invariant-loop-function l = l.widths.items ≡ map (λ (function : Function). result_width function.ret) (take l.function-index l.functions)
