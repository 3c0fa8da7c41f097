use Rattle.std.proofs.Common.{◌≡◌, ◌++◌, take}
use Rattle.std.specs.List.{flat_map}
use Rattle.ir_print.specs.Modules.{function_lines}
use Rattle.ir_print.proofs.modules.functions.Given as goal

abbrev pub invariant-loop-one : goal.invariant-loop-one
invariant-loop-one l = l.page ≡ l.fn.page ++ flat_map (function_lines l.program) (take l.one-index l.program.functions)
