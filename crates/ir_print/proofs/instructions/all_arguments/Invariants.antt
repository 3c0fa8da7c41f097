use Rattle.std.proofs.Common.{◌≡◌, ◌++◌, drop}
use Rattle.ir_print.specs.Types.{listed}
use Rattle.ir_print.specs.Instructions.{argument_text}
use Rattle.ir_print.proofs.instructions.all_arguments.Given as goal

abbrev pub invariant-loop-index : goal.invariant-loop-index
invariant-loop-index l = l.page ++ listed (argument_text l.globals) l.index (drop l.index l.arguments) ≡ l.fn.page ++ listed (argument_text l.globals) 0 l.arguments
