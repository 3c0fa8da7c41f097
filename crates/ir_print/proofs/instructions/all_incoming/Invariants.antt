use Rattle.std.proofs.Common.{◌≡◌, ◌++◌, drop}
use Rattle.ir_print.specs.Types.{listed}
use Rattle.ir_print.specs.Instructions.{incoming_text}
use Rattle.ir_print.proofs.instructions.all_incoming.Given as goal

abbrev pub invariant-loop-index : goal.invariant-loop-index
invariant-loop-index l = l.page ++ listed (incoming_text l.globals l.given) l.index (drop l.index l.all) ≡ l.fn.page ++ listed (incoming_text l.globals l.given) 0 l.all
