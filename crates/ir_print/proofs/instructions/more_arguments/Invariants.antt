use Rattle.std.proofs.Common.{◌≡◌, ◌++◌, take}
use Rattle.std.specs.List.{flat_map}
use Rattle.ir_print.specs.Instructions.{offset_text}
use Rattle.ir_print.proofs.instructions.more_arguments.Given as goal

abbrev pub invariant-loop-given : goal.invariant-loop-given
invariant-loop-given l = l.page ≡ l.fn.page ++ flat_map (offset_text l.globals) (take l.given-index l.arguments)
