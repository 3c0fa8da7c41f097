use Rattle.std.proofs.Common.{◌≡◌, ◌++◌, take}
use Rattle.std.specs.List.{flat_map}
use Rattle.ir_print.specs.Instructions.{case_text}
use Rattle.ir_print.proofs.instructions.cases.Given as goal

abbrev pub invariant-loop-one : goal.invariant-loop-one
invariant-loop-one l = l.page ≡ l.fn.page ++ flat_map (case_text l.given) (take l.one-index l.all)
