use Rattle.std.proofs.Common.{◌≡◌, ◌++◌, take}
use Rattle.std.specs.List.{flat_map}
use Rattle.ir_print.specs.Modules.{global_line}
use Rattle.ir_print.proofs.modules.globals.Given as goal

abbrev pub invariant-loop-one : goal.invariant-loop-one
invariant-loop-one l = l.page ≡ l.fn.page ++ flat_map (global_line l.globals) (take l.one-index l.globals)
