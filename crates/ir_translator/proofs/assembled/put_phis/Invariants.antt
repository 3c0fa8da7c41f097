use Rattle.std.proofs.Common.{◌≡◌, ◌+◌, ◌++◌, List, drop}
use Rattle.ir_core.specs.declared.program.Function.{Function}
use Rattle.ir_core.specs.declared.program.Global.{Global}
use Rattle.generic_code.specs.Whole.{phis_code}
use Rattle.ir_translator.specs.Groups.{picked}
use Rattle.ir_translator.proofs.assembled.put_phis.Given as goal

abbrev pub invariant-loop-place : goal.invariant-loop-place
invariant-loop-place l = (globals : List Global) (function : Function)
    → l.insts ++ phis_code globals function (l.value + l.place) l.place (picked l.edges l.places) (drop l.place l.phis) ≡ l.fn.insts ++ phis_code globals function l.value 0 (picked l.edges l.places) l.phis
