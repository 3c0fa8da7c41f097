use Rattle.std.proofs.Common.{◌≡◌, length}
use Rattle.ir_core.specs.declared.program.Function.{Function}
use Rattle.ir_core.specs.declared.program.Global.{Global}
use Rattle.std.specs.Prelude.{List}
use Rattle.ir_translator.proofs.Grouping.{AreGrouped}
use Rattle.ir_translator.proofs.edges.by_target.Given as goal

abbrev pub invariant-loop-place : goal.invariant-loop-place
invariant-loop-place l = record {
  count : length l.groups.items ≡ l.fn.blocks;
  groups : (globals : List Global) (function : Function) → AreGrouped globals function l.edges l.place l.groups.items;
}
