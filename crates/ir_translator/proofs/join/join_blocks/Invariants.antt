use Rattle.std.proofs.Common.{◌≡◌, ◌+◌, ◌≤◌, ◌++◌, List, drop, length}
use Rattle.ir_core.specs.declared.program.Global.{Global}
use Rattle.ir_translator.specs.Fit.{weight_of}
use Rattle.ir_translator.specs.Joined.{joined}
use Rattle.ir_translator.proofs.join.join_blocks.Given as goal

abbrev pub invariant-loop-number : goal.invariant-loop-number
invariant-loop-number l = record {
  value : l.value + weight_of (drop l.number l.fn.function.blocks) ≤ length l.fn.function.params + weight_of l.fn.function.blocks;
  count : length l.left.items ≡ length l.fn.function.blocks;
  left : drop l.number l.left.items ≡ drop l.number l.fn.codes.items;
  all : (globals : List Global)
      → l.all ++ joined globals l.fn.function l.fn.edges l.number l.value (drop l.number l.fn.function.blocks) (drop l.number l.fn.codes.items)
      ≡ joined globals l.fn.function l.fn.edges 0 (length l.fn.function.params) l.fn.function.blocks l.fn.codes.items;
}
