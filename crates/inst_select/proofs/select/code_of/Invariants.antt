use Rattle.std.proofs.Common.{◌≡◌, ◌+◌, ◌++◌, drop, length}
use Rattle.selected_code.specs.Selected.{fresh_of, blocks_from}
use Rattle.inst_select.proofs.select.code_of.Given as goal

abbrev pub invariant-loop-insts : goal.invariant-loop-insts
invariant-loop-insts l =
    record {
      blocks : l.blocks.items ++ blocks_from l.next (drop l.insts-index l.function.blocks) ≡ blocks_from (length l.function.types) l.function.blocks;
      next : l.next + fresh_of (drop l.insts-index l.function.blocks) ≡ length l.function.types + fresh_of l.function.blocks;
    }
