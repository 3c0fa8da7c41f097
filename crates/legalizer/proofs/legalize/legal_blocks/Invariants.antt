use Rattle.std.proofs.Common.{◌≡◌, ◌+◌, ◌++◌, drop, length}
use Rattle.legal_code.specs.Legal.{legal_blocks, spent_blocks}
use Rattle.legalizer.proofs.legalize.legal_blocks.Given as goal

abbrev pub invariant-loop-insts : goal.invariant-loop-insts
invariant-loop-insts l =
    record {
      blocks : l.blocks.items ++ legal_blocks l.function.types l.next (drop l.insts-index l.function.blocks) ≡ legal_blocks l.function.types (length l.function.types) l.function.blocks;
      next : l.next + spent_blocks l.function.types (drop l.insts-index l.function.blocks) ≡ length l.function.types + spent_blocks l.function.types l.function.blocks;
    }
