use Rattle.std.proofs.Common.{◌≡◌, ◌+◌, ◌≤◌, drop, length, min}
use Rattle.legal_code.specs.Legal.{spent_blocks}
use Rattle.legalizer.proofs.room.registers.Given as goal

abbrev pub invariant-loop-insts : goal.invariant-loop-insts
invariant-loop-insts l =
    record {
      left : min (l.total + spent_blocks l.function.types (drop l.insts-index l.function.blocks)) 18446744073709551615
          ≡ min (length l.function.types + spent_blocks l.function.types l.function.blocks) 18446744073709551615;
      few : l.total ≤ 18446744073709551615;
    }
