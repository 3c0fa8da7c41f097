use Rattle.std.proofs.Common.{◌≡◌, ◌+◌, ◌≤◌, drop, min}
use Rattle.legal_code.specs.Legal.{spent_insts}
use Rattle.legalizer.proofs.room.with_block.Given as goal

abbrev pub invariant-loop-inst : goal.invariant-loop-inst
invariant-loop-inst l =
    record {
      left : min (l.total + spent_insts l.types (drop l.inst-index l.insts)) 18446744073709551615
          ≡ min (l.count + spent_insts l.types l.insts) 18446744073709551615;
      few : l.total ≤ 18446744073709551615;
    }
