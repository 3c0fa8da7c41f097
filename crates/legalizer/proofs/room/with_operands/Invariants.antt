use Rattle.std.proofs.Common.{◌≡◌, ◌+◌, ◌≤◌, drop, min}
use Rattle.legal_code.specs.Legal.{taken_all}
use Rattle.legalizer.proofs.room.with_operands.Given as goal

abbrev pub invariant-loop-place : goal.invariant-loop-place
invariant-loop-place l =
    record {
      left : min (l.total + taken_all l.types l.inst.op l.inst.num l.place (drop l.place l.inst.uses)) 18446744073709551615
          ≡ min (l.count + taken_all l.types l.inst.op l.inst.num 0 l.inst.uses) 18446744073709551615;
      few : l.total ≤ 18446744073709551615;
    }
