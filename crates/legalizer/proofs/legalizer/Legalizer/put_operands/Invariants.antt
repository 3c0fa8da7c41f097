use Rattle.std.proofs.Common.{◌≡◌, ◌+◌, ◌++◌, drop}
use Rattle.legal_code.specs.Legal.{extensions, operands, taken_all}
use Rattle.legalizer.proofs.legalizer.Legalizer.put_operands.Given as goal

abbrev pub invariant-loop-place : goal.invariant-loop-place
invariant-loop-place l =
    record {
      insts : l.self.insts.items ++ extensions l.types l.inst.op l.inst.num l.place l.self.next (drop l.place l.inst.uses)
          ≡ l.fn.self.insts.items ++ extensions l.types l.inst.op l.inst.num 0 l.fn.self.next l.inst.uses;
      next : l.self.next + taken_all l.types l.inst.op l.inst.num l.place (drop l.place l.inst.uses) ≡ l.fn.self.next + taken_all l.types l.inst.op l.inst.num 0 l.inst.uses;
      operands' : l.operands.items ++ operands l.types l.inst.op l.inst.num l.place l.self.next (drop l.place l.inst.uses) ≡ operands l.types l.inst.op l.inst.num 0 l.fn.self.next l.inst.uses;
    }
