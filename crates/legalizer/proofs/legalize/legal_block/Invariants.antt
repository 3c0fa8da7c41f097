use Rattle.std.proofs.Common.{◌≡◌, ◌+◌, ◌++◌, drop}
use Rattle.legal_code.specs.Legal.{legal_insts, spent_insts}
use Rattle.legalizer.proofs.legalize.legal_block.Given as goal

abbrev pub invariant-loop-inst : goal.invariant-loop-inst
invariant-loop-inst l =
    record {
      insts : l.legal.insts.items ++ legal_insts l.types l.legal.next (drop l.inst-index l.insts) ≡ legal_insts l.types l.next l.insts;
      next : l.legal.next + spent_insts l.types (drop l.inst-index l.insts) ≡ l.next + spent_insts l.types l.insts;
    }
