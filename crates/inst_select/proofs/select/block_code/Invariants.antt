use Rattle.std.proofs.Common.{◌≡◌, ◌+◌, ◌++◌, drop}
use Rattle.selected_code.specs.Selected.{fresh_in, code_from}
use Rattle.inst_select.proofs.select.block_code.Given as goal

abbrev pub invariant-loop-inst : goal.invariant-loop-inst
invariant-loop-inst l =
    record {
      insts : l.code.insts.items ++ code_from l.code.next (drop l.inst-index l.insts) ≡ code_from l.next l.insts;
      next : l.code.next + fresh_in (drop l.inst-index l.insts) ≡ l.next + fresh_in l.insts;
    }
