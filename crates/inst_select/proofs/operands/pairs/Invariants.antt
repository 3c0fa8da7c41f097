use Rattle.std.proofs.Common.{◌≡◌, ◌++◌}
use Rattle.std.specs.Slice.Iter.{iter_rest}
use Rattle.std.specs.Iterator.Adapters.{zip_first, zip_second}
use Rattle.selected_code.specs.Selected.{paired}
use Rattle.inst_select.proofs.operands.pairs.Given as goal

abbrev pub invariant-loop-register : goal.invariant-loop-register
invariant-loop-register l =
    record {
      pairs : l.pairs.items ++ paired (iter_rest (zip_first l.register-iterator)) (iter_rest (zip_second l.register-iterator)) ≡ paired l.registers l.blocks;
    }
