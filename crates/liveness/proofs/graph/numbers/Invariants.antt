use Rattle.std.proofs.Common.{◌≡◌, ◌<◌}
use Rattle.mir.specs.Code.{count_before}
use Rattle.liveness.specs.Scan.{IsNumbering}
use Rattle.liveness.proofs.graph.numbers.Given as goal

abbrev pub invariant-loop-block : goal.invariant-loop-block
invariant-loop-block l =
    record {
      numbering : IsNumbering l.blocks l.block-index l.numbers.items;
      number_is : l.number ≡ count_before l.blocks l.block-index;
      below : l.number < 2147483648;
    }
