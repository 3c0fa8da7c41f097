use Rattle.std.proofs.Common.{◌≡◌, ◌≤◌, length, drop, Some}
use Rattle.ir_meaning.specs.Memory.{from_bytes}
use Rattle.ir_ops.specs.Cells.{bytes_of}
use Rattle.ir_ops.proofs.cells.number_of.Given as goal

abbrev pub invariant-loop-left : goal.invariant-loop-left
invariant-loop-left l = record {
  value : from_bytes (bytes_of (drop l.left l.cells)) ≡ Some l.value;
  left : l.left ≤ length l.cells;
}

abbrev pub decreases-loop-left : goal.decreases-loop-left
decreases-loop-left l = l.left
