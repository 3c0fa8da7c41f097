use Rattle.std.proofs.Common.{◌≡◌, ◌-◌, ◌++◌, length, take}
use Rattle.ir_meaning.specs.Memory.{number_bytes}
use Rattle.ir_ops.specs.Cells.{bytes_of}
use Rattle.ir_ops.proofs.cells.put_number.Given as goal

abbrev pub invariant-loop-i : goal.invariant-loop-i
invariant-loop-i l = record {
  value : bytes_of (take l.i l.cells) ++ number_bytes (length l.cells - l.i) l.rest ≡ number_bytes (length l.cells) l.n;
  same : length l.cells ≡ length l.fn.cells;
}
