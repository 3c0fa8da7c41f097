use Rattle.std.proofs.Common.{◌≡◌, ◌+◌, ◌++◌, length, map, Some}
use Rattle.ir_meaning.specs.Image.{zeros}
use Rattle.ir_data.proofs.bytes.push_zeros.Given as goal

abbrev pub invariant-loop : goal.invariant-loop
invariant-loop l = record {
  value : map Some l.bytes ≡ map Some l.fn.bytes ++ zeros l.counter;
  more : length l.bytes ≡ length l.fn.bytes + l.counter;
}
