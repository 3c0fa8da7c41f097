use Rattle.std.proofs.Common.{◌≡◌, ◌+◌, ◌-◌, ◌++◌, length, map, Some}
use Rattle.ir_meaning.specs.Memory.{number_bytes}
use Rattle.ir_data.proofs.bytes.push_number.Given as goal

abbrev pub invariant-loop : goal.invariant-loop
invariant-loop l = record {
  value : map Some l.bytes ++ number_bytes (l.count - l.counter) l.rest ≡ map Some l.fn.bytes ++ number_bytes l.count l.n;
  more : length l.bytes ≡ length l.fn.bytes + l.counter;
}
