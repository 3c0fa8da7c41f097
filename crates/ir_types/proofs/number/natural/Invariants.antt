use Rattle.std.proofs.Common.{◌≡◌, ◌<◌, ◌^◌, drop}
use Rattle.ir_types.specs.Numbers.{digits_onto, decimal}
use Rattle.ir_types.proofs.number.natural.Given as goal

abbrev pub invariant-loop-digit : goal.invariant-loop-digit
invariant-loop-digit l = record {
  digits : digits_onto l.number (drop l.digit-index l.digits) ≡ decimal l.digits;
  bound : l.number < 2 ^ 128;
}
