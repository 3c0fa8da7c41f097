use Rattle.std.proofs.Common.{◌≡◌, drop}
use Rattle.ir_verify.specs.Shapes.{is_rising}
use Rattle.ir_verify.proofs.shapes.is_rising.Given as goal

abbrev pub invariant-loop-i : goal.invariant-loop-i
invariant-loop-i l = is_rising (drop l.i l.numbers) ≡ is_rising l.numbers
