use Rattle.std.proofs.Common.{◌≡◌, drop}
use Rattle.fast_isel_emit.specs.Operands.{are_widths}
use Rattle.fast_isel.proofs.taken.are_widths.Given as goal

abbrev pub invariant-loop-ty : goal.invariant-loop-ty
invariant-loop-ty l = are_widths (drop l.ty-index l.tys) ≡ are_widths l.tys
