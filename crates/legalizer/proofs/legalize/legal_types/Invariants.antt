use Rattle.std.proofs.Common.{◌≡◌, ◌++◌, map, drop}
use Rattle.legal_code.specs.Legal.{legal_type}
use Rattle.legalizer.proofs.legalize.legal_types.Given as goal

abbrev pub invariant-loop-ty : goal.invariant-loop-ty
invariant-loop-ty l = l.legal.items ++ map legal_type (drop l.ty-index l.types) ≡ map legal_type l.types
