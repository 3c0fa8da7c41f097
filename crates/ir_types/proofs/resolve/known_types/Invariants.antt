use Rattle.std.proofs.Common.{◌≡◌, []}
use Rattle.ir_types.specs.Resolving.{Sound, AreTouched}
use Rattle.ir_types.proofs.resolve.known_types.Given as goal

abbrev pub invariant-loop-ty : goal.invariant-loop-ty
invariant-loop-ty l = record {
  sound : Sound l.bodies l.resolver.entries l.resolver.frames;
  settled : l.resolver.frames ≡ [];
  touched : AreTouched l.bodies l.resolver.entries l.ty;
}
