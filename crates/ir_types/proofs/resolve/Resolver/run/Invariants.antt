use Rattle.ir_types.specs.Resolving.{Sound, Touches}
use Rattle.ir_types.proofs.resolve.Resolver.run.Given as goal

abbrev pub invariant-loop : goal.invariant-loop
invariant-loop l = record {
  sound : Sound l.bodies l.self.entries l.self.frames;
  touches : Touches l.fn.self.entries l.self.entries;
}
