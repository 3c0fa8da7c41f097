use Rattle.std.proofs.Common.{◌≡◌, length}
use Rattle.std.specs.Prelude.{reverse}
use Rattle.ir_types.specs.Build.{completed}
use Rattle.ir_types.proofs.build.Builder.complete.Given as goal

abbrev pub invariant-loop-open : goal.invariant-loop-open
invariant-loop-open l = completed l.ty (reverse l.self.outer) ≡ completed l.fn.given (reverse l.fn.self.outer)

abbrev pub decreases-loop-open : goal.decreases-loop-open
decreases-loop-open l = length l.self.outer
