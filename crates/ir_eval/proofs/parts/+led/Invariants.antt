use Rattle.std.proofs.Common.{length}
use Rattle.ir_eval.proofs.parts.+led.Given as goal

abbrev pub decreases-led : goal.decreases-led
decreases-led l = length l.indices.now
