use Rattle.std.proofs.Common.{length}
use Rattle.ir_eval.proofs.parts.+all_numbers.Given as goal

abbrev pub decreases-all_numbers : goal.decreases-all_numbers
decreases-all_numbers l = length l.indices.now
