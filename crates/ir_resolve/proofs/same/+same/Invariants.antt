use Rattle.std.proofs.Common.{◌+◌, ◌*◌, ◌^◌, length}
use Rattle.ir_resolve.proofs.same.+same.Given as goal

abbrev pub decreases-same_type : goal.decreases-same_type
decreases-same_type l = l.depth * 2 ^ 65

abbrev pub decreases-all_same : goal.decreases-all_same
decreases-all_same l = l.depth * 2 ^ 65 + length l.a.now + 1
