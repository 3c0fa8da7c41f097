use Rattle.std.proofs.Common.{length}
use Rattle.fast_isel_emit.proofs.parts.+put_into.Given as goal

abbrev pub decreases-put_into : goal.decreases-put_into
decreases-put_into l = length l.indices.now
