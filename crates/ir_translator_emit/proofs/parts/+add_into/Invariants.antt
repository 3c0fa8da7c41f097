use Rattle.std.proofs.Common.{length}
use Rattle.ir_translator_emit.proofs.parts.+add_into.Given as goal

abbrev pub decreases-add_into : goal.decreases-add_into
decreases-add_into l = length l.indices.now
