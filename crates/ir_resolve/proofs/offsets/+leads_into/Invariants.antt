use Rattle.std.proofs.Common.{length}
use Rattle.ir_resolve.proofs.offsets.+leads_into.Given as goal

abbrev pub decreases-leads_into : goal.decreases-leads_into
decreases-leads_into l = length l.offsets.now
