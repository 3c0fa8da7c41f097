use Rattle.std.proofs.Common.{◌≡◌, ◌+◌, drop}
use Rattle.quick_code.specs.Blocks.{edges_in}
use Rattle.fast_isel.proofs.starts.edges_in.Given as goal

abbrev pub invariant-loop-inst : goal.invariant-loop-inst
invariant-loop-inst l = l.count + edges_in (drop l.inst-index l.insts) ≡ edges_in l.insts
