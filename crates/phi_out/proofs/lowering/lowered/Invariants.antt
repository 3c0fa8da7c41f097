use Rattle.phi_out.specs.Lowering.{PutsBlocks}
use Rattle.phi_out.proofs.lowering.lowered.Given as goal

abbrev pub invariant-loop-from : goal.invariant-loop-from
invariant-loop-from l = PutsBlocks l.function l.from l.edges.items l.blocks.items
