use Rattle.std.proofs.Common.{take}
use Rattle.phi_out.specs.Lowering.{PutsPieces}
use Rattle.phi_out.proofs.lowering.lower_block.Given as goal

abbrev pub invariant-loop-inst : goal.invariant-loop-inst
invariant-loop-inst l = PutsPieces l.function l.from (take l.inst-index l.inst-items) l.fn.edges.items l.edges.items l.block.items
