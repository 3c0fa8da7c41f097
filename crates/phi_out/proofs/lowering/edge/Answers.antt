use Rattle.phi_out.proofs.Making.{spare_unwritten}
use Rattle.phi_out.proofs.lowering.edge.Goals as goal

pub edge_moves-requires : goal.edge_moves-requires
edge_moves-requires c = record { spare = rw c.block_at.ensures (spare_unwritten c.args.function.now c.requires.formed c.args.to) }

pub returns : goal.returns
returns c = record {
  made = rw c.block_at.ensures at c.in_ok-moves.ensures.made;
  only = rw c.block_at.ensures at c.in_ok-moves.ensures.only;
  short = rw c.block_at.ensures at c.in_ok-moves.ensures.short;
}
