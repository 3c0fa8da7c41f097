use Rattle.std.proofs.Common.{subst, List}
use Rattle.mir.specs.declared.code.MInst.{MInst}
use Rattle.phi_out.specs.Lowered.{IsEdge, direct}
use Rattle.phi_out.proofs.Making.{edge_side, edge_grows, is_none, long_enough}
use Rattle.phi_out.proofs.lowering.side.Goals as goal

pub returns-then-is_empty-clause-side : goal.returns-then-is_empty-clause-side
returns-then-is_empty-clause-side c = direct (subst (λ (ms : List MInst). IsEdge c.args.function.now c.args.from c.args.to ms) (is_none c.in_ok-insts.insts.items c.in_ok-insts.insts.len c.in_ok-insts.insts.ok.0 c.if-is_empty.ensures) c.in_ok-insts.ensures)

pub returns-clause-side : goal.returns-clause-side
returns-clause-side c =
    rw c.next_block-block.ensures (rw c.as_slice.ensures.value (rw c.in_ok-put_block.ensures (rw c.in_ok-put.ensures
    (edge_side c.args.function.now c.args.from c.args.to c.args.edges.now.items c.in_ok-insts.insts.items c.in_ok-insts.ensures (long_enough c.in_ok-insts.insts.items c.in_ok-insts.insts.len c.in_ok-insts.insts.ok.0 c.if-is_empty.ensures)))))

pub returns-clause-grows : goal.returns-clause-grows
returns-clause-grows c =
    rw c.in_ok-put_block.ensures (rw c.in_ok-put.ensures
    (edge_grows c.args.function.now c.args.from c.args.to c.args.edges.now.items c.in_ok-insts.insts.items c.in_ok-insts.ensures (long_enough c.in_ok-insts.insts.items c.in_ok-insts.insts.len c.in_ok-insts.insts.ok.0 c.if-is_empty.ensures) c.requires.inside))
