use Rattle.std.proofs.Common.{◌≡◌, length, ◌∙◌, refl, arith}
use Rattle.phi_out.proofs.Blocks.{puts_next_block, is_lowered, has_few_blocks}
use Rattle.phi_out.proofs.lowering.lowered.Goals as goal

pub loop-from-preserved : goal.loop-from-preserved
loop-from-preserved c =
    rw c.in_ok-put_block.ensures
    (puts_next_block c.args.function.now c.loop-from.from c.loop-from.edges.items c.lower_block.new.edges.items c.loop-from.blocks.items c.in_ok-block.block.items
    (omega (arith, c.loop-from-test.true)) c.loop-from.invariant c.in_ok-block.ensures)

pub returns-in-Ok-clause-is : goal.returns-in-Ok-clause-is
returns-in-Ok-clause-is c =
    let all : c.loop-from.from ≡ length c.args.function.now.blocks = omega arith in
    is_lowered c.args.function.now _ c.loop-from.edges.items c.loop-from.blocks.items c.loop-from.from all c.loop-from.invariant (c.from_vec.ensures ∙ c.in-Ok.ensures.items) refl refl refl refl

pub returns-in-Ok-clause-blocks : goal.returns-in-Ok-clause-blocks
returns-in-Ok-clause-blocks c =
    let all : c.loop-from.from ≡ length c.args.function.now.blocks = omega arith in
    has_few_blocks c.args.function.now c.loop-from.edges.items c.loop-from.blocks.items c.from_vec.result c.loop-from.from all c.loop-from.invariant (c.from_vec.ensures ∙ c.in-Ok.ensures.items)
