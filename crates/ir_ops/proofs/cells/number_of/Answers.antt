use Rattle.std.proofs.Common.{arith, rules, ◌<◌, ◌-◌, ◌^◌}
use Rattle.ir_ops.proofs.Views.{poison_in, below_bits}
use Rattle.ir_ops.proofs.cells.number_of.Goals as goal

pub overflow_mul-value : goal.overflow_mul-value
overflow_mul-value c =
    let low : c.loop-left.value < 2 ^ 120 = below_bits c.args.cells.now c.loop-left.left c.loop-left.value c.requires (omega arith) c.loop-left.invariant.left c.loop-left.invariant.value in
    omega (arith, low)

pub overflow_add-value : goal.overflow_add-value
overflow_add-value c =
    let low : c.loop-left.value < 2 ^ 120 = below_bits c.args.cells.now c.loop-left.left c.loop-left.value c.requires (omega arith) c.loop-left.invariant.left c.loop-left.invariant.value in
    omega (arith, low)

pub returns-then-cell-ge-POISON : goal.returns-then-cell-ge-POISON
returns-then-cell-ge-POISON c = poison_in c.args.cells.now (c.loop-left.left - 1) (omega (arith, c.loop-left.invariant.left)) (search rules)
