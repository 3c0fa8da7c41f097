use Rattle.std.proofs.Common.{arith, ◌-◌, ◌^◌, ◌≤◌}
use Rattle.std.proofs.Math.Pow.{pow_mono}
use Rattle.ir_ops.proofs.shifts.sign_bits.Goals as goal

pub overflow_sub-result : goal.overflow_sub-result
overflow_sub-result c =
    let most : 2 ^ (c.args.width - c.args.by) ≤ 2 ^ c.args.width = pow_mono (omega arith) in
    omega (arith, most, c.mask.ensures, c.mask-then-is_negative.ensures)
