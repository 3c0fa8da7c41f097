use Rattle.std.proofs.Common.{arith}
use Rattle.rv_asm.proofs.Constants.{const-puts}
use Rattle.rv_asm.proofs.Counts.{const-counted}
use Rattle.rv_asm.proofs.asm.Asm.load_const.Goals as goal

pub returns-then-is_err-clause-words : goal.returns-then-is_err-clause-words
returns-then-is_err-clause-words c = const-counted c.args.reg c.args.value (omega (arith, c.ranges.value))

pub returns-then-is_err-clause-puts : goal.returns-then-is_err-clause-puts
returns-then-is_err-clause-puts c = λ nz. const-puts c.args.reg nz c.args.value (omega (arith, c.ranges.value))

pub returns-else-is_err-clause-words : goal.returns-else-is_err-clause-words
returns-else-is_err-clause-words c = const-counted c.args.reg c.args.value (omega (arith, c.ranges.value))

pub returns-else-is_err-clause-puts : goal.returns-else-is_err-clause-puts
returns-else-is_err-clause-puts c = λ nz. const-puts c.args.reg nz c.args.value (omega (arith, c.ranges.value))
