use Rattle.std.proofs.Common.{arith}
use Rattle.ir_data.proofs.Sizes.{size_within}
use Rattle.ir_eval.proofs.steps.alloca_step.Goals as goal

pub raise_top-requires-clause-size : goal.raise_top-requires-clause-size
raise_top-requires-clause-size c = let most = size_within c.args.of.now c.requires.sizes in let is = c.size_of.ensures in omega (arith, most, is)
