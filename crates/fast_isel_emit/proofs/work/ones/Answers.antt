use Rattle.std.proofs.Common.{◌^◌, ◌≤◌, arith}
use Rattle.std.proofs.Math.Pow.{pow_mono}
use Rattle.std.proofs.lemmas.Int.{ints}
use Rattle.fast_isel_emit.proofs.work.ones.Goals as goal

pub returns-clause-fits : goal.returns-clause-fits
returns-clause-fits c = let most : 2 ^ c.args.width ≤ 2 ^ 11 = pow_mono c.requires in (omega (arith, ints), omega (arith, ints, most))
