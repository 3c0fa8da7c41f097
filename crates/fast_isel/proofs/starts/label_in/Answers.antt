use Rattle.std.proofs.Common.{arith}
use Rattle.fast_isel.proofs.Counts.{label_most}
use Rattle.fast_isel.proofs.starts.label_in.Goals as goal

pub returns-clause-small : goal.returns-clause-small
returns-clause-small c =
    let most = label_most c.args.function.now c.args.block c.requires.block in
    let few = c.requires.starts.2 in
    let value = c.label_at.ensures in
    omega (arith, most, few, value)
