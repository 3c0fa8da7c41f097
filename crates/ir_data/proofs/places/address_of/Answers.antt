use Rattle.std.proofs.Common.{arith}
use Rattle.ir_data.proofs.Sizes.{few_bytes}
use Rattle.ir_data.proofs.Steps.{few_of_first}
use Rattle.ir_data.proofs.places.address_of.Goals as goal

pub taken-requires : goal.taken-requires
taken-requires c = rw c.as_slice.ensures (few_of_first c.args.all.now.globals c.args.global (few_bytes c.args.all.now c.requires.limits) (omega (arith, c.requires.exists)))
