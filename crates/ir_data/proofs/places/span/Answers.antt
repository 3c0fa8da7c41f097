use Rattle.std.proofs.Common.{arith}
use Rattle.ir_data.proofs.Sizes.{size_within}
use Rattle.ir_data.proofs.places.span.Goals as goal

pub overflow_add-result : goal.overflow_add-result
overflow_add-result c = let h = size_within c.args.global.now.ty c.requires in omega (arith, h, c.size_of-size.ensures)

pub returns-clause-most : goal.returns-clause-most
returns-clause-most c = let h = size_within c.args.global.now.ty c.requires in omega (arith, h, c.size_of-size.ensures)
