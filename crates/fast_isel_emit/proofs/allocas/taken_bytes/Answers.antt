use Rattle.fast_isel_emit.proofs.Sizes.{few_taken, many_taken}
use Rattle.fast_isel_emit.proofs.allocas.taken_bytes.Goals as goal

pub returns-then-bytes : goal.returns-then-bytes
returns-then-bytes c = few_taken c.args.of.now c.measure_of.result.extent.size c.args.count c.from.result c.from-2.result c.measure_of.ensures.size c.from.ensures c.from-2.ensures c.if-bytes.true

pub returns-else-bytes : goal.returns-else-bytes
returns-else-bytes c = many_taken c.args.of.now c.measure_of.result.extent.size c.args.count c.from.result c.from-2.result c.measure_of.ensures.size c.from.ensures c.from-2.ensures c.if-bytes.false
