use Rattle.ir_verify.proofs.Rows.{no_limit}
use Rattle.ir_data.proofs.Sizes.{few_bytes}
use Rattle.ir_data.proofs.addresses.Places.new.Goals as goal

pub places-requires : goal.places-requires
places-requires c = rw c.as_slice-globals.ensures (few_bytes c.module.result.now (no_limit c.module.result.now c.module.ensures.passes.rows))

pub taken-requires : goal.taken-requires
taken-requires c = rw c.as_slice-globals.ensures (few_bytes c.module.result.now (no_limit c.module.result.now c.module.ensures.passes.rows))
