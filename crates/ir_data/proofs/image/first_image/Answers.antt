use Rattle.ir_verify.proofs.Rows.{no_limit}
use Rattle.ir_data.proofs.Sizes.{few_bytes}
use Rattle.ir_data.proofs.image.first_image.Goals as goal

pub taken-bytes-requires : goal.taken-bytes-requires
taken-bytes-requires c = rw c.as_slice.ensures (few_bytes c.module-all.result.now (no_limit c.module-all.result.now c.module-all.ensures.passes.rows))
