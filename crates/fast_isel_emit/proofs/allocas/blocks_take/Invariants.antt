use Rattle.std.proofs.Common.{◌≡◌, drop}
use Rattle.quick_code.specs.Data.{blocks_take}
use Rattle.fast_isel_emit.proofs.allocas.blocks_take.Given as goal

abbrev pub invariant-loop-block : goal.invariant-loop-block
invariant-loop-block l = blocks_take (drop l.block-index l.blocks) ≡ blocks_take l.blocks
