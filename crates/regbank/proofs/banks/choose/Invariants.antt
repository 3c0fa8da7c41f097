use Rattle.std.proofs.Common.{◌≡◌, take}
use Rattle.regbank.specs.Counts.{uses_of}
use Rattle.regbank.specs.Choice.{block_choices}
use Rattle.regbank.proofs.banks.choose.Given as goal

abbrev pub invariant-loop-block : goal.invariant-loop-block
invariant-loop-block l = l.kept.items ≡ block_choices (uses_of l.function) (take l.block-index l.function.blocks)
