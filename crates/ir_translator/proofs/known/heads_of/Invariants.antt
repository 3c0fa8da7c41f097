use Rattle.std.proofs.Common.{◌≡◌, ◌++◌, map, drop}
use Rattle.ir_core.specs.declared.code.Block.{Block}
use Rattle.ir_meaning.specs.Step.{phis}
use Rattle.ir_translator_emit.specs.Written.{head_of}
use Rattle.ir_translator.proofs.known.heads_of.Given as goal

abbrev pub invariant-loop-block : goal.invariant-loop-block
invariant-loop-block l = l.all ++ map (λ (block : Block). map head_of (phis block.insts)) (drop l.block-index l.blocks) ≡ map (λ (block : Block). map head_of (phis block.insts)) l.blocks
