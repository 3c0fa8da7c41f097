-- What the translator asks of a function: each function of a checked module has it.
use Rattle.std.specs.Prelude.{ℕ, ◌+◌, ◌≤◌, List, [], ◌∷◌, length}
use Rattle.ir_core.specs.declared.code.Inst.{Inst}
use Rattle.ir_core.specs.declared.code.Block.{Block}
use Rattle.ir_core.specs.declared.program.Function.{Function}
use Rattle.ir_core.specs.Units.{parts_in}
use Rattle.ir_translator_emit.specs.Forms.{IsTaken, IsLed}
use Rattle.ir_translator_emit.specs.Written.{HasFewPhis}

-- each instruction has the form that the translator asks for, and leads to blocks, of which there are so many
abbrev pub AreFit : ℕ → List Inst → Type 0
AreFit blocks [] = Unit {0}
AreFit blocks (inst ∷ insts) = IsTaken inst.op × IsLed blocks inst.op × AreFit blocks insts

-- how many instructions and parts of instructions there are: as many as their units at most
abbrev pub weight : List Inst → ℕ
weight [] = 0
weight (inst ∷ insts) = 1 + parts_in inst.op + weight insts

-- the same of blocks
abbrev pub AreFitBlocks : ℕ → List Block → Type 0
AreFitBlocks many [] = Unit {0}
AreFitBlocks many (block ∷ blocks) = AreFit many block.insts × AreFitBlocks many blocks

abbrev pub weight_of : List Block → ℕ
weight_of [] = 0
weight_of (block ∷ blocks) = weight block.insts + weight_of blocks

-- a function that the translator takes
pub record IsFit (function : Function) : Type 0 where
  pub fit : AreFitBlocks (length function.blocks) function.blocks
  pub phis : HasFewPhis function
  pub params : length function.params ≤ 8
  pub few : weight_of function.blocks ≤ 16384
  pub blocks : length function.blocks ≤ 16384
