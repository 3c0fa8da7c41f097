-- How large a function of generic machine code is: each stage numbers the registers and blocks that it adds, so there have to be numbers for them.
use Rattle.std.specs.Prelude.{ℕ, ◌+◌, ◌^◌, ◌≤◌, List, [], ◌∷◌, length}
use Rattle.gmir.specs.declared.code.GInst.{GInst}
use Rattle.gmir.specs.declared.code.GFunction.{GFunction}

-- the instructions of a block, with their operands
abbrev pub size : List GInst → ℕ
size [] = 0
size (i ∷ is) = 1 + length i.uses + size is

abbrev pub sizes : List (List GInst) → ℕ
sizes [] = 0
sizes (insts ∷ blocks) = size insts + sizes blocks

-- so small that each stage has numbers for what it adds
pub record IsSmall (f : GFunction) : Type 0 where
  pub registers : length f.types ≤ 2 ^ 24
  pub blocks : length f.blocks ≤ 2 ^ 24
  pub instructions : sizes f.blocks ≤ 2 ^ 24
