-- Functions whose spans are worked out by hand.
use Rattle.std.specs.Prelude.{[], ◌∷◌}
use Rattle.rv_core.specs.declared.instr.RegOp.TheVariants.{Add, Sub}
use Rattle.rv_core.specs.declared.instr.BranchOp.TheVariants.{Bne, Blt}
use Rattle.mir.specs.declared.code.MInst.TheVariants.{Param, Op, Const, Move, Branch, Jump, Return}
use Rattle.mir.specs.declared.code.MFunction.{MFunction}

-- adds its parameter to itself, and returns the sum from a second block
abbrev pub doubling : MFunction
doubling = record {
  symbol = 0;
  values = 2;
  end = 268435456;
  regs = 2;
  blocks = (Param 0 0 ∷ Op Add 1 0 0 ∷ Jump 1 ∷ []) ∷ (Return (1 ∷ []) ∷ []) ∷ [];
}

-- adds the numbers from its parameter down to 1
abbrev pub summing : MFunction
summing = record {
  symbol = 0;
  values = 4;
  end = 268435456;
  regs = 4;
  blocks = (Param 0 0 ∷ Const 1 0 ∷ Const 2 1 ∷ Jump 1 ∷ []) ∷ (Op Add 1 1 0 ∷ Op Sub 0 0 2 ∷ Const 3 0 ∷ Branch Bne 0 3 1 2 ∷ [])
      ∷ (Return (1 ∷ []) ∷ []) ∷ [];
}

-- returns its first parameter where it is the less, and else 7; register 3 is never read, and register 4 never named
abbrev pub choosing : MFunction
choosing = record {
  symbol = 0;
  values = 5;
  end = 268435456;
  regs = 5;
  blocks = (Param 0 0 ∷ Param 1 1 ∷ Branch Blt 0 1 1 2 ∷ []) ∷ (Move 2 0 ∷ Jump 3 ∷ []) ∷ (Const 2 7 ∷ Const 3 9 ∷ Jump 3 ∷ [])
      ∷ (Return (2 ∷ []) ∷ []) ∷ [];
}

-- reads a register that nothing writes
abbrev pub unwritten : MFunction
unwritten = record {
  symbol = 0;
  values = 2;
  end = 268435456;
  regs = 2;
  blocks = (Op Add 0 1 1 ∷ Return (0 ∷ []) ∷ []) ∷ [];
}
