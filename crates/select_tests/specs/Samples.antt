-- Functions of generic machine code whose target code is worked out by hand.
use Rattle.std.specs.Prelude.{ℕ, List, [], ◌∷◌, pos, negsuc}
use Rattle.rv_core.specs.declared.instr.ImmOp.TheVariants.{Xori, Slli, Srai}
use Rattle.rv_core.specs.declared.instr.LoadOp.TheVariants.{Lhu}
use Rattle.rv_core.specs.declared.instr.RegOp.TheVariants as on
use Rattle.rv_core.specs.declared.instr.StoreOp.TheVariants.{Sw}
use Rattle.gmir.specs.declared.code.GType.TheVariants.{S, P0}
use Rattle.gmir.specs.declared.code.GOp.{GOp}
use Rattle.gmir.specs.declared.code.GOp.TheVariants.{Add, Sub, Icmp, Select, SExtInReg, Load, Store, Br, Param, Return}
use Rattle.gmir.specs.declared.code.GInst.{GInst}
use Rattle.gmir.specs.declared.code.GFunction.{GFunction}
use Rattle.mir.specs.declared.code.MInst.TheVariants as m
use Rattle.mir.specs.declared.code.MFunction.{MFunction}

abbrev pub inst : GOp → List ℕ → List ℕ → ℕ → List ℕ → GInst
inst op defs uses num to = record { op = op; defs = defs; uses = uses; num = num; to = to }

-- adds its parameter to itself, and returns the sum from a second block
abbrev pub doubling : GFunction
doubling = record {
  symbol = 0;
  values = 2;
  end = 268435456;
  types = S 64 ∷ S 64 ∷ [];
  blocks =
      (inst Param (0 ∷ []) [] 0 [] ∷ inst Add (1 ∷ []) (0 ∷ 0 ∷ []) 0 [] ∷ inst Br [] [] 0 (1 ∷ []) ∷ [])
      ∷ (inst Return [] (1 ∷ []) 0 [] ∷ []) ∷ [];
}

abbrev pub doubling_code : MFunction
doubling_code = record {
  symbol = 0;
  values = 2;
  end = 268435456;
  regs = 2;
  blocks = (m.Param 0 0 ∷ m.Op on.Add 1 0 0 ∷ m.Jump 1 ∷ []) ∷ (m.Return (1 ∷ []) ∷ []) ∷ [];
}

-- loads a number of 16 bits, extends it by its sign, takes the greater of it and a parameter, and stores and returns that less the number
abbrev pub choosing : GFunction
choosing = record {
  symbol = 3;
  values = 7;
  end = 268435456;
  types = S 64 ∷ P0 ∷ S 64 ∷ S 64 ∷ S 64 ∷ S 64 ∷ S 64 ∷ [];
  blocks = (
      inst Param (0 ∷ []) [] 0 [] ∷ inst Param (1 ∷ []) [] 1 [] ∷ inst Load (2 ∷ []) (1 ∷ []) 16 [] ∷ inst SExtInReg (3 ∷ []) (2 ∷ []) 16 []
      ∷ inst Icmp (4 ∷ []) (3 ∷ 0 ∷ []) 5 [] ∷ inst Select (5 ∷ []) (4 ∷ 0 ∷ 3 ∷ []) 0 [] ∷ inst Sub (6 ∷ []) (5 ∷ 3 ∷ []) 0 []
      ∷ inst Store [] (6 ∷ 1 ∷ []) 32 [] ∷ inst Return [] (6 ∷ []) 0 [] ∷ []
      ) ∷ [];
}

-- registers 7 to 14 are new: one of the extension, two of the compare, of which at most without a sign takes one, and five of the choice
abbrev pub choosing_code : MFunction
choosing_code = record {
  symbol = 3;
  values = 7;
  end = 268435456;
  regs = 15;
  blocks = (
      m.Param 0 0 ∷ m.Param 1 1 ∷ m.Load Lhu 2 1 (pos 0) ∷ m.Imm Slli 7 2 (pos 48) ∷ m.Imm Srai 3 7 (pos 48)
      ∷ m.Op on.Sltu 8 0 3 ∷ m.Imm Xori 4 8 (pos 1) ∷ m.Imm Slli 10 4 (pos 63) ∷ m.Imm Srai 11 10 (pos 63) ∷ m.Op on.And 12 0 11
      ∷ m.Imm Xori 13 11 (negsuc 0) ∷ m.Op on.And 14 3 13 ∷ m.Op on.Or 5 12 14 ∷ m.Op on.Sub 6 5 3 ∷ m.Store Sw 6 1 (pos 0) ∷ m.Return (6 ∷ []) ∷ []
      ) ∷ [];
}
