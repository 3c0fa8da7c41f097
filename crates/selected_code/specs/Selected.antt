-- The target code of a function of generic machine code whose registers are pointers or have 64 bits: a pattern for each operation, of
-- RV64IM's instructions (RISC-V unprivileged manual, chapters "RV32I", "RV64I" and "M").
use Rattle.std.specs.Prelude.{ℕ, ◌+◌, ◌-◌, ◌^◌, min, ◌==◌, ℤ, pos, negsuc, List, [], ◌∷◌, ◌++◌, length, slice_index_or, if◌then◌else◌}
use Rattle.ir_core.specs.declared.code.Pred.{Pred}
use Rattle.ir_core.specs.declared.code.Pred.TheVariants as pred
use Rattle.rv_core.specs.declared.instr.BranchOp.TheVariants.{Bne}
use Rattle.rv_core.specs.declared.instr.ImmOp.TheVariants.{Sltiu, Xori, Andi, Slli, Srai}
use Rattle.rv_core.specs.declared.instr.LoadOp.{LoadOp}
use Rattle.rv_core.specs.declared.instr.LoadOp.TheVariants.{Lbu, Lhu, Lw, Ld}
use Rattle.rv_core.specs.declared.instr.RegOp.{RegOp}
use Rattle.rv_core.specs.declared.instr.RegOp.TheVariants as on
use Rattle.rv_core.specs.declared.instr.StoreOp.{StoreOp}
use Rattle.rv_core.specs.declared.instr.StoreOp.TheVariants.{Sb, Sh, Sw, Sd}
use Rattle.gmir.specs.declared.code.GOp.{GOp}
use Rattle.gmir.specs.declared.code.GOp.TheVariants.{Add, Sub, Mul, UDiv, SDiv, URem, SRem, And, Or, Xor, Shl, LShr, AShr, Icmp, Select, Trunc, ZExt, SExt, AnyExt, SExtInReg, PtrToInt, IntToPtr, PtrAdd, Constant, Phi, Load, Store, Br, BrCond, Param, Call, Return, TakeData, CopyBytes, FillBytes, Copy, Trap}
use Rattle.gmir.specs.declared.code.GInst.{GInst}
use Rattle.gmir.specs.declared.code.GFunction.{GFunction}
use Rattle.gmir.specs.Play.{def_at, use_at}
use Rattle.mir.specs.declared.code.MInst.{MInst}
use Rattle.mir.specs.declared.code.MInst.TheVariants as m
use Rattle.mir.specs.declared.code.MFunction.{MFunction}
use Rattle.walks.specs.Bits.{predicates}

-- ---- patterns: t and those behind it are new registers, d is written, and a, b and c are read

-- 1 in d where a and b compare by the predicate, and 0 where they don't. Two numbers are equal where their exclusive or is below 1
-- without a sign, and a comparison with "or equal" is the turned one of the other two
abbrev pub compare : Pred → ℕ → ℕ → ℕ → ℕ → List MInst
compare pred.Eq t d a b = m.Op on.Xor t a b ∷ m.Imm Sltiu d t (pos 1) ∷ []
compare pred.Ne t d a b = m.Op on.Xor t a b ∷ m.Imm Sltiu (t + 1) t (pos 1) ∷ m.Imm Xori d (t + 1) (pos 1) ∷ []
compare pred.Ugt t d a b = m.Op on.Sltu d b a ∷ []
compare pred.Uge t d a b = m.Op on.Sltu t a b ∷ m.Imm Xori d t (pos 1) ∷ []
compare pred.Ult t d a b = m.Op on.Sltu d a b ∷ []
compare pred.Ule t d a b = m.Op on.Sltu t b a ∷ m.Imm Xori d t (pos 1) ∷ []
compare pred.Sgt t d a b = m.Op on.Slt d b a ∷ []
compare pred.Sge t d a b = m.Op on.Slt t a b ∷ m.Imm Xori d t (pos 1) ∷ []
compare pred.Slt t d a b = m.Op on.Slt d a b ∷ []
compare pred.Sle t d a b = m.Op on.Slt t b a ∷ m.Imm Xori d t (pos 1) ∷ []

-- a in d where the lowest bit of c is 1, and else b: the lowest bit becomes a mask of 64 such bits, and the turned mask takes b
abbrev pub choose : ℕ → ℕ → ℕ → ℕ → ℕ → List MInst
choose t d c a b =
    m.Imm Slli t c (pos 63) ∷ m.Imm Srai (t + 1) t (pos 63) ∷ m.Op on.And (t + 2) a (t + 1) ∷ m.Imm Xori (t + 3) (t + 1) (negsuc 0)
    ∷ m.Op on.And (t + 4) b (t + 3) ∷ m.Op on.Or d (t + 2) (t + 4) ∷ []

-- the low n bits of a in d, extended by their sign: they are shifted up to the top, and down again with the sign
abbrev pub extend : ℕ → ℕ → ℕ → ℕ → List MInst
extend n t d a = m.Imm Slli t a (pos (64 - n)) ∷ m.Imm Srai d t (pos (64 - n)) ∷ []

-- to block `one` where the lowest bit of c is 1, and else to block `zero'`
abbrev pub branch : ℕ → ℕ → ℕ → ℕ → List MInst
branch t c one zero' = m.Imm Andi t c (pos 1) ∷ m.Const (t + 1) 0 ∷ m.Branch Bne t (t + 1) one zero' ∷ []

-- the load and the store of so many bits
abbrev pub load : ℕ → LoadOp
load n = if n == 8 then Lbu else if n == 16 then Lhu else if n == 32 then Lw else Ld

abbrev pub store : ℕ → StoreOp
store n = if n == 8 then Sb else if n == 16 then Sh else if n == 32 then Sw else Sd

-- a number that has more than 64 bits becomes the greatest of 64
abbrev pub capped : ℕ → ℕ
capped n = min n (2 ^ 64 - 1)

-- registers with the blocks that they come from
abbrev pub paired : List ℕ → List ℕ → List (ℕ × ℕ)
paired (r ∷ rs) (b ∷ bs) = (r, b) ∷ paired rs bs
paired _ _ = []

-- ---- instructions

module _ (t : ℕ) (i : GInst) where
  abbrev d : ℕ
  d = def_at i 0

  abbrev a : ℕ
  a = use_at i 0

  abbrev b : ℕ
  b = use_at i 1

  abbrev two : RegOp → List MInst
  two op = m.Op op d a b ∷ []

  -- the code of an instruction by its operation; from one width to the same one each change of width is a move
  abbrev pub code_by : GOp → List MInst
  code_by Add = two on.Add
  code_by Sub = two on.Sub
  code_by Mul = two on.Mul
  code_by UDiv = two on.Divu
  code_by SDiv = two on.Div
  code_by URem = two on.Remu
  code_by SRem = two on.Rem
  code_by And = two on.And
  code_by Or = two on.Or
  code_by Xor = two on.Xor
  code_by Shl = two on.Sll
  code_by LShr = two on.Srl
  code_by AShr = two on.Sra
  code_by Icmp = compare (slice_index_or predicates i.num pred.Eq) t d a b
  code_by Select = choose t d a b (use_at i 2)
  code_by SExtInReg = extend i.num t d a
  code_by Trunc = m.Move d a ∷ []
  code_by ZExt = m.Move d a ∷ []
  code_by SExt = m.Move d a ∷ []
  code_by AnyExt = m.Move d a ∷ []
  code_by PtrToInt = m.Move d a ∷ []
  code_by IntToPtr = m.Move d a ∷ []
  code_by Copy = m.Move d a ∷ []
  code_by PtrAdd = two on.Add
  code_by Constant = m.Const d (capped i.num) ∷ []
  code_by Phi = m.Phi d (paired i.uses i.to) ∷ []
  code_by Load = m.Load (load i.num) d a (pos 0) ∷ []
  code_by Store = m.Store (store i.num) a b (pos 0) ∷ []
  code_by Br = m.Jump (slice_index_or i.to 0 0) ∷ []
  code_by BrCond = branch t a (slice_index_or i.to 0 0) (slice_index_or i.to 1 0)
  code_by Param = m.Param d (min i.num 7) ∷ []
  code_by Call = m.Call (slice_index_or i.to 0 0) i.uses i.defs ∷ []
  code_by Return = m.Return i.uses ∷ []
  code_by TakeData = m.TakeData d (capped i.num) ∷ []
  code_by CopyBytes = m.CopyBytes a b (use_at i 2) ∷ []
  code_by FillBytes = m.FillBytes a b (use_at i 2) ∷ []
  code_by Trap = m.Trap ∷ []

-- the code of an instruction, whose new registers begin at t
abbrev pub code : ℕ → GInst → List MInst
code t i = code_by t i i.op

-- how many new registers an operation has
abbrev pub fresh : GOp → ℕ
fresh Icmp = 2
fresh Select = 5
fresh SExtInReg = 1
fresh BrCond = 2
fresh _ = 0

-- ---- blocks and functions

abbrev pub fresh_in : List GInst → ℕ
fresh_in [] = 0
fresh_in (i ∷ is) = fresh i.op + fresh_in is

abbrev pub fresh_of : List (List GInst) → ℕ
fresh_of [] = 0
fresh_of (insts ∷ blocks) = fresh_in insts + fresh_of blocks

abbrev pub code_from : ℕ → List GInst → List MInst
code_from t [] = []
code_from t (i ∷ is) = code t i ++ code_from (t + fresh i.op) is

abbrev pub blocks_from : ℕ → List (List GInst) → List (List MInst)
blocks_from t [] = []
blocks_from t (insts ∷ blocks) = code_from t insts ∷ blocks_from (t + fresh_in insts) blocks

-- the code of a function: its registers keep their numbers, and new ones stand behind them
abbrev pub selected : GFunction → MFunction
selected g = record {
  symbol = g.symbol;
  values = g.values;
  end = g.end;
  regs = length g.types + fresh_of g.blocks;
  blocks = blocks_from (length g.types) g.blocks;
}
