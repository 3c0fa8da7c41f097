-- The generic code of an instruction. Flags are dropped, a poison value may be any number, and `freeze` is a copy.
use Rattle.std.specs.Prelude.{ℕ, ◌+◌, ◌*◌, ◌==◌, Bool, true, false, List, [], ◌∷◌, ◌++◌, take, Option, Some, None}
use Rattle.ir_core.specs.declared.types.Ty.{Ty}
use Rattle.ir_core.specs.declared.types.Ty.TheVariants.{Void, Int, Ptr}
use Rattle.ir_core.specs.declared.code.Operand.{Operand}
use Rattle.ir_core.specs.declared.code.Operand.TheVariants.{Num}
use Rattle.ir_core.specs.declared.code.BinOp.{BinOp}
use Rattle.ir_core.specs.declared.code.BinOp.TheVariants.{Add, Sub, Mul, UDiv, SDiv, URem, SRem, Shl, LShr, AShr, And, Or, Xor}
use Rattle.ir_core.specs.declared.code.Pred.{Pred}
use Rattle.ir_core.specs.declared.code.Pred.TheVariants.{Eq, Ne, Ugt, Uge, Ult, Ule, Sgt, Sge, Slt, Sle}
use Rattle.ir_core.specs.declared.code.CastOp.{CastOp}
use Rattle.ir_core.specs.declared.code.CastOp.TheVariants.{Trunc, ZExt, SExt, PtrToInt, IntToPtr, Same}
use Rattle.ir_core.specs.declared.code.BuiltIn.{BuiltIn}
use Rattle.ir_core.specs.declared.code.BuiltIn.TheVariants.{MemCpy, MemMove, MemSet, SMax, SMin, UMax, Abs}
use Rattle.ir_core.specs.declared.code.Op.{Op}
use Rattle.ir_core.specs.declared.code.Op.TheVariants.{Binary, Icmp, Cast, Select, Freeze, Alloca, Load, Store, Gep, Call, BuiltIn as CallBuiltIn, Ret}
use Rattle.ir_core.specs.declared.program.Global.{Global}
use Rattle.ir_core.specs.Layout.{size, aligned}
use Rattle.ir_meaning.specs.Memory.{byte_count}
use Rattle.ir_meaning.specs.Operators.{width}
use Rattle.gmir.specs.declared.code.GType.{GType}
use Rattle.gmir.specs.declared.code.GType.TheVariants.{S}
use Rattle.gmir.specs.declared.code.GOp.{GOp}
use Rattle.gmir.specs.declared.code.GOp.TheVariants as g
use Rattle.gmir.specs.declared.code.GInst.{GInst}
use Rattle.generic_code.specs.Literals.{Pool, type_of, plain, skip, loads, all_loaded, registers, behind_all}
use Rattle.generic_code.specs.Parts.{Addend, addends_of, in_order, first_register, sum_code, sum_types, sum_pool}

-- ---- the operations that have a generic one

abbrev pub binary_op : BinOp → GOp
binary_op Add = g.Add
binary_op Sub = g.Sub
binary_op Mul = g.Mul
binary_op UDiv = g.UDiv
binary_op SDiv = g.SDiv
binary_op URem = g.URem
binary_op SRem = g.SRem
binary_op Shl = g.Shl
binary_op LShr = g.LShr
binary_op AShr = g.AShr
binary_op And = g.And
binary_op Or = g.Or
binary_op Xor = g.Xor

abbrev pub predicate : Pred → ℕ
predicate Eq = 0
predicate Ne = 1
predicate Ugt = 2
predicate Uge = 3
predicate Ult = 4
predicate Ule = 5
predicate Sgt = 6
predicate Sge = 7
predicate Slt = 8
predicate Sle = 9

abbrev pub cast_op : CastOp → GOp
cast_op Trunc = g.Trunc
cast_op ZExt = g.ZExt
cast_op SExt = g.SExt
cast_op PtrToInt = g.PtrToInt
cast_op IntToPtr = g.IntToPtr
cast_op Same = g.Copy

-- the predicate by which a greatest or least value is the first of two
abbrev pub chooses : BuiltIn → ℕ
chooses SMax = predicate Sge
chooses SMin = predicate Sle
chooses UMax = predicate Uge
chooses _ = predicate Ule

-- ---- code, the types of its further registers, and the registers behind it

pub record Piece : Type 0 where
  pub code : List GInst
  pub types : List GType
  pub pool : Pool

-- the register of a result, where there is one
abbrev pub result : Ty → ℕ → List ℕ
result Void value = []
result ty value = value ∷ []

module _ (globals : List Global) where
  -- the operands' literals, and one instruction that reads the operands
  abbrev pub one : Pool → List (Ty × Operand) → GOp → List ℕ → ℕ → List ℕ → Piece
  one pool operands op defs num to = record {
    code = loads globals pool operands ++ record { op = op; defs = defs; uses = registers globals pool operands; num = num; to = to } ∷ [];
    types = all_loaded globals pool operands;
    pool = behind_all globals pool operands;
  }

  -- the address that is a number, by whether that has 64 bits: a narrower one is extended by zeros first (LangRef, `inttoptr .. to`)
  abbrev pub address : Bool → Pool → ℕ → List (Ty × Operand) → Piece
  address true pool value operands = one pool operands g.IntToPtr (value ∷ []) 0 []
  address false pool value operands = record {
    code =
        loads globals pool operands
        ++ plain g.ZExt ((behind_all globals pool operands).next ∷ []) (registers globals pool operands) 0
        ∷ plain g.IntToPtr (value ∷ []) ((behind_all globals pool operands).next ∷ []) 0 ∷ [];
    types = all_loaded globals pool operands ++ S 64 ∷ [];
    pool = skip 1 (behind_all globals pool operands);
  }

  abbrev pub cast : Pool → ℕ → Ty → Operand → CastOp → Piece
  cast pool value from a IntToPtr = address (width from == 64) pool value ((from, a) ∷ [])
  cast pool value from a op = one pool ((from, a) ∷ []) (cast_op op) (value ∷ []) 0 []

  -- the greater or lesser of two numbers: a comparison, and the choice by it
  abbrev pub choice : Pool → ℕ → List (Ty × Operand) → ℕ → Piece
  choice pool value operands place = record {
    code =
        loads globals pool operands
        ++ plain g.Icmp ((behind_all globals pool operands).next ∷ []) (registers globals pool operands) place
        ∷ plain g.Select (value ∷ []) ((behind_all globals pool operands).next ∷ registers globals pool operands) 0 ∷ [];
    types = all_loaded globals pool operands ++ S 1 ∷ [];
    pool = skip 1 (behind_all globals pool operands);
  }

  -- the number of a register without its sign, where the second register holds 0: its negation where it is negative
  abbrev pub negated : ℕ → ℕ → List ℕ → List GInst
  negated next value (a ∷ none ∷ _) =
      plain g.Sub (next ∷ []) (none ∷ a ∷ []) 0
      ∷ plain g.Icmp ((next + 1) ∷ []) (a ∷ none ∷ []) (predicate Slt)
      ∷ plain g.Select (value ∷ []) ((next + 1) ∷ next ∷ a ∷ []) 0 ∷ []
  negated next value _ = []

  abbrev pub absolute : Pool → ℕ → Ty → List (Ty × Operand) → Piece
  absolute pool value ty operands = record {
    code = loads globals pool operands ++ negated (behind_all globals pool operands).next value (registers globals pool operands);
    types = all_loaded globals pool operands ++ type_of ty ∷ S 1 ∷ [];
    pool = skip 2 (behind_all globals pool operands);
  }

  -- a built-in; the last argument of one that moves bytes says that it isn't volatile, and that of `abs` what the least number gives
  abbrev pub built_in : Pool → ℕ → Ty → List (Ty × Operand) → BuiltIn → Piece
  built_in pool value ty arguments MemCpy = one pool (take 3 arguments) g.CopyBytes [] 0 []
  built_in pool value ty arguments MemMove = one pool (take 3 arguments) g.CopyBytes [] 0 []
  built_in pool value ty arguments MemSet = one pool (take 3 arguments) g.FillBytes [] 0 []
  built_in pool value ty arguments Abs = absolute pool value ty (take 1 arguments ++ (ty, Num 0) ∷ [])
  built_in pool value ty arguments which = choice pool value arguments (chooses which)

  -- the address of a part
  abbrev pub part : Pool → ℕ → List (Ty × Operand) → List Addend → Piece
  part pool value base all = record {
    code = loads globals pool base ++ sum_code globals value (first_register (registers globals pool base)) (behind_all globals pool base) all;
    types = all_loaded globals pool base ++ sum_types globals (behind_all globals pool base) all;
    pool = sum_pool globals (behind_all globals pool base) all;
  }

  abbrev pub returned : Pool → Ty → Option Operand → Piece
  returned pool ret None = one pool [] g.Return [] 0 []
  returned pool ret (Some a) = one pool ((ret, a) ∷ []) g.Return [] 0 []

  -- An instruction that is no phi and takes no edge, by the function's result, the number of the value that it gives and the registers
  -- at its place
  abbrev pub piece_of : Ty → ℕ → Pool → Ty → Op → Piece
  piece_of ret value pool ty (Binary op flags a b) = one pool ((ty, a) ∷ (ty, b) ∷ []) (binary_op op) (value ∷ []) 0 []
  piece_of ret value pool ty (Icmp pred flags of a b) = one pool ((of, a) ∷ (of, b) ∷ []) g.Icmp (value ∷ []) (predicate pred) []
  piece_of ret value pool ty (Cast op flags from a) = cast pool value from a op
  piece_of ret value pool ty (Select condition a b) = one pool ((Int 1, condition) ∷ (ty, a) ∷ (ty, b) ∷ []) g.Select (value ∷ []) 0 []
  piece_of ret value pool ty (Freeze a) = one pool ((ty, a) ∷ []) g.Copy (value ∷ []) 0 []
  piece_of ret value pool ty (Alloca of count) = one pool [] g.TakeData (value ∷ []) (aligned (size of * count) 16) []
  piece_of ret value pool ty (Load address) = one pool ((Ptr, address) ∷ []) g.Load (value ∷ []) (8 * byte_count ty) []
  piece_of ret value pool ty (Store of a address) = one pool ((of, a) ∷ (Ptr, address) ∷ []) g.Store [] (8 * byte_count of) []
  piece_of ret value pool ty (Gep of base indices) = part pool value ((Ptr, base) ∷ []) (in_order (addends_of of indices))
  piece_of ret value pool ty (Call callee arguments) = one pool arguments g.Call (result ty value) 0 (callee ∷ [])
  piece_of ret value pool ty (CallBuiltIn which arguments) = built_in pool value ty arguments which
  piece_of ret value pool ty (Ret a) = returned pool ret a
  piece_of ret value pool ty _ = one pool [] g.Trap [] 0 []
