-- Small functions, translated.
use Rattle.std.proofs.Common.{◌≡◌, refl, ℕ, false, [], ◌∷◌, Some}
use Rattle.ir_core.specs.Program.{Program}
use Rattle.ir_core.specs.declared.types.Ty.TheVariants.{Void, Int, Ptr}
use Rattle.ir_core.specs.declared.code.Flags.{Flags}
use Rattle.ir_core.specs.declared.code.Operand.TheVariants.{Value as Local, Num}
use Rattle.ir_core.specs.declared.code.BinOp.TheVariants.{Add, UDiv}
use Rattle.ir_core.specs.declared.code.Pred.TheVariants.{Ult}
use Rattle.ir_core.specs.declared.code.CastOp.TheVariants.{IntToPtr}
use Rattle.ir_core.specs.declared.code.Op.TheVariants.{Binary, Icmp, Cast, Phi, Br, CondBr, Switch, Unreachable, Ret}
use Rattle.ir_core.specs.declared.program.Function.{Function}
use Rattle.gmir.specs.declared.code.GType.TheVariants.{S, P0}
use Rattle.gmir.specs.declared.code.GOp.TheVariants as g
use Rattle.gmir.specs.declared.code.GInst.{GInst}
use Rattle.generic_code.specs.Literals.{plain, empty_pool}
use Rattle.generic_code.specs.Parts.{Bytes, Times, in_order, sum_code, sum_types}
use Rattle.generic_code.specs.Whole.{translated}

abbrev none : Flags
none = record { nuw = false; nsw = false; exact = false; disjoint = false; nneg = false; samesign = false }

abbrev alone : Function → Program
alone function = record { module_ = record { globals = []; functions = function ∷ [] }; room = 4096 }

-- the quotient of two numbers of five bits
abbrev quotient : Function
quotient = record {
  name = [];
  params = Int 5 ∷ Int 5 ∷ [];
  ret = Int 5;
  blocks = record { insts = record { gives = Int 5; op = Binary UDiv none (Local 0) (Local 1) } ∷ record { gives = Void; op = Ret (Some (Local 2)) } ∷ [] } ∷ [];
}

pub quotient_is : translated (alone quotient) 0 quotient
    ≡ record {
      symbol = 0;
      values = 3;
      end = 268439552;
      types = S 5 ∷ S 5 ∷ S 5 ∷ [];
      blocks = (plain g.Param (0 ∷ []) [] 0 ∷ plain g.Param (1 ∷ []) [] 1 ∷ plain g.UDiv (2 ∷ []) (0 ∷ 1 ∷ []) 0 ∷ plain g.Return [] (2 ∷ []) 0 ∷ []) ∷ [];
    }
quotient_is = refl

-- counts up to a number: the phi's first operand is a literal, which stands before the jump of its edge; the branch back leads to a block with a phi,
-- so its edge has a block of its own
abbrev counting : Function
counting = record {
  name = [];
  params = Int 64 ∷ [];
  ret = Int 64;
  blocks =
      record { insts = record { gives = Void; op = Br 1 } ∷ [] }
      ∷ record {
        insts =
            record { gives = Int 64; op = Phi ((Num 0, 0) ∷ (Local 2, 1) ∷ []) }
            ∷ record { gives = Int 64; op = Binary Add none (Local 1) (Num 1) }
            ∷ record { gives = Int 1; op = Icmp Ult none (Int 64) (Local 2) (Local 0) }
            ∷ record { gives = Void; op = CondBr (Local 3) 1 2 } ∷ [];
      }
      ∷ record { insts = record { gives = Void; op = Ret (Some (Local 2)) } ∷ [] } ∷ [];
}

abbrev jump : ℕ → GInst
jump to = record { op = g.Br; defs = []; uses = []; num = 0; to = to ∷ [] }

pub counting_is : translated (alone counting) 0 counting
    ≡ record {
      symbol = 0;
      values = 4;
      end = 268439552;
      types = S 64 ∷ S 64 ∷ S 64 ∷ S 1 ∷ S 64 ∷ S 64 ∷ [];
      blocks =
          (plain g.Param (0 ∷ []) [] 0 ∷ plain g.Constant (4 ∷ []) [] 0 ∷ jump 1 ∷ [])
          ∷ (record { op = g.Phi; defs = 1 ∷ []; uses = 4 ∷ 2 ∷ []; num = 0; to = 0 ∷ 3 ∷ [] }
          ∷ plain g.Constant (5 ∷ []) [] 1
          ∷ plain g.Add (2 ∷ []) (1 ∷ 5 ∷ []) 0
          ∷ plain g.Icmp (3 ∷ []) (2 ∷ 0 ∷ []) 4
          ∷ record { op = g.BrCond; defs = []; uses = 3 ∷ []; num = 0; to = 3 ∷ 2 ∷ [] } ∷ [])
          ∷ (plain g.Return [] (2 ∷ []) 0 ∷ [])
          ∷ (jump 1 ∷ []) ∷ [];
    }
counting_is = refl

-- one literal four times in a block stands there once; the edges of a switch to a block with a phi have blocks of their own, and so has its second test
abbrev choosing : Function
choosing = record {
  name = [];
  params = Int 32 ∷ [];
  ret = Int 32;
  blocks =
      record {
        insts =
            record { gives = Int 32; op = Binary Add none (Local 0) (Num 7) }
            ∷ record { gives = Int 32; op = Binary Add none (Num 7) (Num 7) }
            ∷ record { gives = Void; op = Switch (Int 32) (Local 2) 2 ((7, 1) ∷ (9, 1) ∷ []) } ∷ [];
      }
      ∷ record { insts = record { gives = Int 32; op = Phi ((Num 7, 0) ∷ (Num 7, 0) ∷ []) } ∷ record { gives = Void; op = Ret (Some (Local 3)) } ∷ [] }
      ∷ record { insts = record { gives = Void; op = Unreachable } ∷ [] } ∷ [];
}

abbrev on_bit : ℕ → ℕ → ℕ → GInst
on_bit bit if_one if_zero = record { op = g.BrCond; defs = []; uses = bit ∷ []; num = 0; to = if_one ∷ if_zero ∷ [] }

pub choosing_is : translated (alone choosing) 0 choosing
    ≡ record {
      symbol = 0;
      values = 4;
      end = 268439552;
      types = S 32 ∷ S 32 ∷ S 32 ∷ S 32 ∷ S 32 ∷ S 1 ∷ S 32 ∷ S 32 ∷ S 1 ∷ S 32 ∷ [];
      blocks =
          (plain g.Param (0 ∷ []) [] 0
          ∷ plain g.Constant (4 ∷ []) [] 7
          ∷ plain g.Add (1 ∷ []) (0 ∷ 4 ∷ []) 0
          ∷ plain g.Add (2 ∷ []) (4 ∷ 4 ∷ []) 0
          ∷ plain g.Icmp (5 ∷ []) (2 ∷ 4 ∷ []) 0
          ∷ on_bit 5 3 4 ∷ [])
          ∷ (record { op = g.Phi; defs = 3 ∷ []; uses = 6 ∷ 9 ∷ []; num = 0; to = 3 ∷ 5 ∷ [] } ∷ plain g.Return [] (3 ∷ []) 0 ∷ [])
          ∷ (plain g.Trap [] [] 0 ∷ [])
          ∷ (plain g.Constant (6 ∷ []) [] 7 ∷ jump 1 ∷ [])
          ∷ (plain g.Constant (7 ∷ []) [] 9 ∷ plain g.Icmp (8 ∷ []) (2 ∷ 7 ∷ []) 0 ∷ on_bit 8 5 2 ∷ [])
          ∷ (plain g.Constant (9 ∷ []) [] 7 ∷ jump 1 ∷ []) ∷ [];
    }
choosing_is = refl

-- the address that a number of 32 bits is: that number is extended to 64 bits first
abbrev addressing : Function
addressing = record {
  name = [];
  params = Int 32 ∷ Int 64 ∷ [];
  ret = Ptr;
  blocks = record {
    insts =
        record { gives = Ptr; op = Cast IntToPtr none (Int 32) (Local 0) }
        ∷ record { gives = Ptr; op = Cast IntToPtr none (Int 64) (Local 1) }
        ∷ record { gives = Void; op = Ret (Some (Local 2)) } ∷ [];
  } ∷ [];
}

pub addressing_is : translated (alone addressing) 0 addressing
    ≡ record {
      symbol = 0;
      values = 4;
      end = 268439552;
      types = S 32 ∷ S 64 ∷ P0 ∷ P0 ∷ S 64 ∷ [];
      blocks =
          (plain g.Param (0 ∷ []) [] 0
          ∷ plain g.Param (1 ∷ []) [] 1
          ∷ plain g.ZExt (4 ∷ []) (0 ∷ []) 0
          ∷ plain g.IntToPtr (2 ∷ []) (4 ∷ []) 0
          ∷ plain g.IntToPtr (3 ∷ []) (1 ∷ []) 0
          ∷ plain g.Return [] (2 ∷ []) 0 ∷ []) ∷ [];
    }
addressing_is = refl

-- 8 and 12 for each of a number of 32 bits, and 20 bytes in two parts: they are added at last, and 8 is a shift by 3
pub sum_code_is : sum_code [] 1 0 (empty_pool 4) (in_order (Bytes 4 ∷ Times 32 2 8 ∷ Bytes 16 ∷ Times 64 3 12 ∷ []))
    ≡ plain g.SExt (4 ∷ []) (2 ∷ []) 0
    ∷ plain g.Constant (5 ∷ []) [] 3
    ∷ plain g.Shl (6 ∷ []) (4 ∷ 5 ∷ []) 0
    ∷ plain g.PtrAdd (7 ∷ []) (0 ∷ 6 ∷ []) 0
    ∷ plain g.Constant (8 ∷ []) [] 12
    ∷ plain g.Mul (9 ∷ []) (3 ∷ 8 ∷ []) 0
    ∷ plain g.PtrAdd (10 ∷ []) (7 ∷ 9 ∷ []) 0
    ∷ plain g.Constant (11 ∷ []) [] 20
    ∷ plain g.PtrAdd (1 ∷ []) (10 ∷ 11 ∷ []) 0 ∷ []
unfolding lib.Count.count_trailing_zeros
sum_code_is = refl

pub sum_types_is : sum_types [] (empty_pool 4) (in_order (Bytes 4 ∷ Times 32 2 8 ∷ Bytes 16 ∷ Times 64 3 12 ∷ []))
    ≡ S 64 ∷ S 64 ∷ S 64 ∷ P0 ∷ S 64 ∷ S 64 ∷ P0 ∷ S 64 ∷ []
unfolding lib.Count.count_trailing_zeros
sum_types_is = refl
