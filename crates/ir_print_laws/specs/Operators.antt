-- The flags that each operator may have. LangRef, "Binary Operations", "Bitwise Binary Operations", "Conversion Operations".
use Rattle.std.specs.Prelude.{◌&&◌}
use Rattle.ir_core.specs.declared.code.Flags.{Flags}
use Rattle.ir_core.specs.declared.code.BinOp.{BinOp}
use Rattle.ir_core.specs.declared.code.BinOp.TheVariants as binary_operators
use Rattle.ir_core.specs.declared.code.CastOp.{CastOp}
use Rattle.ir_core.specs.declared.code.CastOp.TheVariants as casts
use Rattle.ir_grammar.specs.Operators.{no_flags, wrap_flags, exact_flag, disjoint_flag, nneg_flag}

-- the flags that an operator may have
abbrev pub allowed_of : BinOp → Flags
allowed_of binary_operators.Add = wrap_flags
allowed_of binary_operators.Sub = wrap_flags
allowed_of binary_operators.Mul = wrap_flags
allowed_of binary_operators.UDiv = exact_flag
allowed_of binary_operators.SDiv = exact_flag
allowed_of binary_operators.URem = no_flags
allowed_of binary_operators.SRem = no_flags
allowed_of binary_operators.Shl = wrap_flags
allowed_of binary_operators.LShr = exact_flag
allowed_of binary_operators.AShr = exact_flag
allowed_of binary_operators.And = no_flags
allowed_of binary_operators.Or = disjoint_flag
allowed_of binary_operators.Xor = no_flags

abbrev pub allowed_of_cast : CastOp → Flags
allowed_of_cast casts.Trunc = wrap_flags
allowed_of_cast casts.ZExt = nneg_flag
allowed_of_cast casts.SExt = no_flags
allowed_of_cast casts.PtrToInt = no_flags
allowed_of_cast casts.IntToPtr = no_flags
allowed_of_cast casts.Same = no_flags

-- those of the flags that are allowed
abbrev pub masked : Flags → Flags → Flags
masked allowed flags =
    record {
      nuw = allowed.nuw && flags.nuw;
      nsw = allowed.nsw && flags.nsw;
      exact = allowed.exact && flags.exact;
      disjoint = allowed.disjoint && flags.disjoint;
      nneg = allowed.nneg && flags.nneg;
      samesign = allowed.samesign && flags.samesign;
    }
