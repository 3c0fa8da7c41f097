-- The types of operands and results.
use Rattle.std.specs.Prelude.{ℕ, zero, suc, ◌+◌, ◌^◌, Bool, true, false, ◌&&◌, ◌||◌, ◌==◌, not, nat_lt, nat_le, List, [], ◌∷◌, length, map, slice_get, Option, Some, None, if◌then◌else◌}
use Rattle.ir_core.specs.declared.types.Ty.{Ty}
use Rattle.ir_core.specs.declared.types.Ty.TheVariants.{Void, Int, Ptr}
use Rattle.ir_core.specs.declared.types.MemTy.{MemTy, out-MemTy}
use Rattle.ir_core.specs.declared.types.MemTy.TheOpen.{MemTy-F, Int as MemInt, Ptr as MemPtr, Array, Struct}
use Rattle.ir_core.specs.declared.code.Operand.{Operand}
use Rattle.ir_core.specs.declared.code.Operand.TheVariants.{Value as Local, Num, Null, Place, Poison}
use Rattle.ir_core.specs.declared.code.BinOp.{BinOp}
use Rattle.ir_core.specs.declared.code.BinOp.TheVariants.{Mul, UDiv, SDiv, URem, SRem}
use Rattle.ir_core.specs.declared.code.CastOp.{CastOp}
use Rattle.ir_core.specs.declared.code.CastOp.TheVariants.{Trunc, ZExt, SExt, PtrToInt, IntToPtr, Same}
use Rattle.ir_core.specs.declared.code.BuiltIn.{BuiltIn}
use Rattle.ir_core.specs.declared.code.BuiltIn.TheVariants.{MemCpy, MemMove, MemSet, SMax, SMin, UMax, UMin, Abs}
use Rattle.ir_core.specs.declared.code.Op.{Op}
use Rattle.ir_core.specs.declared.code.Op.TheVariants.{Binary, Icmp, Cast, Select, Freeze, Phi, Alloca, Load, Store, Gep, Call, BuiltIn as CallBuiltIn, Ret, Br, CondBr, Switch, Unreachable}
use Rattle.ir_core.specs.declared.code.Inst.{Inst}
use Rattle.ir_core.specs.declared.program.Function.{Function}
use Rattle.ir_core.specs.Layout.{is_memory_width}
use Rattle.ir_core.specs.Units.{instructions}
use Rattle.ir_flow.specs.Code.{places}
use Rattle.ir_flow.specs.First.{first_refused}
use Rattle.ir_meaning.specs.Typed.{types}

abbrev pub is_void : Ty → Bool
is_void Void = true
is_void _ = false

abbrev pub is_ptr : Ty → Bool
is_ptr Ptr = true
is_ptr _ = false

abbrev pub is_int : Ty → Bool
is_int (Int w) = true
is_int _ = false

abbrev pub is_int_of : ℕ → Ty → Bool
is_int_of width (Int w) = w == width
is_int_of width _ = false

-- one type is the other
abbrev pub same_type : Ty → Ty → Bool
same_type Void b = is_void b
same_type (Int w) b = is_int_of w b
same_type Ptr b = is_ptr b

abbrev pub has_type : Ty → Option Ty → Bool
has_type ty None = false
has_type ty (Some found) = same_type ty found

-- an operand of a place of this type, among values of these types
abbrev pub fits_place : List Ty → Ty → Operand → Bool
fits_place types ty (Local number) = has_type ty (slice_get types number)
fits_place types ty (Num n) = is_int ty
fits_place types ty Null = is_ptr ty
fits_place types ty (Place global offset) = is_ptr ty
fits_place types ty Poison = not (is_void ty)

abbrev pub all_fit_places : List Ty → List (Ty × Operand) → Bool
all_fit_places types [] = true
all_fit_places types (place ∷ places) = fits_place types place.0 place.1 && all_fit_places types places

abbrev pub width_of : Ty → ℕ
width_of Void = 0
width_of (Int w) = w
width_of Ptr = 0

-- a product or a quotient is of at most 64 bits
abbrev pub is_narrow : BinOp → ℕ → Bool
is_narrow Mul w = nat_le w 64
is_narrow UDiv w = nat_le w 64
is_narrow SDiv w = nat_le w 64
is_narrow URem w = nat_le w 64
is_narrow SRem w = nat_le w 64
is_narrow _ w = true

-- a cast goes from this type to that
abbrev pub is_cast : CastOp → Ty → Ty → Bool
is_cast Trunc from to = is_int from && is_int to && nat_lt (width_of to) (width_of from)
is_cast ZExt from to = is_int from && is_int to && nat_lt (width_of from) (width_of to)
is_cast SExt from to = is_int from && is_int to && nat_lt (width_of from) (width_of to)
is_cast PtrToInt from to = is_ptr from && is_int to
is_cast IntToPtr from to = is_int from && is_ptr to
is_cast Same from to = same_type from to && not (is_void from)

-- a type that can be loaded and stored
abbrev pub is_stored : Ty → Bool
is_stored Void = false
is_stored (Int w) = is_memory_width w
is_stored Ptr = true

-- the length of a block of bytes
abbrev pub is_length : Ty → Bool
is_length ty = is_int_of 32 ty || is_int_of 64 ty

abbrev pub is_number : Operand → Bool
is_number (Num n) = true
is_number _ = false

abbrev pub is_zero : Operand → Bool
is_zero (Num n) = n == 0
is_zero _ = false

-- the last argument of a memory built-in, which says that it is not volatile: `i1 false`
abbrev pub is_false : Ty × Operand → Bool
is_false argument = is_int_of 1 argument.0 && is_zero argument.1

-- a built-in takes these arguments and gives that
abbrev pub is_built_in : BuiltIn → List (Ty × Operand) → Ty → Bool
is_built_in MemCpy (to ∷ from ∷ count ∷ volatile ∷ []) ty = is_ptr to.0 && is_ptr from.0 && is_length count.0 && is_false volatile && is_void ty
is_built_in MemMove (to ∷ from ∷ count ∷ volatile ∷ []) ty = is_ptr to.0 && is_ptr from.0 && is_length count.0 && is_false volatile && is_void ty
is_built_in MemSet (to ∷ byte ∷ count ∷ volatile ∷ []) ty = is_ptr to.0 && is_int_of 8 byte.0 && is_length count.0 && is_false volatile && is_void ty
is_built_in SMax (a ∷ b ∷ []) ty = is_int ty && same_type a.0 ty && same_type b.0 ty
is_built_in SMin (a ∷ b ∷ []) ty = is_int ty && same_type a.0 ty && same_type b.0 ty
is_built_in UMax (a ∷ b ∷ []) ty = is_int ty && same_type a.0 ty && same_type b.0 ty
is_built_in UMin (a ∷ b ∷ []) ty = is_int ty && same_type a.0 ty && same_type b.0 ty
is_built_in Abs (a ∷ b ∷ []) ty = is_int ty && same_type a.0 ty && is_int_of 1 b.0 && is_number b.1
is_built_in _ _ ty = false

abbrev pub all_int : List (Ty × Operand) → Bool
all_int [] = true
all_int (index ∷ indices) = is_int index.0 && all_int indices

-- the field that a literal names
abbrev pub field_named : List MemTy → Operand → Option MemTy
field_named fields (Num n) = slice_get fields n
field_named fields _ = None

-- what an index leads to leads on, where the index is one into an array, or a literal that names a field of a struct
abbrev pub leads_on : (MemTy → Bool) → MemTy-F MemTy → Operand → Bool
leads_on rest (MemInt w) index = false
leads_on rest MemPtr index = false
leads_on rest (Array count element) index = rest element
leads_on rest (Struct fields packed) index = in_field rest (field_named fields index)
  where
    in_field : (MemTy → Bool) → Option MemTy → Bool
    in_field rest None = false
    in_field rest (Some field) = rest field

abbrev pub leads_into : List (Ty × Operand) → MemTy → Bool
leads_into [] ty = true
leads_into (index ∷ indices) ty = leads_on (leads_into indices) (out-MemTy ty) index.1

-- there is an index, and those behind the first lead into the type
abbrev pub is_part : MemTy → List (Ty × Operand) → Bool
is_part ty [] = false
is_part ty (index ∷ indices) = all_int (index ∷ indices) && leads_into indices ty

abbrev pub is_returned : Ty → Option Operand → Bool
is_returned ret None = is_void ret
is_returned ret (Some a) = not (is_void ret)

-- the operation gives this type, beside what its places ask
abbrev pub gives_type : Ty → Ty → Op → Bool
gives_type ret ty (Binary op flags a b) = is_int ty && is_narrow op (width_of ty)
gives_type ret ty (Icmp pred flags of a b) = is_int_of 1 ty && not (is_void of)
gives_type ret ty (Cast op flags from a) = is_cast op from ty
gives_type ret ty (Select condition a b) = not (is_void ty)
gives_type ret ty (Freeze a) = not (is_void ty)
gives_type ret ty (Phi pairs) = not (is_void ty)
gives_type ret ty (Alloca of count) = is_ptr ty
gives_type ret ty (Load address) = is_stored ty
gives_type ret ty (Store of a address) = is_void ty && is_stored of
gives_type ret ty (Gep of base indices) = is_ptr ty && is_part of indices
gives_type ret ty (Call callee arguments) = true
gives_type ret ty (CallBuiltIn which arguments) = is_built_in which arguments ty
gives_type ret ty (Ret a) = is_void ty && is_returned ret a
gives_type ret ty (Br to) = is_void ty
gives_type ret ty (CondBr condition if_true if_false) = is_void ty
gives_type ret ty (Switch of a otherwise cases) = is_void ty && is_int of
gives_type ret ty Unreachable = is_void ty

abbrev pub is_typed : List Ty → Ty → Inst → Bool
is_typed types ret inst = gives_type ret inst.gives inst.op && all_fit_places types (places ret inst.gives inst.op)

-- the first instruction with wrong types
abbrev pub mistyped : Function → Option ℕ
mistyped function = first_refused (is_typed (types function) function.ret) 0 (instructions function.blocks)
