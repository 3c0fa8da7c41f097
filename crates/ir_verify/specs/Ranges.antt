-- Numbers that name something, and the widths of types.
use Rattle.std.specs.Prelude.{ℕ, ◌+◌, ◌^◌, Bool, true, false, ◌&&◌, ◌==◌, not, nat_lt, nat_le, List, [], ◌∷◌, ◌++◌, length, map, replicate, Option, Some, None}
use Rattle.ir_core.specs.declared.types.TheConstants.{MAX_WIDTH}
use Rattle.ir_core.specs.declared.types.Ty.{Ty}
use Rattle.ir_core.specs.declared.types.Ty.TheVariants.{Void, Int, Ptr}
use Rattle.ir_core.specs.declared.types.MemTy.{MemTy, fold-MemTy, out-MemTy}
use Rattle.ir_core.specs.declared.types.MemTy.TheOpen.{MemTy-F, Int as MemInt, Ptr as MemPtr, Array, Struct}
use Rattle.ir_core.specs.declared.code.Operand.{Operand}
use Rattle.ir_core.specs.declared.code.Operand.TheVariants.{Value as Local, Num, Null, Place, Poison}
use Rattle.ir_core.specs.declared.code.Op.{Op}
use Rattle.ir_core.specs.declared.code.Op.TheVariants.{Alloca, Gep, Call, Switch}
use Rattle.ir_core.specs.declared.code.Inst.{Inst}
use Rattle.ir_core.specs.declared.program.Function.{Function}
use Rattle.ir_core.specs.declared.program.Global.{Global}
use Rattle.ir_core.specs.declared.program.Module.{Module}
use Rattle.ir_core.specs.declared.program.Init.{Init, fold-Init}
use Rattle.ir_core.specs.declared.program.Init.TheOpen.{Init-F, Num as InitNum, Null as InitNull, Zero, Place as InitPlace, Bytes, List as InitList}
use Rattle.ir_core.specs.Layout.{is_memory_width}
use Rattle.ir_core.specs.Units.{instructions, types_in, values}
use Rattle.ir_meaning.specs.Operators.{width}
use Rattle.ir_flow.specs.Code.{places, blocks_named}
use Rattle.ir_flow.specs.First.{first_refused, or_then}

-- an integer has a width from 1 to the greatest
abbrev pub is_width : ℕ → Bool
is_width w = nat_le 1 w && nat_le w MAX_WIDTH

abbrev pub has_width : Ty → Bool
has_width Void = true
has_width (Int w) = is_width w
has_width Ptr = true

abbrev pub all_true : List Bool → Bool
all_true [] = true
all_true (b ∷ bs) = b && all_true bs

abbrev pub has_widths_step : MemTy-F Bool → Bool
has_widths_step (MemInt w) = is_memory_width w
has_widths_step MemPtr = true
has_widths_step (Array count element) = element
has_widths_step (Struct fields packed) = all_true fields

-- each integer inside can stand in memory
abbrev pub has_memory_widths : MemTy → Bool
has_memory_widths = fold-MemTy Bool has_widths_step

-- a number fits the width of a type
abbrev pub number_fits_width : ℕ → Ty → Bool
number_fits_width n ty = nat_lt n (2 ^ width ty)

-- a place's operand names what is there, and a number fits the place's width
abbrev pub names_what_is : Module → ℕ → Ty → Operand → Bool
names_what_is module_ count ty (Local number) = nat_lt number count
names_what_is module_ count ty (Num n) = number_fits_width n ty
names_what_is module_ count ty Null = true
names_what_is module_ count ty (Place global offset) = nat_lt global (length module_.globals)
names_what_is module_ count ty Poison = true

abbrev pub all_named : Module → ℕ → List (Ty × Operand) → Bool
all_named module_ count [] = true
all_named module_ count (place ∷ places) = names_what_is module_ count place.0 place.1 && all_named module_ count places

abbrev pub all_have_widths : List Ty → Bool
all_have_widths [] = true
all_have_widths (ty ∷ tys) = has_width ty && all_have_widths tys

abbrev pub all_below : ℕ → List ℕ → Bool
all_below count [] = true
all_below count (n ∷ ns) = nat_lt n count && all_below count ns

-- the cases of a switch are numbers of its type
abbrev pub all_cases_fit : Ty → List (ℕ × ℕ) → Bool
all_cases_fit ty [] = true
all_cases_fit ty (one ∷ cases) = number_fits_width one.0 ty && all_cases_fit ty cases

-- what else an instruction names: a function, a type of memory, the numbers of cases
abbrev pub names_more : Module → Op → Bool
names_more module_ (Alloca of count) = has_memory_widths of
names_more module_ (Gep of base indices) = has_memory_widths of
names_more module_ (Call callee arguments) = nat_lt callee (length module_.functions)
names_more module_ (Switch of a otherwise cases) = all_cases_fit of cases
names_more module_ _ = true

abbrev pub is_in_range : Module → Function → Inst → Bool
is_in_range module_ function inst =
    has_width inst.gives && all_have_widths (types_in inst.op) && all_named module_ (values function) (places function.ret inst.gives inst.op)
    && all_below (length function.blocks) (blocks_named inst.op) && names_more module_ inst.op

-- a parameter has a value's type
abbrev pub is_parameter : Ty → Bool
is_parameter Void = false
is_parameter (Int w) = is_width w
is_parameter Ptr = true

abbrev pub all_parameters : List Ty → Bool
all_parameters [] = true
all_parameters (ty ∷ tys) = is_parameter ty && all_parameters tys

abbrev pub at_first : Bool → Option ℕ
at_first true = None
at_first false = Some 0

-- the instruction that a function shows; 0 for a parameter or the result
abbrev pub out_of_range : Module → Function → Option ℕ
out_of_range module_ function =
    or_then (at_first (all_parameters function.params && has_width function.ret))
    (first_refused (is_in_range module_ function) 0 (instructions function.blocks))

-- ---- what a global holds at first

-- each item fits the type beside it, and there are as many
abbrev pub all_fit : List (MemTy → Bool) → List MemTy → Bool
all_fit [] [] = true
all_fit [] (ty ∷ tys) = false
all_fit (fits ∷ more) [] = false
all_fit (fits ∷ more) (ty ∷ tys) = fits ty && all_fit more tys

abbrev pub items_fit : List (MemTy → Bool) → MemTy → Bool
items_fit items ty = by_kind items (out-MemTy ty)
  where
    by_kind : List (MemTy → Bool) → MemTy-F MemTy → Bool
    by_kind items (MemInt w) = false
    by_kind items MemPtr = false
    by_kind items (Array count element) = length items == count && all_fit items (replicate (length items) element)
    by_kind items (Struct fields packed) = all_fit items fields

abbrev pub number_fits : ℕ → MemTy → Bool
number_fits n ty = by_kind (out-MemTy ty)
  where
    by_kind : MemTy-F MemTy → Bool
    by_kind (MemInt w) = nat_lt n (2 ^ w)
    by_kind _ = false

abbrev pub is_pointer : MemTy → Bool
is_pointer ty = by_kind (out-MemTy ty)
  where
    by_kind : MemTy-F MemTy → Bool
    by_kind MemPtr = true
    by_kind _ = false

abbrev pub is_byte : MemTy → Bool
is_byte ty = by_kind (out-MemTy ty)
  where
    by_kind : MemTy-F MemTy → Bool
    by_kind (MemInt w) = w == 8
    by_kind _ = false

-- bytes fill an array of so many integers of 8 bits
abbrev pub bytes_fit : ℕ → MemTy → Bool
bytes_fit count ty = by_kind (out-MemTy ty)
  where
    by_kind : MemTy-F MemTy → Bool
    by_kind (Array n element) = n == count && is_byte element
    by_kind _ = false

abbrev pub init_step : ℕ → Init-F (MemTy → Bool) → MemTy → Bool
init_step globals (InitNum n) ty = number_fits n ty
init_step globals InitNull ty = is_pointer ty
init_step globals Zero ty = true
init_step globals (InitPlace global offset) ty = nat_lt global globals && is_pointer ty
init_step globals (Bytes bytes) ty = bytes_fit (length bytes) ty
init_step globals (InitList items) ty = items_fit items ty

-- a global's first value fits its type
abbrev pub init_fits : ℕ → Init → MemTy → Bool
init_fits globals = fold-Init (MemTy → Bool) (init_step globals)

abbrev pub is_global : ℕ → Global → Bool
is_global globals global = has_memory_widths global.ty && init_fits globals global.init global.ty

abbrev pub all_globals : ℕ → List Global → Bool
all_globals count [] = true
all_globals count (global ∷ globals) = is_global count global && all_globals count globals
