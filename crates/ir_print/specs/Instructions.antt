-- How instructions are printed.
use Rattle.std.specs.Prelude.{ℕ, Bool, true, false, List, [], ◌∷◌, ◌++◌, slice_get, Option, Some, None, codes, decimal, ◌==◌, if◌then◌else◌}
use Rattle.std.specs.List.{flat_map}
use Rattle.ir_core.specs.declared.types.Ty.{Ty}
use Rattle.ir_core.specs.declared.types.Ty.TheVariants as values
use Rattle.ir_core.specs.declared.code.Operand.{Operand}
use Rattle.ir_core.specs.declared.code.Flags.{Flags}
use Rattle.ir_core.specs.declared.code.BinOp.{BinOp}
use Rattle.ir_core.specs.declared.code.BinOp.TheVariants as binary
use Rattle.ir_core.specs.declared.code.Pred.{Pred}
use Rattle.ir_core.specs.declared.code.Pred.TheVariants as predicates
use Rattle.ir_core.specs.declared.code.CastOp.{CastOp}
use Rattle.ir_core.specs.declared.code.CastOp.TheVariants as casts
use Rattle.ir_core.specs.declared.code.BuiltIn.{BuiltIn}
use Rattle.ir_core.specs.declared.code.BuiltIn.TheVariants as built
use Rattle.ir_core.specs.declared.code.Op.{Op}
use Rattle.ir_core.specs.declared.code.Op.TheVariants as ops
use Rattle.ir_core.specs.declared.code.Inst.{Inst}
use Rattle.ir_core.specs.declared.program.Global.{Global}
use Rattle.ir_core.specs.declared.program.Function.{Function}
use Rattle.ir_core.specs.declared.program.Module.{Module}
use Rattle.ir_core.specs.Units.{has_result}
use Rattle.ir_print_names.specs.Names.{name_text}
use Rattle.ir_print.specs.Types.{ty_text, listed, memory_text}
use Rattle.ir_print_names.specs.Numbers.{number_text}
use Rattle.ir_print.specs.Values.{width_of, operand_text, typed_text}

abbrev pub flag_text : Bool → List ℕ → List ℕ
flag_text true word = word
flag_text false word = []

-- flags in the order of their fields, each with a blank behind it
abbrev pub flags_text : Flags → List ℕ
flags_text flags =
    flag_text flags.nuw (codes "nuw ") ++ flag_text flags.nsw (codes "nsw ") ++ flag_text flags.exact (codes "exact ")
    ++ flag_text flags.disjoint (codes "disjoint ") ++ flag_text flags.nneg (codes "nneg ") ++ flag_text flags.samesign (codes "samesign ")

abbrev pub binary_word : BinOp → List ℕ
binary_word binary.Add = codes "add "
binary_word binary.Sub = codes "sub "
binary_word binary.Mul = codes "mul "
binary_word binary.UDiv = codes "udiv "
binary_word binary.SDiv = codes "sdiv "
binary_word binary.URem = codes "urem "
binary_word binary.SRem = codes "srem "
binary_word binary.Shl = codes "shl "
binary_word binary.LShr = codes "lshr "
binary_word binary.AShr = codes "ashr "
binary_word binary.And = codes "and "
binary_word binary.Or = codes "or "
binary_word binary.Xor = codes "xor "

abbrev pub predicate_word : Pred → List ℕ
predicate_word predicates.Eq = codes "eq "
predicate_word predicates.Ne = codes "ne "
predicate_word predicates.Ugt = codes "ugt "
predicate_word predicates.Uge = codes "uge "
predicate_word predicates.Ult = codes "ult "
predicate_word predicates.Ule = codes "ule "
predicate_word predicates.Sgt = codes "sgt "
predicate_word predicates.Sge = codes "sge "
predicate_word predicates.Slt = codes "slt "
predicate_word predicates.Sle = codes "sle "

abbrev pub cast_word : CastOp → List ℕ
cast_word casts.Trunc = codes "trunc "
cast_word casts.ZExt = codes "zext "
cast_word casts.SExt = codes "sext "
cast_word casts.PtrToInt = codes "ptrtoint "
cast_word casts.IntToPtr = codes "inttoptr "
cast_word casts.Same = codes "bitcast "

-- the width of a built-in of memory is that of the length, its third argument
abbrev pub width_of_length : List (Ty × Operand) → ℕ
width_of_length (to ∷ from ∷ bytes ∷ rest) = width_of bytes.0
width_of_length _ = 64

-- that of another is the first argument's; where there is none, each width names the built-in
abbrev pub width_of_value : List (Ty × Operand) → ℕ
width_of_value [] = 64
width_of_value (argument ∷ rest) = width_of argument.0

-- the name of a built-in but for its width
abbrev pub built_in_front : BuiltIn → List ℕ
built_in_front built.MemCpy = codes "llvm.memcpy.p0.p0.i"
built_in_front built.MemMove = codes "llvm.memmove.p0.p0.i"
built_in_front built.MemSet = codes "llvm.memset.p0.i"
built_in_front built.SMax = codes "llvm.smax.i"
built_in_front built.SMin = codes "llvm.smin.i"
built_in_front built.UMax = codes "llvm.umax.i"
built_in_front built.UMin = codes "llvm.umin.i"
built_in_front built.Abs = codes "llvm.abs.i"

abbrev pub built_in_width : BuiltIn → List (Ty × Operand) → ℕ
built_in_width built.MemCpy arguments = width_of_length arguments
built_in_width built.MemMove arguments = width_of_length arguments
built_in_width built.MemSet arguments = width_of_length arguments
built_in_width which arguments = width_of_value arguments

abbrev pub built_in_text : BuiltIn → List (Ty × Operand) → List ℕ
built_in_text which arguments = built_in_front which ++ decimal (built_in_width which arguments)

abbrev pub function_of : Option Function → List ℕ
function_of None = []
function_of (Some function) = function.name

-- `@NAME` of a function by its number
abbrev pub function_text : List Function → ℕ → List ℕ
function_text functions k = codes "@" ++ name_text (function_of (slice_get functions k))

abbrev pub block_text : ℕ → List ℕ
block_text k = codes "label %b" ++ decimal k

-- `[ V, %bK ]`
abbrev pub incoming_text : List Global → Ty → Operand × ℕ → List ℕ
incoming_text globals ty incoming = codes "[ " ++ operand_text globals ty incoming.0 ++ codes ", %b" ++ decimal incoming.1 ++ codes " ]"

abbrev pub argument_text : List Global → Ty × Operand → List ℕ
argument_text globals argument = typed_text globals argument.0 argument.1

-- `, iN V`
abbrev pub offset_text : List Global → Ty × Operand → List ℕ
offset_text globals offset = codes ", " ++ typed_text globals offset.0 offset.1

-- ` T NUMBER, label %bK`
abbrev pub case_text : Ty → ℕ × ℕ → List ℕ
case_text ty case = codes " " ++ ty_text ty ++ codes " " ++ number_text (width_of ty) case.0 ++ codes ", " ++ block_text case.1

-- how many items an `alloca` takes, where it isn't one
abbrev pub count_text : ℕ → List ℕ
count_text count = if count == 1 then [] else codes ", i64 " ++ decimal count

-- `call T @NAME(T V, ..)`
abbrev pub call_text : List Global → Ty → List ℕ → List (Ty × Operand) → List ℕ
call_text globals gives callee arguments = codes "call " ++ ty_text gives ++ codes " " ++ callee ++ codes "(" ++ listed (argument_text globals) 0 arguments ++ codes ")"

-- `ret void` or `ret T V`, by the function's result
abbrev pub return_text : List Global → Ty → Option Operand → List ℕ
return_text globals ret None = codes "ret void"
return_text globals ret (Some value) = codes "ret " ++ typed_text globals ret value

-- an operation in a function of this result, by the type that it gives
abbrev pub op_text : Module → Ty → Ty → Op → List ℕ
op_text m ret gives (ops.Binary op flags a b) =
    binary_word op ++ flags_text flags ++ typed_text m.globals gives a ++ codes ", " ++ operand_text m.globals gives b
op_text m ret gives (ops.Icmp predicate flags ty a b) =
    codes "icmp " ++ flags_text flags ++ predicate_word predicate ++ typed_text m.globals ty a ++ codes ", " ++ operand_text m.globals ty b
op_text m ret gives (ops.Cast op flags from a) =
    cast_word op ++ flags_text flags ++ typed_text m.globals from a ++ codes " to " ++ ty_text gives
op_text m ret gives (ops.Select condition a b) =
    codes "select " ++ typed_text m.globals (values.Int 1) condition ++ codes ", " ++ typed_text m.globals gives a ++ codes ", " ++ typed_text m.globals gives b
op_text m ret gives (ops.Freeze a) = codes "freeze " ++ typed_text m.globals gives a
op_text m ret gives (ops.Phi incoming) = codes "phi " ++ ty_text gives ++ codes " " ++ listed (incoming_text m.globals gives) 0 incoming
op_text m ret gives (ops.Alloca ty count) = codes "alloca " ++ memory_text ty ++ count_text count
op_text m ret gives (ops.Load address) = codes "load " ++ ty_text gives ++ codes ", " ++ typed_text m.globals values.Ptr address
op_text m ret gives (ops.Store ty value address) = codes "store " ++ typed_text m.globals ty value ++ codes ", " ++ typed_text m.globals values.Ptr address
op_text m ret gives (ops.Gep ty base offsets) =
    codes "getelementptr " ++ memory_text ty ++ codes ", " ++ typed_text m.globals values.Ptr base ++ flat_map (offset_text m.globals) offsets
op_text m ret gives (ops.Call callee arguments) = call_text m.globals gives (function_text m.functions callee) arguments
op_text m ret gives (ops.BuiltIn which arguments) = call_text m.globals gives (codes "@" ++ built_in_text which arguments) arguments
op_text m ret gives (ops.Ret value) = return_text m.globals ret value
op_text m ret gives (ops.Br block) = codes "br " ++ block_text block
op_text m ret gives (ops.CondBr condition yes_block no_block) =
    codes "br " ++ typed_text m.globals (values.Int 1) condition ++ codes ", " ++ block_text yes_block ++ codes ", " ++ block_text no_block
op_text m ret gives (ops.Switch ty value otherwise cases) =
    codes "switch " ++ typed_text m.globals ty value ++ codes ", " ++ block_text otherwise ++ codes " [" ++ flat_map (case_text ty) cases ++ codes " ]"
op_text m ret gives ops.Unreachable = codes "unreachable"

-- `%vK = ` before an instruction with a result
abbrev pub result_text : Bool → ℕ → List ℕ
result_text true value = codes "%v" ++ decimal value ++ codes " = "
result_text false value = []

-- the line of an instruction, whose result would have this number
abbrev pub inst_text : Module → Ty → ℕ → Inst → List ℕ
inst_text m ret value inst = codes "  " ++ result_text (has_result inst) value ++ op_text m ret inst.gives inst.op ++ codes "\n"
