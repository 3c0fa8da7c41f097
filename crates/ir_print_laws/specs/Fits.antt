-- Which parts of a module read back: their numbers fit their types, and what they name is there.
use Rattle.std.specs.Prelude.{◌≡◌, ◌⊎◌, ◌≤◌, ◌<◌, ℕ, ◌+◌, ◌^◌, length, sum_by, Bool, true, false, ◌&&◌, nat_eq, nat_lt, slice_get, codes, List, [], ◌∷◌, ◌++◌, Some, None}
use Rattle.std.specs.List.{list_all, starts_with}
use Rattle.ir_core.specs.declared.types.TheConstants.{MAX_WIDTH}
use Rattle.ir_core.specs.declared.types.Ty.{Ty}
use Rattle.ir_core.specs.declared.types.Ty.TheVariants as values
use Rattle.ir_core.specs.declared.code.Operand.{Operand}
use Rattle.ir_core.specs.declared.code.Operand.TheVariants as operands
use Rattle.ir_core.specs.declared.types.MemTy.{MemTy, out-MemTy, fold-MemTy}
use Rattle.ir_core.specs.declared.types.MemTy.TheOpen as memory
use Rattle.ir_core.specs.declared.code.BuiltIn.{BuiltIn}
use Rattle.ir_core.specs.declared.code.BuiltIn.TheVariants as built
use Rattle.ir_core.specs.declared.code.Op.{Op}
use Rattle.ir_core.specs.declared.code.Op.TheVariants as ops
use Rattle.ir_core.specs.declared.code.Inst.{Inst}
use Rattle.ir_core.specs.declared.code.Block.{Block}
use Rattle.ir_core.specs.declared.program.Init.{Init, fold-Init}
use Rattle.ir_core.specs.declared.program.Init.TheOpen as init
use Rattle.ir_core.specs.declared.program.Global.{Global}
use Rattle.ir_core.specs.declared.program.Function.{Function}
use Rattle.ir_core.specs.declared.program.Module.{Module}
use Rattle.ir_core.specs.Units.{parts_in, results}
use Rattle.ir_core.specs.Layout.{is_memory_width, measure}
use Rattle.ir_flow.specs.Limits.{measured, capped_passing}
use Rattle.ir_print.specs.Instructions.{function_of}
use Rattle.ir_grammar.specs.Operators.{samesign_flag}
use Rattle.ir_print_laws.specs.Operators.{allowed_of, allowed_of_cast, masked}
use Rattle.ir_types.specs.declared.tables.Target.{Target}
use Rattle.ir_types.specs.declared.tables.Target.TheVariants as targets
use Rattle.ir_types.specs.Tables.{target_named}
use Rattle.ir_instructions.specs.BuiltIns.{built_in_of}
use Rattle.ir_types.specs.declared.table.Types.{Types}
use Rattle.ir_print_laws.specs.Written.{Each, IsOffset}

-- how much is there to be named: globals, functions, and the values and blocks of a function
pub record Counts : Type 0 where
  pub globals : ℕ
  pub functions : ℕ
  pub values : ℕ
  pub blocks : ℕ

-- `void`, a pointer, or an integer of 1 bit to the greatest width
abbrev pub FitsTy : Ty → Type 0
FitsTy values.Void = Unit {0}
FitsTy (values.Int width) = (1 ≤ width) × (width ≤ MAX_WIDTH)
FitsTy values.Ptr = Unit {0}

-- a number below two to the width of an integer type
abbrev pub FitsNumber : Ty → ℕ → Type 0
FitsNumber values.Void n = ⊥
FitsNumber (values.Int width) n = n < 2 ^ width
FitsNumber values.Ptr n = ⊥

abbrev pub IsPointer : Ty → Type 0
IsPointer values.Void = ⊥
IsPointer (values.Int width) = ⊥
IsPointer values.Ptr = Unit {0}

abbrev pub IsNoVoid : Ty → Type 0
IsNoVoid values.Void = ⊥
IsNoVoid (values.Int width) = Unit {0}
IsNoVoid values.Ptr = Unit {0}

-- an operand of a type
abbrev pub FitsOperand : Counts → Ty → Operand → Type 0
FitsOperand counts ty (operands.Value v) = v < counts.values
FitsOperand counts ty (operands.Num n) = FitsNumber ty n
FitsOperand counts ty operands.Null = IsPointer ty
FitsOperand counts ty (operands.Place k offset) = IsPointer ty × ((k < counts.globals) × (offset < 2 ^ 64))
FitsOperand counts ty operands.Poison = IsNoVoid ty

-- `T V`
abbrev pub FitsTyped : Counts → Ty → Operand → Type 0
FitsTyped counts ty operand = FitsTy ty × FitsOperand counts ty operand

-- the tables of a module without named types
abbrev pub no_types : Types
no_types = record { names = record { numbered = []; named = [] }; bodies = []; entries = [] }

-- integers that can stand in memory, and counts below 2^64
abbrev pub fits_step : memory.MemTy-F Bool → Bool
fits_step (memory.Int width) = is_memory_width width
fits_step memory.Ptr = true
fits_step (memory.Array count element) = nat_lt count (2 ^ 64) && element
fits_step (memory.Struct fields packed) = list_all (λ (fits : Bool). fits) fields

abbrev pub fits_memory : MemTy → Bool
fits_memory = fold-MemTy Bool fits_step

-- a type of memory within its limits
abbrev pub FitsMemory : MemTy → Type 0
FitsMemory ty = (fits_memory ty ≡ true) × (((measure ty).nodes ≤ 4096) × (capped_passing (measured ty).passing ≡ None))

-- a name that isn't one of LLVM's own
abbrev pub IsOwnName : List ℕ → Type 0
IsOwnName name = starts_with nat_eq name (codes "llvm.") ≡ false

abbrev pub FitsArgument : Counts → Ty × Operand → Type 0
FitsArgument counts argument = FitsTyped counts argument.0 argument.1

-- the last argument is `i1 false`
abbrev pub EndsQuietly : List (Ty × Operand) → Type 0
EndsQuietly [] = ⊥
EndsQuietly (argument ∷ []) = (argument.0 ≡ values.Int 1) × (argument.1 ≡ operands.Num 0)
EndsQuietly (argument ∷ next ∷ rest) = EndsQuietly (next ∷ rest)

-- the length, where it is there, is of 32 or 64 bits
abbrev pub HasLength : List (Ty × Operand) → Type 0
HasLength (to ∷ from ∷ bytes ∷ rest) = (bytes.0 ≡ values.Int 32) ⊎ (bytes.0 ≡ values.Int 64)
HasLength arguments = Unit {0}

-- the first argument, where it is there, is an integer
abbrev pub HasFirst : List (Ty × Operand) → Type 0
HasFirst [] = Unit {0}
HasFirst (argument ∷ rest) = (width : ℕ) × (argument.0 ≡ values.Int width) × (1 ≤ width) × (width ≤ MAX_WIDTH)

-- the arguments that the name of a built-in asks
abbrev pub FitsBuiltIn : BuiltIn → List (Ty × Operand) → Type 0
FitsBuiltIn built.MemCpy arguments = HasLength arguments × EndsQuietly arguments
FitsBuiltIn built.MemMove arguments = HasLength arguments × EndsQuietly arguments
FitsBuiltIn built.MemSet arguments = HasLength arguments × EndsQuietly arguments
FitsBuiltIn which arguments = HasFirst arguments

abbrev pub FitsIncoming : Counts → Ty → Operand × ℕ → Type 0
FitsIncoming counts ty incoming = FitsOperand counts ty incoming.0 × (incoming.1 < counts.blocks)

abbrev pub FitsCase : Counts → Ty → ℕ × ℕ → Type 0
FitsCase counts ty case = FitsNumber ty case.0 × (case.1 < counts.blocks)

-- an operation in a function of this result, by the type that it gives; whether it stands in the entry block
abbrev pub FitsOperation : Module → Counts → Bool → Ty → Ty → Op → Type 0
FitsOperation m counts entry ret gives (ops.Binary op flags a b) = FitsTyped counts gives a × FitsOperand counts gives b
FitsOperation m counts entry ret gives (ops.Icmp predicate flags ty a b) = (gives ≡ values.Int 1) × (FitsTyped counts ty a × FitsOperand counts ty b)
FitsOperation m counts entry ret gives (ops.Cast op flags from a) = FitsTy gives × FitsTyped counts from a
FitsOperation m counts entry ret gives (ops.Select condition a b) = FitsOperand counts (values.Int 1) condition × (FitsTyped counts gives a × FitsOperand counts gives b)
FitsOperation m counts entry ret gives (ops.Freeze a) = FitsTyped counts gives a
FitsOperation m counts entry ret gives (ops.Phi incoming) = FitsTy gives × Each (FitsIncoming counts gives) incoming
FitsOperation m counts entry ret gives (ops.Alloca ty count) = (gives ≡ values.Ptr) × ((entry ≡ true) × (FitsMemory ty × (count < 2 ^ 64)))
FitsOperation m counts entry ret gives (ops.Load address) = FitsTy gives × FitsOperand counts values.Ptr address
FitsOperation m counts entry ret gives (ops.Store ty value address) = (gives ≡ values.Void) × (FitsTyped counts ty value × FitsOperand counts values.Ptr address)
FitsOperation m counts entry ret gives (ops.Gep ty base offsets) = (gives ≡ values.Ptr) × (FitsMemory ty × (FitsOperand counts values.Ptr base × Each (FitsArgument counts) offsets))
FitsOperation m counts entry ret gives (ops.Call callee arguments) =
    FitsTy gives × ((callee < counts.functions) × (IsOwnName (function_of (slice_get m.functions callee)) × Each (FitsArgument counts) arguments))
FitsOperation m counts entry ret gives (ops.BuiltIn which arguments) = FitsTy gives × (FitsBuiltIn which arguments × Each (FitsArgument counts) arguments)
FitsOperation m counts entry ret gives (ops.Ret None) = gives ≡ values.Void
FitsOperation m counts entry ret gives (ops.Ret (Some value)) = (gives ≡ values.Void) × (IsNoVoid ret × FitsTyped counts ret value)
FitsOperation m counts entry ret gives (ops.Br block) = (gives ≡ values.Void) × (block < counts.blocks)
FitsOperation m counts entry ret gives (ops.CondBr condition first second) = (gives ≡ values.Void) × (FitsOperand counts (values.Int 1) condition × ((first < counts.blocks) × (second < counts.blocks)))
FitsOperation m counts entry ret gives (ops.Switch ty value otherwise cases) = (gives ≡ values.Void) × (FitsTyped counts ty value × ((otherwise < counts.blocks) × Each (FitsCase counts ty) cases))
FitsOperation m counts entry ret gives ops.Unreachable = gives ≡ values.Void

-- what the grammar asks of an operation: flags of its operator, a result where it gives one, something that comes into a `phi`, and integers as indices
abbrev pub HasForm : Ty → Op → Type 0
HasForm gives (ops.Binary op flags a b) = IsNoVoid gives × (masked (allowed_of op) flags ≡ flags)
HasForm gives (ops.Icmp predicate flags ty a b) = masked samesign_flag flags ≡ flags
HasForm gives (ops.Cast op flags from a) = IsNoVoid gives × (masked (allowed_of_cast op) flags ≡ flags)
HasForm gives (ops.Select condition a b) = IsNoVoid gives
HasForm gives (ops.Freeze a) = IsNoVoid gives
HasForm gives (ops.Phi []) = ⊥
HasForm gives (ops.Phi (incoming ∷ others)) = IsNoVoid gives
HasForm gives (ops.Load address) = IsNoVoid gives
HasForm gives (ops.Gep ty base offsets) = Each IsOffset offsets
HasForm gives op = Unit {0}

-- an instruction in a function of this result; whether it stands in the entry block
abbrev pub FitsInstruction : Module → Counts → Bool → Ty → Inst → Type 0
FitsInstruction m counts entry ret inst = FitsOperation m counts entry ret inst.gives inst.op × HasForm inst.gives inst.op

-- the blocks of a function: the first is the entry block
abbrev pub FitsBlocks : Module → Counts → Bool → Ty → List Block → Type 0
FitsBlocks m counts entry ret [] = Unit {0}
FitsBlocks m counts entry ret (block ∷ blocks) = Each (FitsInstruction m counts entry ret) block.insts × FitsBlocks m counts false ret blocks

-- the cases of switches, the arguments of calls and the indices of addresses, and one for each instruction
abbrev pub parts_and_one : Inst → ℕ
parts_and_one inst = 1 + parts_in inst.op

abbrev pub block_parts : List Block → ℕ
block_parts [] = 0
block_parts (block ∷ blocks) = sum_by parts_and_one block.insts + block_parts blocks

abbrev pub results_in : List Block → ℕ
results_in [] = 0
results_in (block ∷ blocks) = results block.insts + results_in blocks

-- what is there to be named in a function of a module
abbrev pub counts_of : Module → Function → Counts
counts_of m function = record { globals = length m.globals; functions = length m.functions; values = length function.params + results_in function.blocks; blocks = length function.blocks }

abbrev pub FitsParameter : Ty → Type 0
FitsParameter ty = FitsTy ty × IsNoVoid ty

abbrev pub AreBytes : List ℕ → Type 0
AreBytes name = list_all (λ byte. nat_lt byte 256) name ≡ true

-- a function of a module
pub record FitsFunction (m : Module) (function : Function) : Type 0 where
  pub name : AreBytes function.name
  pub ret : FitsTy function.ret
  pub params : Each FitsParameter function.params
  pub few : length function.params ≤ 8
  pub units : block_parts function.blocks ≤ 16384
  pub held : length function.blocks < 2 ^ 64
  pub blocks : FitsBlocks m (counts_of m function) true function.ret function.blocks

-- a number below two to the width of an integer type of memory
abbrev pub fits_number : memory.MemTy-F MemTy → ℕ → Bool
fits_number (memory.Int width) n = nat_lt n (2 ^ width)
fits_number memory.Ptr n = false
fits_number (memory.Array count element) n = false
fits_number (memory.Struct fields packed) n = false

abbrev pub is_pointer : memory.MemTy-F MemTy → Bool
is_pointer (memory.Int width) = false
is_pointer memory.Ptr = true
is_pointer (memory.Array count element) = false
is_pointer (memory.Struct fields packed) = false

abbrev pub is_byte : memory.MemTy-F MemTy → Bool
is_byte (memory.Int width) = nat_eq width 8
is_byte memory.Ptr = false
is_byte (memory.Array count element) = false
is_byte (memory.Struct fields packed) = false

-- an array of so many bytes
abbrev pub has_bytes : memory.MemTy-F MemTy → ℕ → Bool
has_bytes (memory.Int width) n = false
has_bytes memory.Ptr n = false
has_bytes (memory.Array count element) n = is_byte (out-MemTy element) && nat_eq n count
has_bytes (memory.Struct fields packed) n = false

-- items of these types, one by one
abbrev pub fit_each : List (MemTy → Bool) → List MemTy → Bool
fit_each [] [] = true
fit_each [] (ty ∷ tys) = false
fit_each (item ∷ items) [] = false
fit_each (item ∷ items) (ty ∷ tys) = item ty && fit_each items tys

-- the items of a list: as many as the array counts, or one for each field
abbrev pub fit_items : memory.MemTy-F MemTy → List (MemTy → Bool) → Bool
fit_items (memory.Int width) items = false
fit_items memory.Ptr items = false
fit_items (memory.Array count element) items = nat_eq (length items) count && list_all (λ (item : MemTy → Bool). item element) items
fit_items (memory.Struct fields packed) items = fit_each items fields

-- an initial value as its type asks, in a module of so many globals
abbrev pub init_fits_step : ℕ → init.Init-F (MemTy → Bool) → MemTy → Bool
init_fits_step globals (init.Num n) ty = fits_number (out-MemTy ty) n
init_fits_step globals init.Null ty = is_pointer (out-MemTy ty)
init_fits_step globals init.Zero ty = true
init_fits_step globals (init.Place k offset) ty = is_pointer (out-MemTy ty) && (nat_lt k globals && nat_lt offset (2 ^ 64))
init_fits_step globals (init.Bytes bytes) ty = has_bytes (out-MemTy ty) (length bytes) && list_all (λ byte. nat_lt byte 256) bytes
init_fits_step globals (init.List items) ty = fit_items (out-MemTy ty) items

abbrev pub init_fits : ℕ → Init → MemTy → Bool
init_fits globals = fold-Init (MemTy → Bool) (init_fits_step globals)

-- a global of a module
pub record FitsGlobal (m : Module) (global : Global) : Type 0 where
  pub name : AreBytes global.name
  pub ty : FitsMemory global.ty
  pub init : init_fits (length m.globals) global.init global.ty ≡ true

-- what the names of globals and functions stand for, in order of text
abbrev pub global_entries : ℕ → List Global → List (List ℕ × Target)
global_entries k [] = []
global_entries k (global ∷ globals) = (global.name, targets.Global k) ∷ global_entries (k + 1) globals

abbrev pub function_entries : ℕ → List Function → List (List ℕ × Target)
function_entries k [] = []
function_entries k (function ∷ functions) = (function.name, targets.Function k) ∷ function_entries (k + 1) functions

-- each name is none of those before it
abbrev pub AllNew : List (List ℕ × Target) → List (List ℕ × Target) → Type 0
AllNew before [] = Unit {0}
AllNew before (one ∷ more) = (target_named one.0 before ≡ None) × AllNew (before ++ one ∷ []) more

-- a function under a name that no built-in has
abbrev pub HasOwnName : Function → Type 0
HasOwnName function = built_in_of function.name ≡ None

-- a module whose parts fit, whose names are distinct and that is within the limits of a module
pub record FitsModule (m : Module) : Type 0 where
  pub globals : Each (FitsGlobal m) m.globals
  pub functions : Each (FitsFunction m) m.functions
  pub global_names : AllNew [] (global_entries 0 m.globals)
  pub function_names : AllNew (global_entries 0 m.globals) (function_entries 0 m.functions)
  pub own_names : Each HasOwnName m.functions
  pub few_globals : length m.globals ≤ 4096
  pub few_functions : length m.functions ≤ 1024
