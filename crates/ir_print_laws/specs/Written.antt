-- Which modules are written as texts of the grammar, whatever their names stand for and their sizes are.
use Rattle.std.specs.Prelude.{◌≡◌, ◌≤◌, ◌<◌, ℕ, ◌+◌, ◌*◌, sum_by, Bool, true, false, nat_eq, slice_get, length, List, [], ◌∷◌}
use Rattle.ir_text.specs.Form.{most_turns}
use Rattle.ir_core.specs.declared.types.Ty.{Ty}
use Rattle.ir_core.specs.declared.types.Ty.TheVariants as values
use Rattle.ir_core.specs.declared.types.MemTy.{MemTy, Int}
use Rattle.ir_core.specs.declared.types.MemTy.TheVariants.{Array, Struct}
use Rattle.ir_core.specs.declared.code.Operand.{Operand}
use Rattle.ir_core.specs.declared.code.Op.{Op}
use Rattle.ir_core.specs.declared.code.Op.TheVariants as ops
use Rattle.ir_core.specs.declared.code.Inst.{Inst}
use Rattle.ir_core.specs.declared.code.Block.{Block}
use Rattle.ir_core.specs.declared.program.Init.{Init, fold-Init}
use Rattle.ir_core.specs.declared.program.Init.TheOpen as layer
use Rattle.ir_core.specs.declared.program.Init.TheVariants as inits
use Rattle.ir_core.specs.declared.program.Global.{Global}
use Rattle.ir_core.specs.declared.program.Function.{Function}
use Rattle.ir_core.specs.declared.program.Module.{Module}
use Rattle.ir_core.specs.Units.{has_result}
use Rattle.ir_core.specs.Layout.{measure}
use Rattle.ir_instruction_trees.specs.Instructions.{is_dropped_name}
use Rattle.ir_print.specs.Instructions.{function_of}
use Rattle.ir_print_laws.specs.FormTrees.{written_of}
use Rattle.ir_print_laws.specs.Instructions.{IsPlainOperation, IsLongOperation}
use Rattle.ir_print_laws.specs.Inits.{repeated}

-- each item of a list
abbrev pub Each : {X : Type 0} → (X → Type 0) → List X → Type 0
Each Is [] = Unit {0}
Each Is (x ∷ xs) = Is x × Each Is xs

abbrev pub IsInteger : Ty → Type 0
IsInteger values.Void = ⊥
IsInteger (values.Int width) = Unit {0}
IsInteger values.Ptr = ⊥

-- `iN V`
abbrev pub IsOffset : Ty × Operand → Type 0
IsOffset offset = IsInteger offset.0

-- a call whose line isn't dropped
abbrev pub IsKeptCallee : List ℕ → Type 0
IsKeptCallee name = is_dropped_name (written_of name) ≡ false

-- an operation in a function of this result that has a text
abbrev pub IsWrittenOperation : Module → Ty → Op → Type 0
IsWrittenOperation m ret (ops.Phi incoming) = IsLongOperation (ops.Phi incoming)
IsWrittenOperation m ret (ops.Alloca ty count) = IsLongOperation (ops.Alloca ty count)
IsWrittenOperation m ret (ops.Switch ty value otherwise cases) = IsLongOperation (ops.Switch ty value otherwise cases)
IsWrittenOperation m ret (ops.Gep ty base offsets) = ((measure ty).nodes ≤ 4096) × (Each IsOffset offsets × (length offsets < most_turns))
IsWrittenOperation m ret (ops.Call callee arguments) = IsKeptCallee (function_of (slice_get m.functions callee)) × (length arguments < most_turns)
IsWrittenOperation m ret (ops.BuiltIn which arguments) = length arguments < most_turns
IsWrittenOperation m ret op = IsPlainOperation ret op

-- whether an operation may have a result, has one, or, as a call, either
abbrev pub IsResultKind : Op → Bool → Type 0
IsResultKind (ops.Store ty value address) given = given ≡ false
IsResultKind (ops.Ret value) given = given ≡ false
IsResultKind (ops.Br block) given = given ≡ false
IsResultKind (ops.CondBr condition first second) given = given ≡ false
IsResultKind (ops.Switch ty value otherwise cases) given = given ≡ false
IsResultKind ops.Unreachable given = given ≡ false
IsResultKind (ops.Call callee arguments) given = Unit {0}
IsResultKind (ops.BuiltIn which arguments) given = Unit {0}
IsResultKind op given = given ≡ true

abbrev pub IsWrittenInstruction : Module → Ty → Inst → Type 0
IsWrittenInstruction m ret inst = IsResultKind inst.op (has_result inst) × IsWrittenOperation m ret inst.op

abbrev pub IsWrittenBlock : Module → Ty → Block → Type 0
IsWrittenBlock m ret block = Each (IsWrittenInstruction m ret) block.insts × (length block.insts < most_turns)

abbrev pub IsWrittenFunction : Module → Function → Type 0
IsWrittenFunction m function = Each (IsWrittenBlock m function.ret) function.blocks × ((length function.blocks < most_turns) × (length function.params < most_turns))

-- an initial value has the form of its type, or is one item
mutual
  pub data IsWrittenInit : Init → MemTy → Type 0 where
    number_written : {n width : ℕ} → nat_eq width 1 ≡ false → IsWrittenInit (inits.Num n) (Int width)
    null_written : {ty : MemTy} → IsWrittenInit inits.Null ty
    zero_written : {ty : MemTy} → IsWrittenInit inits.Zero ty
    place_written : {k offset : ℕ} {ty : MemTy} → IsWrittenInit (inits.Place k offset) ty
    text_written : {bytes : List ℕ} {ty : MemTy} → IsWrittenInit (inits.Bytes bytes) ty
    array_written : {count : ℕ} (element : MemTy) {items : List Init} → AreWrittenInits items (repeated element items) → IsWrittenInit (inits.List items) (Array count element)
    struct_written : {fields : List MemTy} {is_packed : Bool} {items : List Init} → AreWrittenInits items fields → IsWrittenInit (inits.List items) (Struct fields is_packed)

  pub data AreWrittenInits : List Init → List MemTy → Type 0 where
    none_written : AreWrittenInits [] []
    next_written : {item : Init} {items : List Init} {ty : MemTy} {tys : List MemTy} → (measure ty).nodes ≤ 4096 → IsWrittenInit item ty → AreWrittenInits items tys → AreWrittenInits (item ∷ items) (ty ∷ tys)

-- how many values there are in an initial value, itself with them
abbrev pub value_step : layer.Init-F ℕ → ℕ
value_step (layer.Num n) = 1
value_step layer.Null = 1
value_step layer.Zero = 1
value_step (layer.Place k offset) = 1
value_step (layer.Bytes bytes) = 1
value_step (layer.List counts) = 1 + sum_by (λ (n : ℕ). n) counts

abbrev pub value_count : Init → ℕ
value_count = fold-Init ℕ value_step

abbrev pub IsWrittenGlobal : Global → Type 0
IsWrittenGlobal global = ((measure global.ty).nodes ≤ 4096) × (IsWrittenInit global.init global.ty × (2 * value_count global.init < most_turns))

-- a module that is written as a text of the grammar
abbrev pub IsWritten : Module → Type 0
IsWritten m = Each IsWrittenGlobal m.globals × (Each (IsWrittenFunction m) m.functions × (length m.globals + length m.functions < most_turns))
