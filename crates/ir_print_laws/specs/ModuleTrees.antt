-- The trees of printed lines, blocks, functions, globals and modules, whatever the places in them.
use Rattle.std.specs.Prelude.{◌≡◌, ℕ, ◌+◌, Bool, true, false, List, [], ◌∷◌, length, Option, Some, None}
use Rattle.ir_text.specs.declared.name.Name.{Name}
use Rattle.ir_core.specs.declared.types.Ty.{Ty}
use Rattle.ir_core.specs.declared.code.Inst.{Inst}
use Rattle.ir_core.specs.declared.code.Block.{Block}
use Rattle.ir_core.specs.declared.program.Global.{Global}
use Rattle.ir_core.specs.declared.program.Function.{Function}
use Rattle.ir_core.specs.declared.program.Module.{Module}
use Rattle.ir_core.specs.Units.{has_result, results}
use Rattle.ir_instruction_trees.specs.declared.tree.Instruction.{Instruction}
use Rattle.ir_tree.specs.declared.tree.Block.{Block as BlockText}
use Rattle.ir_tree.specs.declared.tree.Parameter.{Parameter}
use Rattle.ir_tree.specs.declared.tree.Function.{Function as FunctionText}
use Rattle.ir_tree.specs.declared.tree.Global.{Global as GlobalText}
use Rattle.ir_tree.specs.declared.tree.Tree.{Tree}
use Rattle.ir_print.specs.Modules.{next_value}
use Rattle.ir_print_laws.specs.FormTrees.{IsNameOf, IsValueName, IsBlockName, IsTyTree, IsMemoryTree}
use Rattle.ir_print_laws.specs.Instructions.{AreTrees, IsOperationTree}
use Rattle.ir_print_laws.specs.Inits.{IsInitTree}

-- a name that is written
abbrev pub IsNamed : (Name → Type 0) → Option Name → Type 0
IsNamed Is given = (name : Name) × (given ≡ Some name) × Is name

-- `%vK = ` before an instruction with a result
abbrev pub IsResultTree : Bool → ℕ → Option Name → Type 0
IsResultTree true value given = IsNamed (IsValueName value) given
IsResultTree false value given = given ≡ None

-- an instruction whose result would have this number
abbrev pub IsInstructionTree : Module → Ty → ℕ → Inst → Instruction → Type 0
IsInstructionTree m ret value inst given = IsResultTree (has_result inst) value given.result × (IsOperationTree m ret inst.gives inst.op given.operation × (given.aligns ≡ []))

abbrev pub AreInstructionTrees : Module → Ty → ℕ → List Inst → List Instruction → Type 0
AreInstructionTrees m ret value [] [] = Unit {0}
AreInstructionTrees m ret value [] (one ∷ more) = ⊥
AreInstructionTrees m ret value (inst ∷ insts) [] = ⊥
AreInstructionTrees m ret value (inst ∷ insts) (one ∷ more) = IsInstructionTree m ret value inst one × AreInstructionTrees m ret (next_value value inst) insts more

-- blocks from this number on, whose first result has this number
abbrev pub AreBlockTrees : Module → Ty → ℕ → ℕ → List Block → List BlockText → Type 0
AreBlockTrees m ret number value [] [] = Unit {0}
AreBlockTrees m ret number value [] (one ∷ more) = ⊥
AreBlockTrees m ret number value (block ∷ blocks) [] = ⊥
AreBlockTrees m ret number value (block ∷ blocks) (one ∷ more) =
    IsNamed (IsBlockName number) one.label × (AreInstructionTrees m ret value block.insts one.instructions × AreBlockTrees m ret (number + 1) (value + results block.insts) blocks more)

-- parameters from this number on
abbrev pub AreParameterTrees : ℕ → List Ty → List Parameter → Type 0
AreParameterTrees number [] [] = Unit {0}
AreParameterTrees number [] (one ∷ more) = ⊥
AreParameterTrees number (ty ∷ tys) [] = ⊥
AreParameterTrees number (ty ∷ tys) (one ∷ more) = IsTyTree ty one.ty × (IsNamed (IsValueName number) one.name × AreParameterTrees (number + 1) tys more)

abbrev pub IsFunctionTree : Module → Function → FunctionText → Type 0
IsFunctionTree m function given =
    IsTyTree function.ret given.ret × (IsNameOf function.name given.name × (AreParameterTrees 0 function.params given.parameters × AreBlockTrees m function.ret 0 (length function.params) function.blocks given.blocks))

abbrev pub IsGlobalTree : List Global → Global → GlobalText → Type 0
IsGlobalTree globals global given = IsNameOf global.name given.name × (IsMemoryTree given.ty global.ty [] × (IsInitTree globals given.init global.init global.ty [] × (given.aligns ≡ [])))

-- a module: it is written without named types
abbrev pub IsModuleTree : Module → Tree → Type 0
IsModuleTree m tree = (tree.types ≡ []) × (AreTrees (IsGlobalTree m.globals) m.globals tree.globals × AreTrees (IsFunctionTree m) m.functions tree.functions)
