-- How blocks, functions, globals and modules are printed.
use Rattle.std.specs.Prelude.{ℕ, ◌+◌, List, [], ◌∷◌, ◌++◌, length, codes, decimal, if◌then◌else◌}
use Rattle.std.specs.List.{flat_map}
use Rattle.ir_core.specs.declared.types.Ty.{Ty}
use Rattle.ir_core.specs.declared.code.Inst.{Inst}
use Rattle.ir_core.specs.declared.code.Block.{Block}
use Rattle.ir_core.specs.declared.program.Global.{Global}
use Rattle.ir_core.specs.declared.program.Function.{Function}
use Rattle.ir_core.specs.declared.program.Module.{Module}
use Rattle.ir_core.specs.Units.{has_result, results}
use Rattle.ir_print_names.specs.Names.{name_text}
use Rattle.ir_print.specs.Types.{comma, ty_text, memory_text}
use Rattle.ir_print.specs.Values.{init_text}
use Rattle.ir_print.specs.Instructions.{inst_text}

-- the number of the value behind an instruction
abbrev pub next_value : ℕ → Inst → ℕ
next_value value inst = value + (if has_result inst then 1 else 0)

-- instructions, whose first result has this number
unfoldable pub insts_text : Module → Ty → ℕ → List Inst → List ℕ
insts_text m ret value [] = []
insts_text m ret value (inst ∷ insts) = inst_text m ret value inst ++ insts_text m ret (next_value value inst) insts

-- blocks from this number on, whose first result has this number
unfoldable pub blocks_text : Module → Ty → ℕ → ℕ → List Block → List ℕ
blocks_text m ret number value [] = []
blocks_text m ret number value (block ∷ blocks) =
    codes "b" ++ decimal number ++ codes ":\n" ++ insts_text m ret value block.insts ++ blocks_text m ret (number + 1) (value + results block.insts) blocks

-- parameters from this number on
unfoldable pub params_text : ℕ → List Ty → List ℕ
params_text number [] = []
params_text number (ty ∷ tys) = comma number ++ ty_text ty ++ codes " %v" ++ decimal number ++ params_text (number + 1) tys

abbrev pub function_lines : Module → Function → List ℕ
function_lines m function =
    codes "define " ++ ty_text function.ret ++ codes " @" ++ name_text function.name ++ codes "(" ++ params_text 0 function.params ++ codes ") {\n"
    ++ blocks_text m function.ret 0 (length function.params) function.blocks ++ codes "}\n"

abbrev pub global_line : List Global → Global → List ℕ
global_line globals global = codes "@" ++ name_text global.name ++ codes " = global " ++ memory_text global.ty ++ codes " " ++ init_text globals global.init global.ty ++ codes "\n"

-- the form of a module: its globals, then its functions, with no blank line
abbrev pub module_text : Module → List ℕ
module_text m = flat_map (global_line m.globals) m.globals ++ flat_map (function_lines m) m.functions
