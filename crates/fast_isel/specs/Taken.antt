-- Which functions of several blocks the compiler takes, as a test.
use Rattle.std.specs.Prelude.{◌≡◌, ℕ, ◌^◌, Bool, true, ◌&&◌, nat_lt, nat_le, List, [], ◌∷◌, length}
use Rattle.ir_core.specs.declared.types.Ty.{Ty}
use Rattle.ir_core.specs.declared.code.Operand.{Operand}
use Rattle.ir_core.specs.declared.code.Op.{Op}
use Rattle.ir_core.specs.declared.code.Op.TheVariants.{Binary, Icmp, Cast, Select, Freeze, Alloca, Load, Store, Phi, Gep, Call, BuiltIn, Ret, Br, CondBr, Switch, Unreachable}
use Rattle.ir_core.specs.declared.code.Inst.{Inst}
use Rattle.ir_core.specs.declared.code.Block.{Block}
use Rattle.ir_core.specs.declared.program.Function.{Function}
use Rattle.ir_core.specs.declared.program.Module.{Module}
use Rattle.ir_core.specs.Units.{is_result, values}
use Rattle.ir_meaning.specs.Step.{moves_bytes}
use Rattle.quick_code.specs.Parts.{is_path}
use Rattle.fast_isel_emit.specs.Operands.{is_width, are_widths, is_given, is_operand, are_arguments, is_answer, are_indices, is_built_in}

abbrev pub are_edge_operands : ℕ → List (Operand × ℕ) → Bool
are_edge_operands n [] = true
are_edge_operands n (pair ∷ pairs) = is_operand n pair.0 && are_edge_operands n pairs

-- cases are numbers of 64 bits, and lead to blocks
abbrev pub are_cases : ℕ → List (ℕ × ℕ) → Bool
are_cases blocks [] = true
are_cases blocks (one ∷ cases) = nat_lt one.0 (2 ^ 64) && nat_lt one.1 blocks && are_cases blocks cases

-- an instruction among n values and so many blocks
abbrev pub is_form : ℕ → ℕ → Ty → Op → Bool
is_form n blocks gives (Binary op flags a b) = is_width gives && is_operand n a && is_operand n b
is_form n blocks gives (Icmp pred flags of a b) = is_result gives && is_width of && is_operand n a && is_operand n b
is_form n blocks gives (Cast op flags from a) = is_width gives && is_width from && is_operand n a
is_form n blocks gives (Select condition a b) = is_width gives && is_operand n condition && is_operand n a && is_operand n b
is_form n blocks gives (Freeze a) = is_width gives && is_operand n a
is_form n blocks gives (Load address) = is_width gives && is_operand n address
is_form n blocks gives (Store ty a address) = is_width ty && is_operand n a && is_operand n address
is_form n blocks gives (Phi pairs) = is_result gives && are_edge_operands n pairs
is_form n blocks gives (Call callee arguments) = is_given gives && nat_lt callee 1024 && nat_le (length arguments) 8 && are_arguments n arguments
is_form n blocks gives (Ret answer) = is_answer n answer
is_form n blocks gives (Br to) = nat_lt to blocks
is_form n blocks gives (CondBr condition if_true if_false) = is_operand n condition && nat_lt if_true blocks && nat_lt if_false blocks
is_form n blocks gives (Switch of value otherwise cases) = is_width of && is_operand n value && nat_lt otherwise blocks && are_cases blocks cases
is_form n blocks gives (Gep ty base indices) = is_width gives && is_operand n base && are_indices n indices && is_path ty indices
is_form n blocks gives Unreachable = true
is_form n blocks gives (Alloca of count) = true
is_form n blocks gives (BuiltIn which arguments) = is_built_in gives (moves_bytes which) arguments && are_arguments n arguments

abbrev pub are_forms : ℕ → ℕ → List Inst → Bool
are_forms n blocks [] = true
are_forms n blocks (inst ∷ insts) = is_form n blocks inst.gives inst.op && are_forms n blocks insts

abbrev pub are_blocks : ℕ → ℕ → List Block → Bool
are_blocks n many [] = true
are_blocks n many (block ∷ blocks) = are_forms n many block.insts && are_blocks n many blocks

-- at most eight parameters, 32,764 values and 16,384 blocks; each instruction has one of the forms
abbrev pub is_taken : Function → Bool
is_taken function =
    are_widths function.params && nat_le (length function.params) 8 && nat_le (values function) 32764 && nat_le (length function.blocks) 16384
    && are_blocks (values function) (length function.blocks) function.blocks

abbrev pub are_taken : List Function → Bool
are_taken [] = true
are_taken (function ∷ functions) = is_taken function && are_taken functions

-- each function is taken
abbrev pub IsTaken : Module → Type 0
IsTaken module_ = are_taken module_.functions ≡ true
