-- The quick code of a function of several blocks, as instructions with labels.
use Rattle.std.specs.Prelude.{[], Bool, true, false, ◌&&◌, ℕ, zero, suc, sum_by, take, ◌+◌, ◌*◌, ◌==◌, if◌then◌else◌, List, ◌∷◌, ◌++◌, length, drop, map, Option, Some, None}
use Rattle.ir_core.specs.declared.types.Ty.{Ty}
use Rattle.ir_core.specs.declared.code.Operand.{Operand}
use Rattle.ir_core.specs.declared.code.Operand.TheVariants.{Num, Poison}
use Rattle.ir_core.specs.declared.code.Op.{Op}
use Rattle.ir_core.specs.declared.code.Op.TheVariants.{Binary, Icmp, Cast, Select, Freeze, Phi, Alloca, Load as LoadFrom, Store as StoreAt, Gep, Call, BuiltIn, Ret, Br, CondBr, Switch}
use Rattle.ir_core.specs.declared.code.Inst.{Inst}
use Rattle.ir_core.specs.declared.program.Function.{Function}
use Rattle.ir_core.specs.declared.program.Global.{Global}
use Rattle.ir_core.specs.Units.{instructions, is_result}
use Rattle.rv_core.specs.declared.reg.Reg.{Reg}
use Rattle.rv_core.specs.declared.reg.Reg.TheVariants.{X0, T0, A0, T1}
use Rattle.rv_core.specs.declared.instr.BranchOp.{BranchOp}
use Rattle.rv_core.specs.declared.instr.BranchOp.TheVariants.{Beq, Bne}
use Rattle.rv_core.specs.declared.instr.Instr.{Instr}
use Rattle.ir_meaning.specs.Operators.{width}
use Rattle.ir_meaning.specs.Step.{insts_at, number_at, on_edge, phis, moves_bytes}
use Rattle.code_pieces.specs.Code.{argument_reg, load_at, store_at, store_value, call_code, leave_code, prologue}
use Rattle.quick_code.specs.Narrow.{zero_extended}
use Rattle.quick_code.specs.Operations.{value_code, values_code, operation_code, keeping_code}
use Rattle.code_pieces.specs.Bytes.{save_code, restore_code}
use Rattle.quick_code.specs.Data.{takes_data, alloca_code, moved_code}
use Rattle.code_pieces.specs.Items.{Item, Bind, Goto, Test, plain}

-- a phi's next value stands 16 bytes above its slot
abbrev pub load_next : Reg → ℕ → List Instr
load_next rd number = load_at rd (32 * number + 16)

abbrev pub store_next : Reg → ℕ → List Instr
store_next rs number = store_at rs (32 * number + 16)

-- the next value of a phi; nothing is stored for poison
abbrev pub next_code : List Global → ℕ → Operand → List Instr
next_code globals number Poison = []
next_code globals number operand = value_code globals T0 operand ++ store_next T0 number

abbrev pub next_of : List Global → ℕ → ℕ → Op → List Instr
next_of globals number from (Phi pairs) = next_code globals number (on_edge from pairs)
next_of globals number from _ = []

-- the next values of a block's phis, from that at a place on, for the edge from a block
abbrev pub nexts_code : List Global → Function → ℕ → ℕ → ℕ → List Inst → List Instr
nexts_code globals function from block place [] = []
nexts_code globals function from block place (inst ∷ insts) =
    next_of globals (number_at function block place) from inst.op ++ nexts_code globals function from block (place + 1) insts

-- the next values become the values
abbrev pub phis_code : Function → ℕ → ℕ → List Inst → List Instr
phis_code function block place [] = []
phis_code function block place (inst ∷ insts) =
    load_next T0 (number_at function block place) ++ (store_value T0 (number_at function block place) ++ phis_code function block (place + 1) insts)

-- how many labels of its own an instruction puts: that of a branch's second edge, and one for each case of a switch
abbrev pub edges_of : Op → ℕ
edges_of (CondBr condition if_true if_false) = 1
edges_of (Switch of value otherwise cases) = length cases
edges_of _ = 0

abbrev pub edges_in : List Inst → ℕ
edges_in insts = sum_by (λ inst. edges_of inst.op) insts

-- the label of a block: those of the blocks before it and of their edges come first
unfoldable pub block_label : Function → ℕ → ℕ
block_label function block = block + edges_in (instructions (take block function.blocks))

-- the label of the first edge of a block that has one; those of the others follow
abbrev pub edge_label : Function → ℕ → ℕ
edge_label function block = block_label function block + 1

-- how many labels there are
abbrev pub label_count : Function → ℕ
label_count function = block_label function (length function.blocks)

-- the next values of the phis of a block, for the edge from another
abbrev pub edge_code : List Global → Function → ℕ → ℕ → List Instr
edge_code globals function from to = nexts_code globals function from to 0 (phis (insts_at function to))

-- the edge from a block to another
abbrev pub edge_items : List Global → Function → ℕ → ℕ → List Item
edge_items globals function from to = plain (edge_code globals function from to) ++ Goto (block_label function to) ∷ []

-- the same at the end of the block: no jump leads to the block that comes next
abbrev pub last_edge_items : List Global → Function → ℕ → ℕ → List Item
last_edge_items globals function from to =
    plain (edge_code globals function from to) ++ (if to == from + 1 then [] else Goto (block_label function to) ∷ [])

-- a branch, with the edge that is taken where the comparison fails, and the one where it holds
abbrev pub branch_items : List Global → Function → ℕ → BranchOp → Operand → ℕ → ℕ → List Item
branch_items globals function block op condition fails holds =
    plain (value_code globals T0 condition)
    ++ Test op T0 X0 (edge_label function block)
    ∷ (edge_items globals function block fails ++ Bind (edge_label function block) ∷ last_edge_items globals function block holds)

-- a branch, with the edge to the block that comes next at the end
abbrev pub both_items : List Global → Function → ℕ → Operand → ℕ → ℕ → List Item
both_items globals function block condition if_true if_false =
    if if_false == block + 1
    then branch_items globals function block Beq condition if_true if_false
    else branch_items globals function block Bne condition if_false if_true

-- whether no phi stands at the head of a block
abbrev pub is_headless : List Inst → Bool
is_headless [] = true
is_headless (inst ∷ insts) = false

-- the number of the first case that leads to a block, where the first of them has this number
abbrev pub first_to : ℕ → ℕ → List (ℕ × ℕ) → ℕ
first_to number to [] = number
first_to number to (one ∷ cases) = if one.1 == to then number else first_to (number + 1) to cases

-- the label to which a case leads: that of its block, and where phis stand there that of the edge, one for all cases that lead there
abbrev pub case_label : Function → ℕ → List (ℕ × ℕ) → ℕ → ℕ
case_label function block all to = if is_headless (phis (insts_at function to)) then block_label function to else edge_label function block + first_to 0 to all

-- the tests of cases, for a number in t0
abbrev pub cases_items : List Global → Function → ℕ → List (ℕ × ℕ) → List (ℕ × ℕ) → List Item
cases_items globals function block all [] = []
cases_items globals function block all (one ∷ cases) = plain (value_code globals T1 (Num one.0)) ++ Test Beq T0 T1 (case_label function block all one.1) ∷ cases_items globals function block all cases

-- the edge of the case of a number, where it has one
abbrev pub case_edge : List Global → Function → ℕ → List (ℕ × ℕ) → ℕ → ℕ → List Item
case_edge globals function block all number to =
    if is_headless (phis (insts_at function to)) then []
    else if first_to 0 to all == number then Bind (edge_label function block + number) ∷ edge_items globals function block to
    else []

-- the edges of cases, the first of which has this number
abbrev pub case_edges : List Global → Function → ℕ → List (ℕ × ℕ) → ℕ → List (ℕ × ℕ) → List Item
case_edges globals function block all number [] = []
case_edges globals function block all number (one ∷ cases) = case_edge globals function block all number one.1 ++ case_edges globals function block all (number + 1) cases

abbrev pub are_headless : Function → List (ℕ × ℕ) → Bool
are_headless function [] = true
are_headless function (one ∷ cases) = is_headless (phis (insts_at function one.1)) && are_headless function cases

-- the edge to the block where no case holds, and those of the cases behind it; it stands at the end of the block where no case has one
abbrev pub switch_edges : List Global → Function → ℕ → ℕ → List (ℕ × ℕ) → List Item
switch_edges globals function block otherwise cases =
    if are_headless function cases then last_edge_items globals function block otherwise
    else edge_items globals function block otherwise ++ case_edges globals function block cases 0 cases

-- a switch: a test of each case, and the edges
abbrev pub switch_items : List Global → Function → ℕ → Operand → ℕ → List (ℕ × ℕ) → List Item
switch_items globals function block value otherwise cases =
    plain (value_code globals T0 value) ++ (cases_items globals function block cases cases ++ switch_edges globals function block otherwise cases)

-- the code of a return
abbrev pub return_code : List Global → Bool → ℕ → Option Operand → List Instr
return_code globals takes frame None = restore_code takes frame ++ leave_code frame
return_code globals takes frame (Some answer) = value_code globals A0 answer ++ (restore_code takes frame ++ leave_code frame)

-- the answer of a call becomes a value: the bits above its width are free until then
abbrev pub answer_code : Ty → ℕ → List Instr
answer_code gives number = if is_result gives then zero_extended (width gives) A0 ++ store_value A0 number else []

-- a call of a function
abbrev pub called_code : List Global → Ty → ℕ → List (Ty × Operand) → ℕ → List Instr
called_code globals gives callee arguments number =
    values_code globals 10 (map (λ argument. argument.1) arguments) ++ (call_code callee ++ answer_code gives number)

-- an instruction of a block, which gives the value of that number where it has a result
abbrev pub op_items : List Global → Function → ℕ → ℕ → ℕ → ℕ → Ty → Op → List Item
op_items globals function room frame block number gives (Ret answer) = plain (return_code globals (takes_data function) frame answer)
op_items globals function room frame block number gives (Br to) = last_edge_items globals function block to
op_items globals function room frame block number gives (CondBr condition if_true if_false) = both_items globals function block condition if_true if_false
op_items globals function room frame block number gives (Call callee arguments) = plain (called_code globals gives callee arguments number)
op_items globals function room frame block number gives (Binary op flags a b) = plain (operation_code globals gives (Binary op flags a b) number)
op_items globals function room frame block number gives (Icmp pred flags of a b) = plain (operation_code globals gives (Icmp pred flags of a b) number)
op_items globals function room frame block number gives (Cast op flags from a) = plain (operation_code globals gives (Cast op flags from a) number)
op_items globals function room frame block number gives (Select condition a b) = plain (operation_code globals gives (Select condition a b) number)
op_items globals function room frame block number gives (Freeze a) = plain (operation_code globals gives (Freeze a) number)
op_items globals function room frame block number gives (LoadFrom address) = plain (operation_code globals gives (LoadFrom address) number)
op_items globals function room frame block number gives (Gep ty base indices) = plain (operation_code globals gives (Gep ty base indices) number)
op_items globals function room frame block number gives (StoreAt ty a address) = plain (keeping_code globals ty a address)
op_items globals function room frame block number gives (Switch of value otherwise cases) = switch_items globals function block value otherwise cases
op_items globals function room frame block number gives (Alloca ty count) = plain (alloca_code room ty count number)
op_items globals function room frame block number gives (BuiltIn which arguments) =
    plain (if moves_bytes which then moved_code globals which arguments else operation_code globals gives (BuiltIn which arguments) number)
op_items globals function room frame block number gives _ = []

-- the instructions of a block from a place on
abbrev pub insts_items : List Global → Function → ℕ → ℕ → ℕ → ℕ → List Inst → List Item
insts_items globals function room frame block place [] = []
insts_items globals function room frame block place (inst ∷ insts) =
    op_items globals function room frame block (number_at function block place) inst.gives inst.op
    ++ insts_items globals function room frame block (place + 1) insts

abbrev pub block_items : List Global → Function → ℕ → ℕ → ℕ → List Item
block_items globals function room frame block =
    Bind (block_label function block)
    ∷ (plain (phis_code function block 0 (phis (insts_at function block)))
    ++ insts_items globals function room frame block (length (phis (insts_at function block))) (drop (length (phis (insts_at function block))) (insts_at function block)))

-- so many blocks, from one on
abbrev pub blocks_items : List Global → Function → ℕ → ℕ → ℕ → ℕ → List Item
blocks_items globals function room frame block zero = []
blocks_items globals function room frame block (suc more) = block_items globals function room frame block ++ blocks_items globals function room frame (block + 1) more

-- stores arguments of these types, from that of number p on: the bits above their widths are free until then
abbrev pub arguments_code : ℕ → List Ty → List Instr
arguments_code p [] = []
arguments_code p (ty ∷ tys) = zero_extended (width ty) (argument_reg p) ++ (store_value (argument_reg p) p ++ arguments_code (p + 1) tys)

-- a function
abbrev pub function_items : List Global → ℕ → Function → ℕ → ℕ → List Item
function_items globals symbol function room frame =
    plain (prologue symbol frame ++ save_code (takes_data function) frame)
    ++ (plain (arguments_code 0 function.params) ++ blocks_items globals function room frame 0 (length function.blocks))
