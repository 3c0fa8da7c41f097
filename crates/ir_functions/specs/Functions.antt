-- What is named inside a function, and what functions and modules say.
use Rattle.std.specs.Prelude.{◌≡◌, ◌⊎◌, ℕ, ◌+◌, Bool, true, false, nat_lt, nat_le, List, [], ◌∷◌, ◌++◌, length, Option, Some, None, Result, Ok, Err, if◌then◌else◌, nat_eq}
use Rattle.ir_text.specs.declared.name.Name.{Name}
use Rattle.ir_instruction_trees.specs.declared.tree.Instruction.{Instruction}
use Rattle.ir_tree.specs.declared.tree.Block.{Block as BlockText}
use Rattle.ir_tree.specs.declared.tree.Parameter.{Parameter}
use Rattle.ir_tree.specs.declared.tree.Function.{Function as FunctionText}
use Rattle.ir_tree.specs.declared.tree.Global.{Global as GlobalText}
use Rattle.ir_tree.specs.declared.tree.Tree.{Tree}
use Rattle.ir_instruction_trees.specs.declared.tree.Operation.{Operation}
use Rattle.ir_instruction_trees.specs.declared.tree.Operation.TheVariants as operations
use Rattle.ir_functions.specs.declared.units.UnitCount.{UnitCount}
use Rattle.ir_core.specs.declared.types.Ty.{Ty}
use Rattle.ir_core.specs.declared.types.Ty.TheVariants as values
use Rattle.ir_core.specs.declared.code.Block.{Block}
use Rattle.ir_core.specs.declared.program.Function.{Function}
use Rattle.ir_core.specs.declared.program.Module.{Module}
use Rattle.ir_core.specs.declared.program.What.{What}
use Rattle.ir_core.specs.declared.program.What.TheVariants as what
use Rattle.ir_types.specs.Types.{type_of}
use Rattle.ir_types.specs.declared.table.Types.{Types}
use Rattle.ir_types.specs.declared.fault.Fault.{Fault}
use Rattle.ir_types.specs.declared.fault.Fault.TheVariants as faults
use Rattle.ir_types.specs.declared.tables.Target.{Target}
use Rattle.ir_types.specs.declared.tables.Target.TheVariants as targets
use Rattle.ir_types.specs.Walk.{◌>>=◌, walk}
use Rattle.ir_types.specs.Tables.{put_named, put_numbered}
use Rattle.ir_types.specs.declared.names.Table.{Table}
use Rattle.ir_functions.specs.declared.locals.Numbering.{Numbering}
use Rattle.ir_functions.specs.declared.locals.ParamList.{ParamList}
use Rattle.ir_functions.specs.declared.locals.BodyNames.{BodyNames}
use Rattle.ir_functions.specs.declared.functions.InstList.{InstList}
use Rattle.ir_functions.specs.declared.functions.BlockList.{BlockList}
use Rattle.ir_functions.specs.declared.functions.FunctionList.{FunctionList}
use Rattle.ir_functions.specs.declared.functions.SymbolList.{SymbolList}
use Rattle.ir_types.specs.Names.{Symbols, is_numbered, bytes_of, number_of, if_new}
use Rattle.ir_resolve.specs.Operands.{is_ty, place_of_type}
use Rattle.ir_instructions.specs.declared.built_ins.NamedBuiltIn.{NamedBuiltIn}
use Rattle.ir_instructions.specs.BuiltIns.{built_in_of}
use Rattle.ir_instructions.specs.Instructions.{result_type, operation}
use Rattle.ir_resolve.specs.Named.{IsTypesOf, IsWrong}
use Rattle.ir_resolve.specs.Globals.{global_names, globals_of}

-- behind a number: one that was skipped doesn't come back
abbrev pub behind_number : Bool → ℕ → Numbering → Result Numbering Fault
behind_number true left after = Err (faults.Syntax left)
behind_number false left after = Ok after

-- a local by its number, which isn't below the counter
unfoldable pub number_local : Numbering → Name → Target → Result Numbering Fault
number_local before name target = do
  n ← number_of name
  numbered ← if_new (put_numbered n target before.table.numbered).0 name.left (put_numbered n target before.table.numbered).1
  behind_number (nat_lt n before.counter) name.left (record { table = record { numbered = numbered; named = before.table.named }; counter = n + 1 })

-- a local by its bytes
unfoldable pub bytes_local : Numbering → Name → Target → Result Numbering Fault
bytes_local before name target = do
  bytes ← bytes_of name
  named ← if_new (put_named bytes target before.table.named).0 name.left (put_named bytes target before.table.named).1
  Ok (record { table = record { numbered = before.table.numbered; named = named }; counter = before.counter })

-- a local without a name takes the counter's number
abbrev pub name_local : Numbering → Option Name → Target → Result Numbering Fault
name_local before None target = Ok (record { table = record { numbered = (put_numbered before.counter target before.table.numbered).1; named = before.table.named }; counter = before.counter + 1 })
name_local before (Some name) target = if is_numbered name.spelling then number_local before name target else bytes_local before name target

abbrev pub parameter_type : ℕ → Ty → Result Ty Fault
parameter_type left ty = if is_ty ty values.Void then Err (faults.Syntax left) else Ok ty

-- one more parameter
unfoldable pub parameter_step : Types → ParamList → Parameter → Result ParamList Fault
parameter_step types before given = do
  written ← type_of types given.ty
  ty ← parameter_type (place_of_type given.ty) written
  names ← name_local before.names given.name (targets.Value (length before.tys))
  Ok (record { names = names; tys = before.tys ++ ty ∷ [] })

-- an instruction without a result has no name
abbrev pub no_result : BodyNames → Option Name → Result BodyNames Fault
no_result before None = Ok before
no_result before (Some name) = Err (faults.Syntax name.left)

unfoldable pub some_result : BodyNames → Option Name → Result BodyNames Fault
some_result before result = do
  names ← name_local before.names result (targets.Value before.values)
  Ok (record { names = names; values = before.values + 1; blocks = before.blocks })

-- one more instruction's result
unfoldable pub result_step : Types → BodyNames → Instruction → Result BodyNames Fault
result_step types before given = do
  ty ← result_type types given.operation
  if is_ty ty values.Void then no_result before given.result else some_result before given.result

unfoldable pub label : BodyNames → Option Name → Result BodyNames Fault
label before given = do
  names ← name_local before.names given (targets.Block before.blocks)
  Ok (record { names = names; values = before.values; blocks = before.blocks + 1 })

-- one more block's label and results
unfoldable pub label_step : Types → BodyNames → BlockText → Result BodyNames Fault
label_step types before given = label before given.label >>= λ after. walk (result_step types) after given.instructions

-- one more instruction
unfoldable pub inst_step : Types → Symbols → Table → Ty → Bool → InstList → Instruction → Result InstList Fault
inst_step types symbols table ret entry before given = do
  ty ← result_type types given.operation
  op ← operation types symbols table ret entry given.aligns given.operation
  Ok (record { all = before.all ++ record { gives = ty; op = op } ∷ [] })

-- one more block
unfoldable pub block_step : Types → Symbols → Table → Ty → BlockList → BlockText → Result BlockList Fault
block_step types symbols table ret before given = do
  insts ← walk (inst_step types symbols table ret (nat_eq (length before.all) 0)) (record { all = [] }) given.instructions
  Ok (record { all = before.all ++ record { insts = insts.all } ∷ [] })

-- a count that is within its limit
abbrev pub within : What → ℕ → ℕ → Result (Unit {0}) Fault
within counted most count = if nat_le count most then Ok tt else Err (faults.Limit counted count)

-- the names inside a function, from its parameters on
unfoldable pub body_names : Types → Numbering → ℕ → List BlockText → Result BodyNames Fault
body_names types names values blocks = walk (label_step types) (record { names = names; values = values; blocks = 0 }) blocks

unfoldable pub parameters : Types → List Parameter → Result ParamList Fault
parameters types given = do
  _ ← within what.Parameters 8 (length given)
  walk (parameter_step types) (record { names = record { table = record { numbered = []; named = [] }; counter = 0 }; tys = [] }) given

unfoldable pub body : Types → Symbols → Table → Ty → List BlockText → Result (List Block) Fault
body types symbols table ret given = walk (block_step types symbols table ret) (record { all = [] }) given >>= λ blocks. Ok blocks.all

-- the cases of a switch, the arguments of a call, and the indices of an address
unfoldable pub parts_of : Operation → ℕ
parts_of (operations.Gep given base offsets) = length offsets
parts_of (operations.Call given is_local callee arguments) = length arguments
parts_of (operations.Switch value otherwise cases) = length cases
parts_of operation = 0

-- an instruction costs 1, and 1 more for each of its parts
abbrev pub unit_step : UnitCount → Instruction → Result UnitCount Fault
unit_step before given = Ok (record { units = before.units + (1 + parts_of given.operation) })

abbrev pub block_units_step : UnitCount → BlockText → Result UnitCount Fault
block_units_step before given = walk unit_step before given.instructions

-- the static units of a function's instructions
unfoldable pub units_of : List BlockText → Result ℕ Fault
units_of blocks = walk block_units_step (record { units = 0 }) blocks >>= λ count. Ok count.units

-- a function
unfoldable pub function : Types → Symbols → FunctionText → Result Function Fault
function types symbols given = do
  name ← bytes_of given.name
  ret ← type_of types given.ret
  params ← parameters types given.parameters
  count ← units_of given.blocks
  _ ← within what.Units 16384 count
  names ← body_names types params.names (length params.tys) given.blocks
  blocks ← body types symbols names.names.table ret given.blocks
  Ok (record { name = name; params = params.tys; ret = ret; blocks = blocks })

abbrev pub function_step : Types → Symbols → FunctionList → FunctionText → Result FunctionList Fault
function_step types symbols before given = function types symbols given >>= λ one. Ok (record { all = before.all ++ one ∷ [] })

-- a name that no built-in has
abbrev pub no_built_in : ℕ → Option NamedBuiltIn → Result (Unit {0}) Fault
no_built_in left None = Ok tt
no_built_in left (Some named) = Err (faults.Name left)

-- one more name of a function
unfoldable pub symbol_step : SymbolList → FunctionText → Result SymbolList Fault
symbol_step before given = do
  bytes ← bytes_of given.name
  _ ← no_built_in given.name.left (built_in_of bytes)
  named ← if_new (put_named bytes (targets.Function before.functions) before.named).0 given.name.left (put_named bytes (targets.Function before.functions) before.named).1
  Ok (record { named = named; functions = before.functions + 1 })

-- the names of globals and, behind them, of functions, in order of text
unfoldable pub symbols_of : List GlobalText → List FunctionText → Result Symbols Fault
symbols_of globals functions = do
  named ← global_names globals
  all ← walk symbol_step (record { named = named; functions = 0 }) functions
  Ok all.named

-- of functions the limit plus one is shown
abbrev pub few_functions : ℕ → Result (Unit {0}) Fault
few_functions count = if nat_le count 1024 then Ok tt else Err (faults.Limit what.Functions 1025)

-- the module of a tree whose named types are these
unfoldable pub module_with : Types → Tree → Result Module Fault
module_with types tree = do
  _ ← few_functions (length tree.functions)
  symbols ← symbols_of tree.globals tree.functions
  globals ← globals_of types symbols tree.globals
  functions ← walk (function_step types symbols) (record { all = [] }) tree.functions
  Ok (record { globals = globals; functions = functions.all })

-- the module of a tree, by what its named types are
abbrev pub IsModuleOf : Tree → Module → Type 0
IsModuleOf tree module_ = (types : Types) × IsTypesOf tree.types types × (module_with types tree ≡ Ok module_)

-- a fault of a tree: one of its named types, or one by what these are
abbrev pub IsTreeFault : Tree → Fault → Type 0
IsTreeFault tree e = IsWrong tree.types e ⊎ ((types : Types) × IsTypesOf tree.types types × (module_with types tree ≡ Err e))

-- it fails by such a fault, or memory was wanting
abbrev pub FailsBy : Tree → Fault → Type 0
FailsBy tree faults.NoMemory = Unit {0}
FailsBy tree (faults.Syntax left) = IsTreeFault tree (faults.Syntax left)
FailsBy tree (faults.LeftOut left) = IsTreeFault tree (faults.LeftOut left)
FailsBy tree (faults.Name left) = IsTreeFault tree (faults.Name left)
FailsBy tree (faults.Limit counted count) = IsTreeFault tree (faults.Limit counted count)

-- what is answered to a tree
abbrev pub ModuleAnswer : Tree → Result Module Fault → Type 0
ModuleAnswer tree (Ok module_) = IsModuleOf tree module_
ModuleAnswer tree (Err e) = FailsBy tree e
