-- Why a function has no meaning, and functions that have the forms of one whatever their names stand for.
use Rattle.std.specs.Prelude.{◌≡◌, ◌⊎◌, ℕ, ◌<◌, true, List, [], length, Option, Some, None, Ok, Bool, nat_eq, false}
use Rattle.ir_text.specs.declared.name.Name.{Name}
use Rattle.ir_grammar.specs.declared.type_tree.TypeNode.{TypeNode}
use Rattle.ir_instruction_trees.specs.declared.tree.Instruction.{Instruction}
use Rattle.ir_tree.specs.declared.tree.Block.{Block}
use Rattle.ir_tree.specs.declared.tree.Parameter.{Parameter}
use Rattle.ir_tree.specs.declared.tree.Function.{Function}
use Rattle.ir_core.specs.declared.types.Ty.{Ty}
use Rattle.ir_core.specs.declared.types.Ty.TheVariants as values
use Rattle.ir_core.specs.declared.program.What.{What}
use Rattle.ir_core.specs.declared.program.What.TheVariants as what
use Rattle.ir_types.specs.Types.{type_of}
use Rattle.ir_types.specs.declared.table.Types.{Types}
use Rattle.ir_types.specs.declared.fault.Fault.{Fault}
use Rattle.ir_types.specs.declared.fault.Fault.TheVariants as faults
use Rattle.ir_types.specs.declared.tables.Target.{Target}
use Rattle.ir_types.specs.declared.names.Table.{Table}
use Rattle.ir_types.specs.Names.{Symbols, is_numbered, bytes_of, number_of, target_of, named_target}
use Rattle.ir_resolve.specs.Causes.{TypeFault, IsNoType, IsMisspelt, IsMisspeltLocal}
use Rattle.ir_instructions.specs.declared.built_ins.NamedBuiltIn.{NamedBuiltIn}
use Rattle.ir_instructions.specs.BuiltIns.{built_in_of}
use Rattle.ir_instructions.specs.Instructions.{result_type}
use Rattle.ir_instructions.specs.Causes.{Ask, asks, Among, Reached, SyntaxWhere, Unanswered, ResultFault, Fits}
use Rattle.ir_functions.specs.declared.locals.Numbering.{Numbering}
use Rattle.ir_functions.specs.declared.locals.ParamList.{ParamList}
use Rattle.ir_functions.specs.declared.locals.BodyNames.{BodyNames}
use Rattle.ir_functions.specs.declared.functions.BlockList.{BlockList}
use Rattle.ir_functions.specs.Functions.{parameter_step, parameters, label, label_step, result_step, body_names, units_of, block_step}

-- a limit that a count passes, and the count
abbrev pub PassesLimit : What → ℕ → ℕ → Fault → Type 0
PassesLimit counted most count e = (most < count) × (e ≡ faults.Limit counted count)

-- a fault of the name at this place, where this holds
abbrev pub NameWhere : ℕ → Type 0 → Fault → Type 0
NameWhere at p faults.NoMemory = ⊥
NameWhere at p (faults.Syntax left) = ⊥
NameWhere at p (faults.LeftOut left) = ⊥
NameWhere at p (faults.Name left) = (left ≡ at) × p
NameWhere at p (faults.Limit counted count) = ⊥

-- what is named before has the name
abbrev pub IsDefined : Table → Name → Type 0
IsDefined table name = (target : Target) × (target_of table name ≡ Ok target)

-- a number below the counter
abbrev pub FallsBack : Numbering → Name → Type 0
FallsBack before name = (n : ℕ) × (is_numbered name.spelling ≡ true) × (number_of name ≡ Ok n) × (n < before.counter)

-- why a local can't have this name
abbrev pub LocalFault : Numbering → Option Name → Fault → Type 0
LocalFault before None e = ⊥
LocalFault before (Some name) e = SyntaxWhere (IsMisspeltLocal name ⊎ FallsBack before name) e ⊎ NameWhere name.left (IsDefined before.table name) e

-- why a parameter has no meaning
abbrev pub ParameterFault : Types → ParamList → Parameter → Fault → Type 0
ParameterFault types before given e = TypeFault types given.ty e ⊎ (SyntaxWhere (type_of types given.ty ≡ Ok values.Void) e ⊎ LocalFault before.names given.name e)

-- an instruction without a result has a name
abbrev pub NamesNothing : Types → Instruction → Type 0
NamesNothing types given = (name : Name) × (given.result ≡ Some name) × (result_type types given.operation ≡ Ok values.Void)

-- why an instruction's result has no meaning, in a function with this result
abbrev pub ResultNameFault : Types → List TypeNode → BodyNames → Instruction → Fault → Type 0
ResultNameFault types ret before given e = ResultFault types ret true given.aligns given.operation e ⊎ (SyntaxWhere (NamesNothing types given) e ⊎ LocalFault before.names given.result e)

-- why the names of a block have no meaning
abbrev pub BlockNamesFault : Types → List TypeNode → BodyNames → Block → Fault → Type 0
BlockNamesFault types ret before given e =
    LocalFault before.names given.label e
    ⊎ ((after : BodyNames) × (label before given.label ≡ Ok after) × (at : BodyNames) × (one : Instruction) × Reached (result_step types) after given.instructions at one × ResultNameFault types ret at one e)

abbrev pub no_names : ParamList
no_names = record { names = record { table = record { numbered = []; named = [] }; counter = 0 }; tys = [] }

abbrev pub body_start : ParamList → BodyNames
body_start given = record { names = given.names; values = length given.tys; blocks = 0 }

-- why the names in a function's body have no meaning
abbrev pub BodyNamesFault : Types → Function → Fault → Type 0
BodyNamesFault types given e = (params : ParamList) × (parameters types given.parameters ≡ Ok params) × (before : BodyNames) × (block : Block) × Reached (label_step types) (body_start params) given.blocks before block × BlockNamesFault types given.ret before block e

-- what is named in a function
abbrev pub HasNames : Types → Function → Table → Type 0
HasNames types given table = (params : ParamList) × (parameters types given.parameters ≡ Ok params) × (names : BodyNames) × (body_names types params.names (length params.tys) given.blocks ≡ Ok names) × (table ≡ names.names.table)

-- something that an instruction of a function asks isn't answered; its block is the entry block where there is none before it
abbrev pub BodyFault : Types → Symbols → Function → Fault → Type 0
BodyFault types symbols given e =
    (table : Table) × HasNames types given table × (ty : Ty) × (type_of types given.ret ≡ Ok ty)
    × (before : BlockList) × (block : Block) × Reached (block_step types symbols table ty) (record { all = [] }) given.blocks before block
    × (one : Instruction) × Among block.instructions one × Unanswered types symbols table (asks given.ret (nat_eq (length before.all) 0) one.aligns one.operation) e

abbrev pub PassesUnits : Function → Fault → Type 0
PassesUnits given e = (count : ℕ) × (units_of given.blocks ≡ Ok count) × PassesLimit what.Units 16384 count e

abbrev pub ParametersFault : Types → Function → Fault → Type 0
ParametersFault types given e = (before : ParamList) × (one : Parameter) × Reached (parameter_step types) no_names given.parameters before one × ParameterFault types before one e

-- why a function has no meaning
abbrev pub FunctionFault : Types → Symbols → Function → Fault → Type 0
FunctionFault types symbols given e =
    SyntaxWhere (IsMisspelt given.name) e
    ⊎ (TypeFault types given.ret e
    ⊎ (PassesLimit what.Parameters 8 (length given.parameters) e
    ⊎ (ParametersFault types given e
    ⊎ (PassesUnits given e
    ⊎ (BodyNamesFault types given e
    ⊎ BodyFault types symbols given e)))))

-- a built-in has the name
abbrev pub IsBuiltInName : Name → Type 0
IsBuiltInName name = (bytes : List ℕ) × (bytes_of name ≡ Ok bytes) × (named : NamedBuiltIn) × (built_in_of bytes ≡ Some named)

-- a global or a function before has the name
abbrev pub IsTakenName : List (List ℕ × Target) → Name → Type 0
IsTakenName named name = (target : Target) × (named_target named name ≡ Ok target)

-- a local whose name fits
abbrev pub FitsLocal : Numbering → Option Name → Type 0
FitsLocal before None = Unit {0}
FitsLocal before (Some name) = (IsMisspeltLocal name → ⊥) × (FallsBack before name → ⊥)

abbrev pub FitsParameter : Types → ParamList → Parameter → Type 0
FitsParameter types before given = (IsNoType types given.ty → ⊥) × (type_of types given.ty ≡ Ok values.Void → ⊥) × FitsLocal before.names given.name

abbrev pub FitsBlockNames : Types → BodyNames → Block → Type 0
FitsBlockNames types before given =
    FitsLocal before.names given.label
    × ((after : BodyNames) → label before given.label ≡ Ok after → (at : BodyNames) (one : Instruction) → Reached (result_step types) after given.instructions at one → (NamesNothing types one → ⊥) × FitsLocal at.names one.result)

abbrev pub FitsBody : Types → Function → Type 0
FitsBody types given = (block : Block) → Among given.blocks block → (one : Instruction) → Among block.instructions one → (entry : Bool) (ask : Ask) → Among (asks given.ret entry one.aligns one.operation) ask → Fits types ask

-- a function of which each part fits; its names needn't be defined and may be defined twice, and no limit is asked
pub record FitsFunction (types : Types) (given : Function) : Type 0 where
  pub name : IsMisspelt given.name → ⊥
  pub ret : IsNoType types given.ret → ⊥
  pub params : (before : ParamList) (one : Parameter) → Reached (parameter_step types) no_names given.parameters before one → FitsParameter types before one
  pub names : (params : ParamList) → parameters types given.parameters ≡ Ok params → (before : BodyNames) (block : Block) → Reached (label_step types) (body_start params) given.blocks before block → FitsBlockNames types before block
  pub body : FitsBody types given
