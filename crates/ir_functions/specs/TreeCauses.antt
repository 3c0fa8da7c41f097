-- Why a tree has no module, and trees that have the forms of a module whatever their names stand for.
use Rattle.std.specs.Prelude.{◌≡◌, ◌⊎◌, ℕ, ◌<◌, List, [], length, Option, Some, None, Result, Ok, Err}
use Rattle.ir_grammar.specs.declared.type_tree.TypeNode.{TypeNode}
use Rattle.ir_grammar.specs.declared.type_tree.Align.{Align}
use Rattle.ir_tree.specs.declared.tree.NamedType.{NamedType}
use Rattle.ir_tree.specs.declared.tree.Global.{Global}
use Rattle.ir_tree.specs.declared.tree.Function.{Function}
use Rattle.ir_tree.specs.declared.tree.Tree.{Tree}
use Rattle.ir_core.specs.declared.types.MemTy.{MemTy}
use Rattle.ir_core.specs.declared.program.What.TheVariants as what
use Rattle.ir_types.specs.declared.fault.Fault.{Fault}
use Rattle.ir_types.specs.declared.fault.Fault.TheVariants as faults
use Rattle.ir_types.specs.declared.names.Table.{Table}
use Rattle.ir_types.specs.declared.table.Types.{Types}
use Rattle.ir_types.specs.Names.{Symbols}
use Rattle.ir_types.specs.Parts.{part_of}
use Rattle.ir_types.specs.Types.{memory}
use Rattle.ir_types.specs.Replaced.{Definitions}
use Rattle.ir_types.specs.Summaries.{IsUnresolved}
use Rattle.ir_resolve.specs.Inits.{init_of}
use Rattle.ir_resolve.specs.declared.named.TypeNames.{TypeNames}
use Rattle.ir_resolve.specs.declared.globals.GlobalNames.{GlobalNames}
use Rattle.ir_resolve.specs.Named.{name_step, names_of, bodies_of, IsTypesOf}
use Rattle.ir_resolve.specs.Globals.{align_of, global_name, global_names}
use Rattle.ir_resolve.specs.Causes.{IsMisspelt, IsMisspeltLocal}
use Rattle.ir_instructions.specs.Causes.{Among, Reached, SyntaxWhere}
use Rattle.ir_functions.specs.declared.functions.SymbolList.{SymbolList}
use Rattle.ir_functions.specs.Functions.{symbol_step, symbols_of}
use Rattle.ir_functions.specs.Causes.{NameWhere, IsDefined, IsBuiltInName, IsTakenName, FunctionFault, FitsFunction}

-- ---- named types

abbrev pub no_type_names : TypeNames
no_type_names = record { names = record { numbered = []; named = [] }; count = 0 }

-- a type's name that doesn't read, or that a type before it has
abbrev pub TypeNameFault : List NamedType → Fault → Type 0
TypeNameFault given e = (before : TypeNames) × (one : NamedType) × Reached name_step no_type_names given before one
    × (SyntaxWhere (IsMisspeltLocal one.name) e ⊎ NameWhere one.name.left (IsDefined before.names one.name) e)

-- a part stands in a type's definition
abbrev pub HasPart : NamedType → TypeNode → Type 0
HasPart one node = (nodes : List TypeNode) × (one.ty ≡ Some nodes) × Among nodes node

-- a part of a definition has no meaning
abbrev pub TypePartFault : List NamedType → Fault → Type 0
TypePartFault given e = (names : Table) × (names_of given ≡ Ok names) × (one : NamedType) × Among given one × (node : TypeNode) × HasPart one node × (part_of names node ≡ Err e)

-- a name in a definition is that of a type that has none, or that holds itself
abbrev pub HoldingFault : List NamedType → Fault → Type 0
HoldingFault given e = (names : Table) × (names_of given ≡ Ok names) × (bodies : Definitions) × (bodies_of names given ≡ Ok bodies) × IsUnresolved bodies e

abbrev pub TypesFault : List NamedType → Fault → Type 0
TypesFault given e = TypeNameFault given e ⊎ (TypePartFault given e ⊎ HoldingFault given e)

-- ---- names of globals and functions

-- a global's name that doesn't read, or that a global before it has
abbrev pub GlobalNameFault : Tree → Fault → Type 0
GlobalNameFault tree e = (before : GlobalNames) × (given : Global) × Reached global_name (record { named = []; count = 0 }) tree.globals before given
    × (SyntaxWhere (IsMisspelt given.name) e ⊎ NameWhere given.name.left (IsTakenName before.named given.name) e)

-- a function's name that doesn't read, or that a built-in, a global or a function before it has
abbrev pub SymbolFault : Tree → Fault → Type 0
SymbolFault tree e = (names : Symbols) × (global_names tree.globals ≡ Ok names) × (before : SymbolList) × (given : Function)
    × Reached symbol_step (record { named = names; functions = 0 }) tree.functions before given
    × (SyntaxWhere (IsMisspelt given.name) e ⊎ NameWhere given.name.left (IsBuiltInName given.name ⊎ IsTakenName before.named given.name) e)

-- ---- globals

-- of globals and of functions the limit plus one is shown
abbrev pub HasManyGlobals : Tree → Fault → Type 0
HasManyGlobals tree e = (4096 < length tree.globals) × (e ≡ faults.Limit what.Globals 4097)

abbrev pub HasManyFunctions : Tree → Fault → Type 0
HasManyFunctions tree e = (1024 < length tree.functions) × (e ≡ faults.Limit what.Functions 1025)

-- why a global has no meaning: its name, its type, its initial value or an alignment
abbrev pub GlobalFault : Types → Symbols → Global → Fault → Type 0
GlobalFault types symbols given e =
    SyntaxWhere (IsMisspelt given.name) e
    ⊎ ((memory types given.ty ≡ Err e)
    ⊎ (((ty : MemTy) × (memory types given.ty ≡ Ok ty) × (init_of types symbols ty given.init ≡ Err e))
    ⊎ ((one : Align) × Among given.aligns one × (align_of one ≡ Err e))))

-- why the globals and functions of a tree have no meaning, by what names stand for
abbrev pub PartsFault : Types → Tree → Fault → Type 0
PartsFault types tree e =
    (symbols : Symbols) × (symbols_of tree.globals tree.functions ≡ Ok symbols)
    × (HasManyGlobals tree e
    ⊎ (((given : Global) × Among tree.globals given × GlobalFault types symbols given e)
    ⊎ ((given : Function) × Among tree.functions given × FunctionFault types symbols given e)))

-- why a tree whose named types are known has no module
abbrev pub KnownFault : Types → Tree → Fault → Type 0
KnownFault types tree e = HasManyFunctions tree e ⊎ (GlobalNameFault tree e ⊎ (SymbolFault tree e ⊎ PartsFault types tree e))

-- why a tree has no module
abbrev pub TreeFault : Tree → Fault → Type 0
TreeFault tree e = TypesFault tree.types e ⊎ ((types : Types) × IsTypesOf tree.types types × KnownFault types tree e)

-- ---- what fits

-- named types of which each part fits
abbrev pub FitsTypes : List NamedType → Type 0
FitsTypes given =
    ((one : NamedType) → Among given one → IsMisspeltLocal one.name → ⊥)
    × ((names : Table) → names_of given ≡ Ok names → (one : NamedType) → Among given one → (node : TypeNode) → HasPart one node → (left : ℕ) → part_of names node ≡ Err (faults.Syntax left) → ⊥)

-- a global of which each part fits
pub record FitsGlobal (types : Types) (tree : Tree) (given : Global) : Type 0 where
  pub name : IsMisspelt given.name → ⊥
  pub ty : (left : ℕ) → memory types given.ty ≡ Err (faults.Syntax left) → ⊥
  pub init : (symbols : Symbols) → symbols_of tree.globals tree.functions ≡ Ok symbols → (ty : MemTy) → memory types given.ty ≡ Ok ty → (left : ℕ) → init_of types symbols ty given.init ≡ Err (faults.Syntax left) → ⊥
  pub aligns : (one : Align) → Among given.aligns one → (left : ℕ) → align_of one ≡ Err (faults.Syntax left) → ⊥

-- a tree of which each part fits; its names needn't be defined and may be defined twice, and no limit is asked
abbrev pub FitsTree : Tree → Type 0
FitsTree tree =
    FitsTypes tree.types
    × ((types : Types) → IsTypesOf tree.types types → ((given : Global) → Among tree.globals given → FitsGlobal types tree given) × ((given : Function) → Among tree.functions given → FitsFunction types given))
