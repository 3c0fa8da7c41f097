-- The named types of a tree.
use Rattle.std.specs.Prelude.{◌≡◌, ◌⊎◌, ◌+◌, List, [], ◌∷◌, ◌++◌, Option, Some, None, Result, Ok, Err}
use Rattle.ir_grammar.specs.declared.type_tree.TypeNode.{TypeNode}
use Rattle.ir_tree.specs.declared.tree.NamedType.{NamedType}
use Rattle.ir_types.specs.declared.fault.Fault.{Fault}
use Rattle.ir_types.specs.declared.fault.Fault.TheVariants as faults
use Rattle.ir_types.specs.declared.tables.Target.TheVariants as targets
use Rattle.ir_types.specs.Walk.{◌>>=◌, walk}
use Rattle.ir_types.specs.declared.names.Table.{Table}
use Rattle.ir_types.specs.declared.parts.Part.{Part}
use Rattle.ir_types.specs.declared.table.Types.{Types}
use Rattle.ir_types.specs.Names.{defined}
use Rattle.ir_types.specs.Parts.{parts_of}
use Rattle.ir_types.specs.Replaced.{Definitions}
use Rattle.ir_types.specs.Summaries.{AreResolved, IsUnresolved}
use Rattle.ir_resolve.specs.declared.named.TypeNames.{TypeNames}
use Rattle.ir_resolve.specs.declared.named.BodyList.{BodyList}

-- one more name of a type, which is new
unfoldable pub name_step : TypeNames → NamedType → Result TypeNames Fault
name_step before given = defined before.names given.name (targets.Type before.count) >>= λ names. Ok (record { names = names; count = before.count + 1 })

-- the names of types, each with its number in order of text
unfoldable pub names_of : List NamedType → Result Table Fault
names_of given = walk name_step (record { names = record { numbered = []; named = [] }; count = 0 }) given >>= λ all. Ok all.names

-- the parts of a definition; an `opaque` type has none
abbrev pub body_of : Table → Option (List TypeNode) → Result (Option (List Part)) Fault
body_of names None = Ok None
body_of names (Some given) = parts_of names given >>= λ body. Ok (Some body)

abbrev pub body_step : Table → BodyList → NamedType → Result BodyList Fault
body_step names before given = body_of names given.ty >>= λ body. Ok (record { all = before.all ++ body ∷ [] })

-- the definitions in order of text
unfoldable pub bodies_of : Table → List NamedType → Result Definitions Fault
bodies_of names given = walk (body_step names) (record { all = [] }) given >>= λ list. Ok list.all

-- the named types of a tree: their names, their definitions, and what is known of each
abbrev pub IsTypesOf : List NamedType → Types → Type 0
IsTypesOf given types = (names_of given ≡ Ok types.names) × (bodies_of types.names given ≡ Ok types.bodies) × AreResolved types.bodies types.entries

-- what is wrong with the named types of a tree: a name, a definition, or that a type isn't defined or holds itself
abbrev pub IsWrong : List NamedType → Fault → Type 0
IsWrong given fault =
    (names_of given ≡ Err fault)
    ⊎ ((names : Table) × (names_of given ≡ Ok names) × ((bodies_of names given ≡ Err fault) ⊎ ((bodies : Definitions) × (bodies_of names given ≡ Ok bodies) × IsUnresolved bodies fault)))

abbrev pub IsFaultOf : List NamedType → Fault → Type 0
IsFaultOf given faults.NoMemory = Unit {0}
IsFaultOf given (faults.Syntax left) = IsWrong given (faults.Syntax left)
IsFaultOf given (faults.LeftOut left) = IsWrong given (faults.LeftOut left)
IsFaultOf given (faults.Name left) = IsWrong given (faults.Name left)
IsFaultOf given (faults.Limit what count) = IsWrong given (faults.Limit what count)

abbrev pub TypesAnswer : List NamedType → Result Types Fault → Type 0
TypesAnswer given (Ok types) = IsTypesOf given types
TypesAnswer given (Err fault) = IsFaultOf given fault
