-- What an initial value says, as its type asks.
use Rattle.std.specs.Prelude.{ℕ, zero, suc, Bool, true, false, nat_eq, List, [], ◌∷◌, ◌++◌, length, Option, Some, None, Result, Ok, Err, if◌then◌else◌}
use Rattle.ir_text.specs.declared.name.Number.{Number}
use Rattle.ir_text.specs.Quoted.{unquoted}
use Rattle.ir_value_trees.specs.declared.value_tree.Address.{Address}
use Rattle.ir_value_trees.specs.declared.value_tree.InitNode.{InitNode}
use Rattle.ir_value_trees.specs.declared.value_tree.InitNode.TheVariants as nodes
use Rattle.ir_core.specs.declared.types.MemTy.{MemTy, out-MemTy}
use Rattle.ir_core.specs.declared.types.MemTy.TheOpen.{MemTy-F, Int, Ptr, Array, Struct}
use Rattle.ir_core.specs.declared.program.Init.{Init}
use Rattle.ir_core.specs.declared.program.Init as inits
use Rattle.ir_types.specs.declared.fault.Fault.{Fault}
use Rattle.ir_types.specs.declared.fault.Fault.TheVariants as faults
use Rattle.ir_types.specs.Walk.{◌>>=◌, or_fault}
use Rattle.ir_types.specs.Names.{Symbols}
use Rattle.ir_types.specs.declared.table.Types.{Types}
use Rattle.ir_types.specs.Types.{memory}
use Rattle.ir_resolve.specs.Literals.{literal_of}
use Rattle.ir_resolve.specs.Operands.{place_of_type}
use Rattle.ir_resolve.specs.Addresses.{address}
use Rattle.ir_resolve.specs.Same.{same_type, same_bool}

-- what is read of nodes: a value, and the nodes behind it
abbrev pub Reading : Type 0
Reading = List InitNode → Result (Init × List InitNode) Fault

-- where a node stands, by how much is left; a type stands where its first part does
abbrev pub place_of : InitNode → ℕ
place_of (nodes.Number number) = number.left
place_of (nodes.True left) = left
place_of (nodes.False left) = left
place_of (nodes.Null left) = left
place_of (nodes.Zero left) = left
place_of (nodes.Address given) = given.left
place_of (nodes.Bytes text left) = left
place_of (nodes.Array left) = left
place_of (nodes.Struct left) = left
place_of (nodes.Packed left) = left
place_of (nodes.Of given) = place_of_type given
place_of (nodes.Close left) = left

abbrev pub first_place : List InitNode → ℕ
first_place [] = 0
first_place (node ∷ rest) = place_of node

-- ---- values that are one node

abbrev pub number_of : MemTy-F MemTy → Number → Result Init Fault
number_of (Int w) number = literal_of number w >>= λ n. Ok (inits.Num n)
number_of Ptr number = Err (faults.Syntax number.left)
number_of (Array count element) number = Err (faults.Syntax number.left)
number_of (Struct fields packed) number = Err (faults.Syntax number.left)

abbrev pub is_pointer : MemTy-F MemTy → Bool
is_pointer Ptr = true
is_pointer (Int w) = false
is_pointer (Array count element) = false
is_pointer (Struct fields packed) = false

abbrev pub place_init : Types → Symbols → Address → Result Init Fault
place_init types symbols given = address types symbols given >>= λ place. Ok (inits.Place place.0 place.1)

abbrev pub is_byte : MemTy-F MemTy → Bool
is_byte (Int w) = nat_eq w 8
is_byte Ptr = false
is_byte (Array count element) = false
is_byte (Struct fields packed) = false

-- the count of an array of bytes
abbrev pub byte_count : MemTy-F MemTy → Option ℕ
byte_count (Array count element) = if is_byte (out-MemTy element) then Some count else None
byte_count (Int w) = None
byte_count Ptr = None
byte_count (Struct fields packed) = None

abbrev pub where_counted : ℕ → List ℕ → Option ℕ → Result Init Fault
where_counted left bytes None = Err (faults.Syntax left)
where_counted left bytes (Some count) = if nat_eq (length bytes) count then Ok (inits.Bytes bytes) else Err (faults.Syntax left)

-- `c"..."` for an array of as many i8
abbrev pub bytes_init : MemTy-F MemTy → List ℕ → ℕ → Result Init Fault
bytes_init ty text left = or_fault (faults.Syntax left) (unquoted text) >>= λ bytes. where_counted left bytes (byte_count ty)

abbrev pub leaf : Types → Symbols → MemTy-F MemTy → InitNode → Result Init Fault
leaf types symbols ty (nodes.Number number) = number_of ty number
leaf types symbols ty (nodes.Null left) = if is_pointer ty then Ok inits.Null else Err (faults.Syntax left)
leaf types symbols ty (nodes.Zero left) = Ok inits.Zero
leaf types symbols ty (nodes.Address given) = if is_pointer ty then place_init types symbols given else Err (faults.Syntax given.left)
leaf types symbols ty (nodes.Bytes text left) = bytes_init ty text left
leaf types symbols ty (nodes.True left) = Err (faults.Syntax left)
leaf types symbols ty (nodes.False left) = Err (faults.Syntax left)
leaf types symbols ty (nodes.Array left) = Err (faults.Syntax left)
leaf types symbols ty (nodes.Struct left) = Err (faults.Syntax left)
leaf types symbols ty (nodes.Packed left) = Err (faults.Syntax left)
leaf types symbols ty (nodes.Of given) = Err (faults.Syntax (place_of_type given))
leaf types symbols ty (nodes.Close left) = Err (faults.Syntax left)

-- ---- lists

abbrev pub closed : List Init → List InitNode → Result (Init × List InitNode) Fault
closed items [] = Err (faults.Syntax 0)
closed items (nodes.Close left ∷ rest) = Ok (inits.List items, rest)
closed items (node ∷ rest) = Err (faults.Syntax (place_of node))

-- a value behind its type, which is the one that is asked; another type is the first token that doesn't fit
abbrev pub typed : Types → (MemTy → Reading) → MemTy → Reading
typed types inner ty [] = Err (faults.Syntax 0)
typed types inner ty (nodes.Of given ∷ rest) = memory types given >>= λ written. if same_type 4096 written ty then inner ty rest else Err (faults.Syntax (place_of_type given))
typed types inner ty (node ∷ rest) = Err (faults.Syntax (place_of node))

abbrev pub elements : Reading → ℕ → List Init → Reading
elements one zero items given = closed items given
elements one (suc count) items given = one given >>= λ read. elements one count (items ++ read.0 ∷ []) read.1

abbrev pub fields_of : (MemTy → Reading) → List MemTy → List Init → Reading
fields_of one [] items given = closed items given
fields_of one (ty ∷ tys) items given = one ty given >>= λ read. fields_of one tys (items ++ read.0 ∷ []) read.1

abbrev pub array_of : (MemTy → Reading) → MemTy-F MemTy → ℕ → Reading
array_of one (Array count element) left given = elements (one element) count [] given
array_of one (Int w) left given = Err (faults.Syntax left)
array_of one Ptr left given = Err (faults.Syntax left)
array_of one (Struct fields packed) left given = Err (faults.Syntax left)

abbrev pub struct_of : (MemTy → Reading) → Bool → MemTy-F MemTy → ℕ → Reading
struct_of one packed (Struct fields is_packed) left given = if same_bool packed is_packed then fields_of one fields [] given else Err (faults.Syntax left)
struct_of one packed (Int w) left given = Err (faults.Syntax left)
struct_of one packed Ptr left given = Err (faults.Syntax left)
struct_of one packed (Array count element) left given = Err (faults.Syntax left)

-- one value, with a reading of those inside it
abbrev pub value_with : Types → Symbols → (MemTy → Reading) → MemTy → Reading
value_with types symbols one ty [] = Err (faults.Syntax 0)
value_with types symbols one ty (nodes.Array left ∷ rest) = array_of one (out-MemTy ty) left rest
value_with types symbols one ty (nodes.Struct left ∷ rest) = struct_of one false (out-MemTy ty) left rest
value_with types symbols one ty (nodes.Packed left ∷ rest) = struct_of one true (out-MemTy ty) left rest
value_with types symbols one ty (node ∷ rest) = leaf types symbols (out-MemTy ty) node >>= λ init. Ok (init, rest)

-- an initial value of a type of at most this depth
unfoldable pub value : ℕ → Types → Symbols → MemTy → Reading
value zero types symbols ty given = Err (faults.Syntax (first_place given))
value (suc depth) types symbols ty given = value_with types symbols (typed types (value depth types symbols)) ty given

abbrev pub at_end : Init → List InitNode → Result Init Fault
at_end init [] = Ok init
at_end init (node ∷ rest) = Err (faults.Syntax (place_of node))

-- the whole initial value of a global; a type within its limits is at most 4,096 deep
unfoldable pub init_of : Types → Symbols → MemTy → List InitNode → Result Init Fault
init_of types symbols ty given = value 4096 types symbols ty given >>= λ read. at_end read.0 read.1
